-- How a run of an image ends.
use Rattle.std.proofs.Common.{◌≡◌, ℕ, ◌+◌, ◌*◌, ◌<◌, ◌⊎◌, inl, inr, ◌∷◌, ◌++◌, arith, ap, length-append, get_or, slice_get, Bool, true, false, nat_lt, Option, None, Some, Result, Ok, Err, List, length, refl, sym, subst}
use Rattle.std.specs.Prelude.{if◌then◌else◌}
use Rattle.std.proofs.lemmas.Option.{slice_get-get_or}
use Rattle.og_base.specs.declared.Settings.{Settings}
use Rattle.og_runs.specs.declared.Choice.{Choice}
use Rattle.og_image.specs.Image.{ImageState}
use Rattle.og_image.specs.Layout.{pages_of}
use Rattle.og_io.specs.Outside.{SinkState}
use Rattle.og_base.specs.declared.NotEnabled.{NotEnabled}
use Rattle.og_machine.specs.Machine.{Setup, setup_of}
use Rattle.og_headline.specs.Headline.{IsRefused}
use Rattle.og_load.specs.declared.image.ImageFault.{ImageFault}
use Rattle.og_load.specs.declared.image.ImageFault.TheVariants.{NoFrames}
use Rattle.og_load.specs.declared.choices.ChoiceFault.TheVariants as choice
use Rattle.og_print.specs.declared.fault.RunFault.{RunFault}
use Rattle.og_print.specs.declared.fault.RunFault.TheVariants as fault
use Rattle.og_print.specs.Runs.{frames_fault, Course, by_choices, IsRunText, TextEnds, PlayEnds}
use Rattle.og_print.specs.Files.{GivenEnds}

-- what a machine isn't placed for: want of memory, or too few frames
abbrev pub IsUnplaced : ImageState → Settings → RunFault → Type 0
IsUnplaced image settings f = (f ≡ fault.Memory) ⊎ ((g : ImageFault) × (f ≡ fault.Image g) × (frames_fault image settings ≡ Some g))

pub unplaced_ends : (image : ImageState) (settings : Settings) (course : Course) (sink : SinkState) (f : RunFault) → IsUnplaced image settings f → PlayEnds image settings course sink sink (Err f)
unplaced_ends image settings course sink f (inl m) = subst (λ (x : RunFault). PlayEnds image settings course sink sink (Err x)) (sym m) (inl refl)
unplaced_ends image settings course sink f (inr g) = subst (λ (x : RunFault). PlayEnds image settings course sink sink (Err x)) (sym g.1) (refl, g.2)

pub unplaced_given : (image : ImageState) (settings : Settings) (choices : List Choice) (lines : List ℕ) (sink : SinkState) (f : RunFault) → IsUnplaced image settings f → GivenEnds image settings choices lines sink sink (Err f)
unplaced_given image settings choices lines sink f (inl m) = subst (λ (x : RunFault). GivenEnds image settings choices lines sink sink (Err x)) (sym m) (inl refl)
unplaced_given image settings choices lines sink f (inr g) = subst (λ (x : RunFault). GivenEnds image settings choices lines sink sink (Err x)) (sym g.1) (refl, g.2)

-- a run that was printed
pub text_plays : (image : ImageState) (settings : Settings) (course : Course) (text : List ℕ) (quiet : Bool) (old new : SinkState) (result : Result Bool RunFault) → frames_fault image settings ≡ None
    → IsRunText (setup_of image settings) course text quiet → TextEnds text quiet old new result → PlayEnds image settings course old new result
text_plays image settings course text quiet old new (Ok answer) placed run ends = (placed, (text, quiet, run, ends))
text_plays image settings course text quiet old new (Err fault.Unread) placed run ends = absurd ends
text_plays image settings course text quiet old new (Err fault.ChoicesUnread) placed run ends = absurd ends
text_plays image settings course text quiet old new (Err (fault.Image f)) placed run ends = absurd ends
text_plays image settings course text quiet old new (Err (fault.Choices f)) placed run ends = absurd ends
text_plays image settings course text quiet old new (Err fault.Memory) placed run (inl same) = inl same
text_plays image settings course text quiet old new (Err fault.Memory) placed run (inr cut) = inr (placed, inr (text, quiet, run, cut))
text_plays image settings course text quiet old new (Err fault.Unwritten) placed run ends = (placed, (text, quiet, run, ends))

pub text_given : (image : ImageState) (settings : Settings) (choices : List Choice) (lines : List ℕ) (text : List ℕ) (quiet : Bool) (old new : SinkState) (result : Result Bool RunFault) → frames_fault image settings ≡ None
    → IsRunText (setup_of image settings) (by_choices choices) text quiet → TextEnds text quiet old new result → GivenEnds image settings choices lines old new result
text_given image settings choices lines text quiet old new (Ok answer) placed run ends = (placed, (text, quiet, run, ends))
text_given image settings choices lines text quiet old new (Err fault.Unread) placed run ends = absurd ends
text_given image settings choices lines text quiet old new (Err fault.ChoicesUnread) placed run ends = absurd ends
text_given image settings choices lines text quiet old new (Err (fault.Image f)) placed run ends = absurd ends
text_given image settings choices lines text quiet old new (Err (fault.Choices (choice.Grammar line))) placed run ends = absurd ends
text_given image settings choices lines text quiet old new (Err (fault.Choices choice.Settings)) placed run ends = absurd ends
text_given image settings choices lines text quiet old new (Err (fault.Choices (choice.Refused line cause))) placed run ends = absurd ends
text_given image settings choices lines text quiet old new (Err (fault.Choices choice.TooLong)) placed run ends = absurd ends
text_given image settings choices lines text quiet old new (Err fault.Memory) placed run (inl same) = inl same
text_given image settings choices lines text quiet old new (Err fault.Memory) placed run (inr cut) = inr (placed, inr (text, quiet, run, cut))
text_given image settings choices lines text quiet old new (Err fault.Unwritten) placed run ends = (placed, (text, quiet, run, ends))

-- what an image has too few frames for is its pages
pub frames_are : (image : ImageState) (settings : Settings) (f : ImageFault) → frames_fault image settings ≡ Some f → f ≡ NoFrames (length (pages_of image)) (settings.nodes * settings.frames)
frames_are image settings f e = by (nat_lt (settings.nodes * settings.frames) (length (pages_of image))) e
  where
    by : (t : Bool) → ◌≡◌ {A = Option ImageFault} (if t then Some (NoFrames (length (pages_of image)) (settings.nodes * settings.frames)) else None) (Some f) → f ≡ NoFrames (length (pages_of image)) (settings.nodes * settings.frames)
    by true h = cc
    by false h = absurd (cc h)

-- the choice that is refused is one of those that are given
pub refused_within : (setup : Setup) (given : List Choice) (at : ℕ) (why : NotEnabled) → IsRefused setup given at why → at < length given
refused_within setup given at why r =
    let whole : length given ≡ length (r.before ++ r.choice ∷ r.after) = ap (λ (l : List Choice). length l) r.are_given in
    let parts : length (r.before ++ r.choice ∷ r.after) ≡ length r.before + length (r.choice ∷ r.after) = length-append r.before (r.choice ∷ r.after) in
    let place : length r.before ≡ at = r.place in
    omega arith

-- so a choice that is refused stands in its line
pub refused_given : (image : ImageState) (settings : Settings) (choices : List Choice) (lines : List ℕ) (sink : SinkState) (at n : ℕ) (cause why : NotEnabled) → n ≡ at → why ≡ cause → length lines ≡ length choices
    → frames_fault image settings ≡ None → IsRefused (setup_of image settings) choices at cause → GivenEnds image settings choices lines sink sink (Err (fault.Choices (choice.Refused (get_or lines n 0) why)))
refused_given image settings choices lines sink at n cause why place reason size placed r =
    let within : at < length choices = refused_within (setup_of image settings) choices at cause r in
    let inside : at < length lines = omega arith in
    (refl, placed, (at, subst (λ (k : ℕ). slice_get lines at ≡ Some (get_or lines k 0)) (sym place) (slice_get-get_or lines at 0 inside), subst (λ (x : NotEnabled). IsRefused (setup_of image settings) choices at x) (sym reason) r))
