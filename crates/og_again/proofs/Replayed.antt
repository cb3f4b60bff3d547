-- How the replay of a printed text ends.
use Rattle.std.proofs.Common.{◌≡◌, ◌∙◌, ℕ, ◌≤◌, ◌<◌, ◌^◌, ◌⊎◌, inl, inr, Bool, true, false, Option, None, Some, Result, Ok, Err, List, length, sym, ap, ap₂, subst, arith}
use Rattle.std.specs.Prelude.{IsSomeAnd, nat_lt}
use Rattle.std.specs.Option.{option_map}
use Rattle.std.proofs.lemmas.Bool.Decides.{nat_tests}
use Rattle.og_base.specs.declared.NotEnabled.{NotEnabled}
use Rattle.og_base.specs.declared.Settings.{Settings}
use Rattle.og_runs.specs.declared.Choice.{Choice}
use Rattle.og_runs.specs.declared.Event.{Event}
use Rattle.og_runs.specs.declared.Stamp.{Stamp}
use Rattle.og_runs.specs.Runs.{choices}
use Rattle.og_msg.specs.declared.Note.{Note}
use Rattle.og_io.specs.Outside.{Files, ShelfState, SinkState, file_of, HasFile, HasLongFile}
use Rattle.og_io.specs.Sinks.{CutByWant}
use Rattle.og_trace.specs.Text.{head_of, text_of, items_of}
use Rattle.og_trace.specs.Grammar.{AllInRange, IsRead, IsWritten, IsFirstOutside, stamped_notes}
use Rattle.og_trace.proofs.Roundtrip.{accepted, as_written}
use Rattle.og_words.specs.declared.job.Given.{Given}
use Rattle.og_machine.specs.Machine.{Setup}
use Rattle.og_headline.specs.Headline.{IsPrinted, IsRefused}
use Rattle.og_headline.proofs.Refused.{refused_is_no_run}
use Rattle.og_load.specs.declared.Unused.TheVariants.{Fault}
use Rattle.og_load.specs.declared.image.ImageFault.{ImageFault}
use Rattle.og_load.specs.declared.image.ImageFault.TheVariants as images
use Rattle.og_load.specs.declared.choices.ChoiceFault.TheVariants as choice
use Rattle.og_load.specs.Choices.{feeds_of, differs, used, IsChoices, HasOtherHead, ReadFrom}
use Rattle.og_load.specs.Images.{program_fault}
use Rattle.og_ranges.proofs.Texts.{runs_are_in_range}
use Rattle.og_print.specs.declared.fault.RunFault.{RunFault}
use Rattle.og_print.specs.declared.fault.RunFault.TheVariants as fault
use Rattle.og_print.specs.Runs.{by_choices, IsRunText, TextEnds, RunEnds, file_setup, image_fault}
use Rattle.og_print.specs.Files.{AreRead, unplaced, Replays, ReplayEnds}
use Rattle.og_again.specs.Again.{any_run, IsPrintedText, TellsFile, IsTooLong, EndsAgain}
use Rattle.og_again.specs.Laws.{TextsAreRead, SimulationsPrintTexts, TextsReplay}
use Rattle.og_again.proofs.Lengths.{text_long}
use Rattle.og_again.proofs.Numbers.{same_settings}
use Rattle.og_again.proofs.Programs.{file_bytes, file_runs, program_known, frames_known}
use Rattle.og_again.proofs.Unique.{runs_replay, replays_are_unique}

-- ---- files that are told

told : (files : Option Files) (name b c : List ℕ) → IsSomeAnd files (λ fs. file_of fs name ≡ Some b) → HasFile files name c → c ≡ b
told None name b c h k = absurd h
told (Some fs) name b c h k = cc

told_long : (files : Option Files) (name b : List ℕ) (limit : ℕ) → IsSomeAnd files (λ fs. file_of fs name ≡ Some b) → HasLongFile files name limit → limit < length b
told_long None name b limit h k = absurd h
told_long (Some fs) name b limit h k = subst (λ (o : Option (List ℕ)). IsSomeAnd o (λ bytes. limit < length bytes)) h k

-- ---- what is read of a printed text

same_head : (settings : Settings) (o : Option Settings) → option_map head_of o ≡ Some (head_of settings) → o ≡ Some settings
same_head settings None e = absurd (cc)
same_head settings (Some s) e = let same : head_of s ≡ head_of settings = cc in ap (λ (t : Settings). Some t) (same_settings s settings same)

some_none : {X : Type 0} → (o : Option X) (x : X) → o ≡ None → o ≡ Some x → ⊥
some_none None x a b = cc
some_none (Some y) x a b = cc

true_false : (t : Bool) → t ≡ false → t ≡ true → ⊥
true_false true a b = cc
true_false false a b = cc

module _ (raw : Bool) (bytes : List ℕ) (settings : Settings) (text : List ℕ) (quiet : Bool) (its : IsPrintedText raw bytes settings text quiet) where
  run_printed : IsPrinted (file_setup raw bytes settings) its.run.events quiet
  run_printed = its.run.run

  in_range : length text < 2 ^ 63 → AllInRange (items_of settings its.run.events quiet)
  in_range short =
      let long : length its.run.events ≤ length (text_of settings its.run.events quiet) = text_long settings its.run.events quiet in
      let all : length text ≡ length (text_of settings its.run.events quiet) = ap (λ (t : List ℕ). length t) its.run.text_is in
      let few : length its.run.events < 2 ^ 63 = omega arith in
      runs_are_in_range (file_setup raw bytes settings) (choices its.run.events) run_printed.end its.run.events quiet (file_runs raw bytes settings its.placed) (file_bytes raw bytes settings its.are_bytes) run_printed.run few

  -- what is read of the text
  read_so : (head : Option Settings) (cs : List Choice) (lines : List ℕ) (notes : List (Stamp × Note)) → length text < 2 ^ 63 → IsRead text head cs lines notes → (head ≡ Some settings) × (cs ≡ choices its.run.events) × (notes ≡ stamped_notes its.run.events)
  read_so head cs lines notes short read =
      let w : IsWritten settings its.run.events head cs notes = as_written text settings its.run.events quiet head cs lines notes its.run.text_is (in_range short) read in
      (same_head settings head w.head_read, w.choices_read, w.notes_read)

  not_outside : (line : ℕ) → length text < 2 ^ 63 → IsFirstOutside text line → ⊥
  not_outside line short first = accepted text settings its.run.events quiet line its.run.text_is (in_range short) first

pub texts_are_read : TextsAreRead
texts_are_read raw bytes settings text quiet its short = record {
  read = λ head cs lines notes read. read_so raw bytes settings text quiet its head cs lines notes short read;
  inside = λ line first. not_outside raw bytes settings text quiet its line short first;
}

pub simulations_print_texts : SimulationsPrintTexts
simulations_print_texts raw name bytes settings number most shelf after old new quiet has are ends =
    let here : ends.1.0 ≡ bytes = told shelf.files name bytes ends.1.0 has ends.1.1.0 in
    let run = ends.1.3 in
    let text : List ℕ = run.0 in
    let at_end = run.3 in (
      text,
      at_end.1,
      record {
        are_bytes = are;
        short = subst (λ (b : List ℕ). length b ≤ 67108864) here ends.1.1.1;
        placed = subst (λ (b : List ℕ). image_fault raw b settings ≡ None) here ends.1.2;
        run = subst (λ (b : List ℕ). IsRunText (file_setup raw b settings) any_run text quiet) here (subst (λ (q : Bool). IsRunText (file_setup raw ends.1.0 settings) any_run text q) (sym at_end.0) (record { events = run.2.events; run = run.2.run.printed; text_is = run.2.text_is }));
      },
    )

module _ (raw : Bool) (bytes : List ℕ) (settings : Settings) (text : List ℕ) (quiet : Bool) (image choices_name : List ℕ) (words : Settings) (given : Given) (shelf after : ShelfState) (old new : SinkState)
    (its : IsPrintedText raw bytes settings text quiet) (has_image : TellsFile shelf image bytes) (has_text : TellsFile shelf choices_name text) (same : differs given (Some settings) ≡ false) where
  -- what was read of both files
  record Known (files : AreRead raw image choices_name words given shelf) : Type 0 where
    bytes_are : files.bytes ≡ bytes
    settings_are : files.loaded.settings ≡ settings
    choices_are : files.loaded.choices ≡ choices its.run.events

  known : (files : AreRead raw image choices_name words given shelf) → Known files
  known files =
      let here : files.read.0 ≡ text = told shelf.files choices_name text files.read.0 has_text files.read.1 in
      let within : length text ≤ 536870912 = subst (λ (t : List ℕ). length t ≤ 536870912) here files.read.2 in
      let short : length text < 2 ^ 63 = omega arith in
      let is : IsChoices words given files.read.0 files.loaded = files.read.3.1 in
      let read : IsRead text is.head files.loaded.choices files.loaded.lines is.text.notes = subst (λ (t : List ℕ). IsRead t is.head files.loaded.choices files.loaded.lines is.text.notes) here is.text.read in
      let so = read_so raw bytes settings text quiet its is.head files.loaded.choices files.loaded.lines is.text.notes short read in
      record {
        bytes_are = told shelf.files image bytes files.bytes has_image files.program.0.0;
        settings_are = is.settings ∙ ap (used words) so.0;
        choices_are = so.1;
      }

  carried : (P : Setup → List Choice → Type 0) (files : AreRead raw image choices_name words given shelf) → P (file_setup raw files.bytes files.loaded.settings) files.loaded.choices → P (file_setup raw bytes settings) (choices its.run.events)
  carried P files p =
      let k : Known files = known files in
      subst (P (file_setup raw bytes settings)) k.choices_are
      (subst (λ (s : Settings). P (file_setup raw bytes s) files.loaded.choices) k.settings_are
      (subst (λ (b : List ℕ). P (file_setup raw b files.loaded.settings) files.loaded.choices) k.bytes_are p))

  -- the run of the choices has this text
  one_text : (other : List ℕ) (end : Bool) → IsRunText (file_setup raw bytes settings) (by_choices (choices its.run.events)) other end → (other ≡ text) × (end ≡ quiet)
  one_text other end r =
      let u = replays_are_unique (file_setup raw bytes settings) (choices its.run.events) its.run.events r.events quiet end (runs_replay (file_setup raw bytes settings) its.run.events quiet (run_printed raw bytes settings text quiet its)) r.run in
      (r.text_is ∙ (ap₂ (λ (es : List (Event Note)) (q : Bool). text_of settings es q) u.0 u.1 ∙ sym its.run.text_is), u.1)

  written : (result : Result Bool RunFault) (other : List ℕ) (end : Bool) → IsRunText (file_setup raw bytes settings) (by_choices (choices its.run.events)) other end → TextEnds other end old new result → TextEnds text quiet old new result
  written result other end r ends =
      let one = one_text other end r in
      subst (λ (t : List ℕ). TextEnds t quiet old new result) one.0 (subst (λ (q : Bool). TextEnds other q old new result) one.1 ends)

  wanting : RunEnds (file_setup raw bytes settings) (by_choices (choices its.run.events)) old new (Err fault.Memory) → (new ≡ old) ⊎ CutByWant text old new
  wanting (inl none) = inl none
  wanting (inr part) = inr (subst (λ (t : List ℕ). CutByWant t old new) (one_text part.0 part.1 part.2).0 part.3)

  ended : (result : Result Bool RunFault) → Replays raw image choices_name words given shelf old new result → RunEnds (file_setup raw bytes settings) (by_choices (choices its.run.events)) old new result
  ended result r = carried (λ (s : Setup) (cs : List Choice). RunEnds s (by_choices cs) old new result) r.files r.ended

  -- ---- what doesn't happen

  no_frames : (files : AreRead raw image choices_name words given shelf) (f : ImageFault) → unplaced raw files.bytes files.loaded.settings ≡ Some f → ⊥
  no_frames files f e =
      let k : Known files = known files in
      some_none (unplaced raw bytes settings) f (frames_known raw bytes settings its.placed)
      (subst (λ (s : Settings). unplaced raw bytes s ≡ Some f) k.settings_are (subst (λ (b : List ℕ). unplaced raw b files.loaded.settings ≡ Some f) k.bytes_are e))

  no_program : (other : List ℕ) (f : ImageFault) → HasFile shelf.files image other → program_fault raw other ≡ Some f → ⊥
  no_program other f has e = some_none (program_fault raw bytes) f (program_known raw bytes settings its.placed) (subst (λ (b : List ℕ). program_fault raw b ≡ Some f) (told shelf.files image bytes other has_image has) e)

  no_refusal : (files : AreRead raw image choices_name words given shelf) (at : ℕ) (cause : NotEnabled) → IsRefused (file_setup raw files.bytes files.loaded.settings) files.loaded.choices at cause → ⊥
  no_refusal files at cause refused =
      refused_is_no_run (file_setup raw bytes settings) (choices its.run.events) at cause (run_printed raw bytes settings text quiet its).end its.run.events (carried (λ (s : Setup) (cs : List Choice). IsRefused s cs at cause) files refused) (run_printed raw bytes settings text quiet its).run

  no_outside : (line : ℕ) → ReadFrom words given choices_name shelf (Err (Fault (choice.Grammar line))) → ⊥
  no_outside line read =
      let here : read.0 ≡ text = told shelf.files choices_name text read.0 has_text read.1 in
      let within : length text ≤ 536870912 = subst (λ (t : List ℕ). length t ≤ 536870912) here read.2 in
      let short : length text < 2 ^ 63 = omega arith in
      not_outside raw bytes settings text quiet its line short (subst (λ (t : List ℕ). IsFirstOutside t line) here read.3.1)

  no_other_head : ReadFrom words given choices_name shelf (Err (Fault choice.Settings)) → ⊥
  no_other_head read =
      let here : read.0 ≡ text = told shelf.files choices_name text read.0 has_text read.1 in
      let within : length text ≤ 536870912 = subst (λ (t : List ℕ). length t ≤ 536870912) here read.2 in
      let short : length text < 2 ^ 63 = omega arith in
      let is : HasOtherHead given text = subst (HasOtherHead given) here read.3.1 in
      let so = read_so raw bytes settings text quiet its is.head is.choices is.lines is.text.notes short is.text.read in
      true_false (differs given (Some settings)) same (subst (λ (o : Option Settings). differs given o ≡ true) so.0 is.other)

  too_long : HasLongFile shelf.files choices_name 536870912 ⊎ ReadFrom words given choices_name shelf (Err (Fault choice.TooLong)) → IsTooLong text
  too_long (inl long) = inl (told_long shelf.files choices_name text 536870912 has_text long)
  too_long (inr read) =
      let here : read.0 ≡ text = told shelf.files choices_name text read.0 has_text read.1 in
      let many : nat_lt 16777216 (feeds_of text) ≡ true = subst (λ (t : List ℕ). nat_lt 16777216 (feeds_of t) ≡ true) here read.3 in
      inr (grind (arith, nat_tests))

  -- ---- how it ends

  pub ends_again : (result : Result Bool RunFault) → ReplayEnds raw image choices_name words given shelf after old new result → EndsAgain image choices_name text quiet shelf after old new result
  ends_again (Ok answer) e = let r = ended (Ok answer) e.1 in (e.0, written (Ok answer) r.0 r.1 r.2 r.3)
  ends_again (Err fault.Unread) e = e
  ends_again (Err fault.ChoicesUnread) e = (e.1.1, e.0)
  ends_again (Err fault.Unwritten) e = let r = ended (Err fault.Unwritten) e.1 in (e.0, written (Err fault.Unwritten) r.0 r.1 r.2 r.3)
  ends_again (Err fault.Memory) (there, inl none) = (there, inl none)
  ends_again (Err fault.Memory) (there, inr r) = (there, wanting (ended (Err fault.Memory) r))
  ends_again (Err (fault.Image images.TooLong)) e = let long : 67108864 < length bytes = told_long shelf.files image bytes 67108864 has_image e.2 in let short : length bytes ≤ 67108864 = its.short in absurd (omega arith)
  ends_again (Err (fault.Image (images.NoFrames need have))) e = absurd (no_frames e.2.files (images.NoFrames need have) e.2.lacking)
  ends_again (Err (fault.Image (images.Elf cause at))) e = absurd (no_program e.2.0 (images.Elf cause at) e.2.1.0 e.2.2)
  ends_again (Err (fault.Image images.Raw)) e = absurd (no_program e.2.0 images.Raw e.2.1.0 e.2.2)
  ends_again (Err (fault.Choices (choice.Refused line cause))) e = absurd (no_refusal e.2.files e.2.at cause e.2.refused)
  ends_again (Err (fault.Choices choice.TooLong)) e = (e.1.1.0, e.0, too_long e.1.1.1)
  ends_again (Err (fault.Choices (choice.Grammar line))) e = absurd (no_outside line e.1.1.1)
  ends_again (Err (fault.Choices choice.Settings)) e = absurd (no_other_head e.1.1.1)

pub texts_replay : TextsReplay
texts_replay raw bytes settings text quiet image choices_name words given shelf after old new result its has_image has_text same ends = ends_again raw bytes settings text quiet image choices_name words given shelf after old new its has_image has_text same result ends
