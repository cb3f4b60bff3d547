-- The choices that are given, one after the other.
use Rattle.std.proofs.Common.{◌≡◌, ◌∙◌, ℕ, ◌+◌, arith, refl, sym, ap, subst, Some, List, [], ◌∷◌, ◌++◌, length, length-append, append_assoc, slice_get}
use Rattle.std.proofs.lemmas.List.{append-nil}
use Rattle.og_base.specs.declared.NotEnabled.{NotEnabled}
use Rattle.og_runs.specs.declared.Choice.{Choice}
use Rattle.og_runs.specs.declared.Event.{Event}
use Rattle.og_runs.specs.Runs.{IsSorted}
use Rattle.og_runs.specs.World.{world_step}
use Rattle.og_runs.proofs.Whole.{world_more}
use Rattle.og_msg.specs.declared.Note.{Note}
use Rattle.og_image.specs.Image.{ImageState}
use Rattle.og_machine.specs.Machine.{Setup, rules, start_machine, refusal_of, is_quiet}
use Rattle.og_refine.specs.Laws.{RunsTo}
use Rattle.og_headline.specs.Headline.{IsRefused, IsReplay}
use Rattle.og_headline.proofs.Sorted.{printed}
use Rattle.og_engine.specs.Kept.{KeptMachine, machine_of, setup_in, IsMade}
use Rattle.og_driver.specs.Driven.{IsAtStart}
use Rattle.og_driver.proofs.Drawing.{same_setup}

-- after the first i choices
pub record Followed (image : ImageState) (m n : KeptMachine) (given : List Choice) (i : ℕ) (events : List (Event Note)) : Type 0 where
  pub settings : n.settings ≡ m.settings
  pub made : IsMade image n
  pub count : n.events ≡ i
  pub before : List Choice
  pub after : List Choice
  pub are_given : given ≡ before ++ after
  pub place : length before ≡ i
  pub run : RunsTo (setup_in image m) before (machine_of n) events

pub followed_start : (image : ImageState) (m : KeptMachine) (given : List Choice) → IsAtStart image m → Followed image m m given 0 []
followed_start image m given s = record {
  settings = refl;
  made = s.made;
  count = s.none;
  before = [];
  after = given;
  are_given = refl;
  place = refl;
  run = (sym s.start, refl);
}

-- what stands behind so many others
next_of : (before after : List Choice) (choice : Choice) → slice_get (before ++ after) (length before) ≡ Some choice → (rest : List Choice) × (after ≡ choice ∷ rest)
next_of [] [] choice e = absurd (cc)
next_of [] (x ∷ rest) choice e = let same : x ≡ choice = cc in (rest, ap (λ (y : Choice). y ∷ rest) same)
next_of (x ∷ before) after choice e = next_of before after choice e

-- the choice at the place that was come to
here : (image : ImageState) (m n : KeptMachine) (given : List Choice) (i : ℕ) (events : List (Event Note)) (choice : Choice) → (f : Followed image m n given i events) → slice_get given i ≡ Some choice → (rest : List Choice) × (f.after ≡ choice ∷ rest)
here image m n given i events choice f e =
    next_of f.before f.after choice (ap (λ (k : ℕ). slice_get (f.before ++ f.after) k) f.place ∙ (ap (λ (l : List Choice). slice_get l i) (sym f.are_given) ∙ e))

pub followed_next : (image : ImageState) (m n v : KeptMachine) (given : List Choice) (i : ℕ) (events : List (Event Note)) (choice : Choice) (event : Event Note) → Followed image m n given i events → slice_get given i ≡ Some choice
    → world_step (rules (setup_in image n)) (machine_of n) choice ≡ Some (machine_of v, event) → v.settings ≡ n.settings → IsMade image v → v.events ≡ n.events + 1
    → Followed image m v given (i + 1) (events ++ event ∷ [])
followed_next image m n v given i events choice event f e step settings made count =
    let setup : Setup = setup_in image m in
    let at = here image m n given i events choice f e in
    let step_here : world_step (rules setup) (machine_of n) choice ≡ Some (machine_of v, event) = subst (λ (s : Setup). world_step (rules s) (machine_of n) choice ≡ Some (machine_of v, event)) (same_setup image m n f.settings) step in
    record {
      settings = settings ∙ f.settings;
      made = made;
      count = count ∙ ap (λ (k : ℕ). k + 1) f.count;
      before = f.before ++ choice ∷ [];
      after = at.0;
      are_given = f.are_given ∙ (ap (λ (l : List Choice). f.before ++ l) at.1 ∙ sym (append_assoc f.before (choice ∷ []) at.0));
      place = (let p : length (f.before ++ choice ∷ []) ≡ length f.before + 1 = rw length-append refl in p) ∙ ap (λ (k : ℕ). k + 1) f.place;
      run = world_more (rules setup) f.before (start_machine setup) (machine_of n) (machine_of v) events choice event f.run step_here;
    }

pub followed_refused : (image : ImageState) (m n : KeptMachine) (given : List Choice) (i : ℕ) (events : List (Event Note)) (choice : Choice) (why : NotEnabled) → Followed image m n given i events → slice_get given i ≡ Some choice
    → refusal_of (setup_in image n) (machine_of n) choice ≡ Some why → IsRefused (setup_in image m) given i why
followed_refused image m n given i events choice why f e refused =
    let at = here image m n given i events choice f e in
    record {
      before = f.before;
      after = at.0;
      choice = choice;
      are_given = f.are_given ∙ ap (λ (l : List Choice). f.before ++ l) at.1;
      place = f.place;
      made = events;
      reached = machine_of n;
      run = f.run;
      refused = subst (λ (s : Setup). refusal_of s (machine_of n) choice ≡ Some why) (same_setup image m n f.settings) refused;
    }

-- all choices were made
nothing_left : (before after : List Choice) → length before ≡ length (before ++ after) → after ≡ []
nothing_left before [] e = refl
nothing_left before (x ∷ after) e = let more : length (before ++ x ∷ after) ≡ length before + (length after + 1) = rw length-append (let c : length (x ∷ after) ≡ length after + 1 = omega arith in ap (λ (k : ℕ). length before + k) c) in absurd (omega arith)

pub followed_end : (image : ImageState) (m n : KeptMachine) (given : List Choice) (i : ℕ) (events : List (Event Note)) → Followed image m n given i events → i ≡ length given → RunsTo (setup_in image m) given (machine_of n) events
followed_end image m n given i events f all =
    let none : f.after ≡ [] = nothing_left f.before f.after (f.place ∙ (all ∙ ap (λ (l : List Choice). length l) f.are_given)) in
    subst (λ (cs : List Choice). RunsTo (setup_in image m) cs (machine_of n) events) (sym (f.are_given ∙ (ap (λ (l : List Choice). f.before ++ l) none ∙ append-nil f.before))) f.run

-- sorted by stamp, the events are a replay's
pub replayed : (image : ImageState) (m n : KeptMachine) (given : List Choice) (events sorted : List (Event Note)) → IsMade image m → RunsTo (setup_in image m) given (machine_of n) events → IsSorted events sorted
    → IsReplay (setup_in image m) given sorted (is_quiet (machine_of n))
replayed image m n given events sorted made run sort = record {
  printed = printed (setup_in image m) given (machine_of n) events sorted made.2.runnable run sort;
  made = events;
  end = machine_of n;
  run = run;
  is_sorted = sort;
}
