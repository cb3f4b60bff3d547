-- The choices of the merged events, one after the other.
use Rattle.std.proofs.Common.{◌≡◌, ◌∙◌, ℕ, ◌+◌, arith, refl, sym, ap, subst, Option, None, Some, List, [], ◌∷◌, ◌++◌, length, length-append, append_assoc, slice_get}
use Rattle.std.specs.Prelude.{IsSome}
use Rattle.std.proofs.lemmas.List.{append-nil}
use Rattle.og_runs.specs.declared.Choice.{Choice}
use Rattle.og_runs.specs.declared.Event.{Event}
use Rattle.og_runs.specs.Runs.{choices}
use Rattle.og_runs.specs.World.{WorldRun, world_step}
use Rattle.og_runs.proofs.Whole.{world_more, world_next}
use Rattle.og_msg.specs.declared.Note.{Note}
use Rattle.og_image.specs.Image.{ImageState}
use Rattle.og_machine.specs.Machine.{Setup, Machine, rules, start_machine, refusal_of}
use Rattle.og_machine.proofs.Refusals.{step_allowed}
use Rattle.og_refine.specs.Laws.{RunsTo}
use Rattle.og_engine.specs.Kept.{KeptMachine, machine_of, setup_in, IsMade}
use Rattle.og_driver.specs.Driven.{IsAtStart}
use Rattle.og_driver.proofs.Drawing.{same_setup}
use Rattle.og_finish.specs.Finish.{IsRun}
use Rattle.og_finish.specs.Parts.{Makes}

-- after the first i merged events, which are all that were made
pub record Begun (image : ImageState) (m n : KeptMachine) (merged : List (Event Note)) (i : ℕ) (events : List (Event Note)) : Type 0 where
  pub settings : n.settings ≡ m.settings
  pub made : IsMade image n
  pub count : n.events ≡ i
  pub after : List (Event Note)
  pub are_merged : merged ≡ events ++ after
  pub place : length events ≡ i
  pub run : RunsTo (setup_in image m) (choices events) (machine_of n) events
  pub end : Machine
  pub rest : WorldRun (rules (setup_in image m)) (machine_of n) (choices after) end after

pub begun_start : (image : ImageState) (m : KeptMachine) (merged : List (Event Note)) → IsAtStart image m → IsRun (setup_in image m) merged → Begun image m m merged 0 []
begun_start image m merged s run = record {
  settings = refl;
  made = s.made;
  count = s.none;
  after = merged;
  are_merged = refl;
  place = refl;
  run = (sym s.start, refl);
  end = run.0;
  rest = subst (λ (w : Machine). WorldRun (rules (setup_in image m)) w (choices merged) run.0 merged) (sym s.start) run.1;
}

-- what stands behind so many others
next_of : {X : Type 0} → (before after : List X) (x : X) → slice_get (before ++ after) (length before) ≡ Some x → (rest : List X) × (after ≡ x ∷ rest)
next_of {X} [] [] x e = absurd (cc)
next_of {X} [] (y ∷ rest) x e = let same : y ≡ x = cc in (rest, ap (λ (z : X). z ∷ rest) same)
next_of {X} (y ∷ before) after x e = next_of before after x e

-- the event at the place that was come to
here : (image : ImageState) (m n : KeptMachine) (merged : List (Event Note)) (i : ℕ) (events : List (Event Note)) (event : Event Note) → (b : Begun image m n merged i events) → slice_get merged i ≡ Some event → (rest : List (Event Note)) × (b.after ≡ event ∷ rest)
here image m n merged i events event b e =
    next_of events b.after event (ap (λ (k : ℕ). slice_get (events ++ b.after) k) b.place ∙ (ap (λ (l : List (Event Note)). slice_get l i) (sym b.are_merged) ∙ e))

-- it is the next of the run
goes_here : (image : ImageState) (m n : KeptMachine) (merged : List (Event Note)) (i : ℕ) (events : List (Event Note)) (event : Event Note) (rest : List (Event Note)) → (b : Begun image m n merged i events) → b.after ≡ event ∷ rest
    → WorldRun (rules (setup_in image m)) (machine_of n) (choices (event ∷ rest)) b.end (event ∷ rest)
goes_here image m n merged i events event rest b is = subst (λ (l : List (Event Note)). WorldRun (rules (setup_in image m)) (machine_of n) (choices l) b.end l) is b.rest

some_there : {X : Type 0} → (o : Option X) (x : X) → o ≡ Some x → IsSome o
some_there None x e = absurd (cc e)
some_there (Some y) x e = refl

-- its choice isn't refused
pub begun_free : (image : ImageState) (m n : KeptMachine) (merged : List (Event Note)) (i : ℕ) (events : List (Event Note)) (event : Event Note) → Begun image m n merged i events → slice_get merged i ≡ Some event
    → refusal_of (setup_in image n) (machine_of n) event.choice ≡ None
begun_free image m n merged i events event b e =
    let setup : Setup = setup_in image m in
    let at = here image m n merged i events event b e in
    let go = goes_here image m n merged i events event at.0 b at.1 in
    let free : refusal_of setup (machine_of n) event.choice ≡ None = step_allowed setup (machine_of n) event.choice (some_there (world_step (rules setup) (machine_of n) event.choice) (go.0, go.1) go.3) in
    subst (λ (s : Setup). refusal_of s (machine_of n) event.choice ≡ None) (sym (same_setup image m n b.settings)) free

more_choices : (before : List (Event Note)) (event : Event Note) → choices (before ++ event ∷ []) ≡ choices before ++ event.choice ∷ []
more_choices [] event = refl
more_choices (x ∷ before) event = ap (λ (l : List Choice). x.choice ∷ l) (more_choices before event)

-- and it is made again
pub begun_next : (image : ImageState) (m n v : KeptMachine) (merged : List (Event Note)) (i : ℕ) (events longer : List (Event Note)) (event : Event Note) → Begun image m n merged i events → slice_get merged i ≡ Some event
    → Makes (setup_in image n) event.choice n v events longer → v.settings ≡ n.settings → IsMade image v
    → Begun image m v merged (i + 1) longer
begun_next image m n v merged i events longer event b e made settings stays =
    let setup : Setup = setup_in image m in
    let at = here image m n merged i events event b e in
    let step : world_step (rules setup) (machine_of n) event.choice ≡ Some (machine_of v, made.event) = subst (λ (s : Setup). world_step (rules s) (machine_of n) event.choice ≡ Some (machine_of v, made.event)) (same_setup image m n b.settings) made.step in
    let next = world_next (rules setup) (machine_of n) b.end (machine_of v) event made.event at.0 (goes_here image m n merged i events event at.0 b at.1) step in
    let list : longer ≡ events ++ event ∷ [] = made.list ∙ ap (λ (x : Event Note). events ++ x ∷ []) next.0 in
    let run : RunsTo setup (choices events ++ event.choice ∷ []) (machine_of v) (events ++ made.event ∷ []) = world_more (rules setup) (choices events) (start_machine setup) (machine_of n) (machine_of v) events event.choice made.event b.run step in
    let again : RunsTo setup (choices events ++ event.choice ∷ []) (machine_of v) longer = subst (λ (l : List (Event Note)). RunsTo setup (choices events ++ event.choice ∷ []) (machine_of v) l) (sym made.list) run in
    let size : length (events ++ event ∷ []) ≡ length events + 1 = rw length-append refl in
    record {
      settings = settings ∙ b.settings;
      made = stays;
      count = made.counted ∙ ap (λ (k : ℕ). k + 1) b.count;
      after = at.0;
      are_merged = b.are_merged ∙ (ap (λ (l : List (Event Note)). events ++ l) at.1 ∙ (sym (append_assoc events (event ∷ []) at.0) ∙ ap (λ (l : List (Event Note)). l ++ at.0) (sym list)));
      place = ap (λ (l : List (Event Note)). length l) list ∙ (size ∙ ap (λ (k : ℕ). k + 1) b.place);
      run = subst (λ (cs : List Choice). RunsTo setup cs (machine_of v) longer) (sym (more_choices events event) ∙ ap (λ (l : List (Event Note)). choices l) (sym list)) again;
      end = b.end;
      rest = next.1;
    }

-- all were made
nothing_left : {X : Type 0} → (before after : List X) → length before ≡ length (before ++ after) → after ≡ []
nothing_left {X} before [] e = refl
nothing_left {X} before (x ∷ after) e = let more : length (before ++ x ∷ after) ≡ length before + (length after + 1) = rw length-append (let c : length (x ∷ after) ≡ length after + 1 = omega arith in ap (λ (k : ℕ). length before + k) c) in absurd (omega arith)

pub begun_same : (image : ImageState) (m n : KeptMachine) (merged : List (Event Note)) (i : ℕ) (events : List (Event Note)) → Begun image m n merged i events → i ≡ length merged → events ≡ merged
begun_same image m n merged i events b all =
    let none : b.after ≡ [] = nothing_left events b.after (b.place ∙ (all ∙ ap (λ (l : List (Event Note)). length l) b.are_merged)) in
    sym (b.are_merged ∙ (ap (λ (l : List (Event Note)). events ++ l) none ∙ append-nil events))

pub begun_end : (image : ImageState) (m n : KeptMachine) (merged : List (Event Note)) (i : ℕ) (events : List (Event Note)) → Begun image m n merged i events → i ≡ length merged → RunsTo (setup_in image m) (choices merged) (machine_of n) merged
begun_end image m n merged i events b all = subst (λ (l : List (Event Note)). RunsTo (setup_in image m) (choices l) (machine_of n) l) (begun_same image m n merged i events b all) b.run
