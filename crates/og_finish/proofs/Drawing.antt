-- Draws while a hart isn't stopped, one after the other.
use Rattle.std.proofs.Common.{◌≡◌, ◌∙◌, ℕ, ◌+◌, ◌<◌, ◌≤◌, true, false, arith, refl, sym, ap, subst, None, Some, List, length, slice_get}
use Rattle.rand_pcg.specs.Lcg.{Lcg}
use Rattle.og_draws.specs.Draws.{start, after, draw}
use Rattle.og_runs.specs.declared.Choice.{Choice}
use Rattle.og_runs.specs.declared.Event.{Event}
use Rattle.og_runs.specs.World.{world_step}
use Rattle.og_msg.specs.declared.Note.{Note}
use Rattle.og_image.specs.Image.{ImageState}
use Rattle.og_machine.specs.Machine.{Setup, Machine, rules, refusal_of, is_stopped}
use Rattle.og_machine.specs.Choices.{enabled_of, drawn_choice}
use Rattle.og_engine.specs.Kept.{KeptMachine, machine_of, setup_in, IsMade}
use Rattle.og_driver.proofs.Drawing.{same_setup}
use Rattle.og_driver.proofs.Next.{draws, some_enabled, next_free}
use Rattle.og_finish.specs.Finish.{while_running, drawn_after}
use Rattle.og_finish.specs.Parts.{Makes, Adds}
use Rattle.og_finish.proofs.Made.{running_unquiet}
use Rattle.og_finish.proofs.Going.{Going, going_start, going_next, going_none, going_end}

-- after i draws from m: the machine n, the events behind those before, and the generator
pub record Drawing (image : ImageState) (m n : KeptMachine) (most i : ℕ) (before events : List (Event Note)) (words : Lcg) : Type 0 where
  pub settings : n.settings ≡ m.settings
  pub made : IsMade image n
  pub count : n.events ≡ m.events + i
  pub going : Going (setup_in image m) (while_running (setup_in image m)) (machine_of m) (machine_of n) most i before events
  pub words_are : words ≡ after 1 i

pub drawing_start : (image : ImageState) (m : KeptMachine) (most : ℕ) (before : List (Event Note)) (words : Lcg) → IsMade image m → words ≡ start 1 → Drawing image m m most 0 before before words
drawing_start image m most before words made is = record {
  settings = refl;
  made = made;
  count = omega arith;
  going = going_start (setup_in image m) (while_running (setup_in image m)) (machine_of m) most before;
  words_are = is;
}

-- some choice is enabled where a hart isn't stopped
pub running_enabled : (image : ImageState) (n : KeptMachine) → IsMade image n → is_stopped (machine_of n) ≡ false → 1 ≤ length (enabled_of (setup_in image n) (machine_of n))
running_enabled image n made running = some_enabled image n made (running_unquiet (machine_of n) running) running

-- the choice in the place that is drawn is the one that is named
pub drawn_named : (setup : Setup) (k place count : ℕ) (w : Machine) (choice : Choice) → place ≡ draw 1 k count → count ≡ length (enabled_of setup w) → slice_get (enabled_of setup w) place ≡ Some choice → drawn_choice setup 1 k w ≡ Some choice
drawn_named setup k place count w choice is all there =
    ap (λ (n : ℕ). slice_get (enabled_of setup w) n) (ap (λ (n : ℕ). draw 1 k n) (sym all) ∙ sym is) ∙ there

-- and isn't refused
pub drawn_free : (image : ImageState) (n : KeptMachine) (k : ℕ) (choice : Choice) → IsMade image n → is_stopped (machine_of n) ≡ false → drawn_choice (setup_in image n) 1 k (machine_of n) ≡ Some choice → refusal_of (setup_in image n) (machine_of n) choice ≡ None
drawn_free image n k choice made running named =
    next_free image n 1 k choice made (running_unquiet (machine_of n) running) (draws (setup_in image n) 1 k (machine_of n) running ∙ named)

pub drawing_next : (image : ImageState) (m n v : KeptMachine) (most i : ℕ) (before events longer : List (Event Note)) (words later : Lcg) (choice : Choice) → i < most → Drawing image m n most i before events words → is_stopped (machine_of n) ≡ false
    → drawn_choice (setup_in image n) 1 i (machine_of n) ≡ Some choice → Makes (setup_in image n) choice n v events longer → v.settings ≡ n.settings → IsMade image v → later ≡ after 1 (i + 1)
    → Drawing image m v most (i + 1) before longer later
drawing_next image m n v most i before events longer words later choice more d running drawn made settings stays goes =
    let setup : Setup = setup_in image m in
    let same = same_setup image m n d.settings in
    let named : while_running setup i (machine_of n) ≡ Some choice = rw running (subst (λ (s : Setup). drawn_choice s 1 i (machine_of n) ≡ Some choice) same drawn) in
    let step : world_step (rules setup) (machine_of n) choice ≡ Some (machine_of v, made.event) = subst (λ (s : Setup). world_step (rules s) (machine_of n) choice ≡ Some (machine_of v, made.event)) same made.step in
    let on = going_next setup (while_running setup) (machine_of m) (machine_of n) (machine_of v) most i before events choice made.event more d.going named step in
    record {
      settings = settings ∙ d.settings;
      made = stays;
      count = (let a = made.counted in let b = d.count in omega arith);
      going = subst (λ (l : List (Event Note)). Going setup (while_running setup) (machine_of m) (machine_of v) most (i + 1) before l) (sym made.list) on;
      words_are = goes;
    }

-- it ends where each hart has stopped, or all were made
pub drawing_stopped : (image : ImageState) (m n : KeptMachine) (most i : ℕ) (before events : List (Event Note)) (words : Lcg) → Drawing image m n most i before events words → is_stopped (machine_of n) ≡ true → Adds (drawn_after (setup_in image m) most (machine_of m)) (machine_of n) before events
drawing_stopped image m n most i before events words d stopped =
    let none : while_running (setup_in image m) i (machine_of n) ≡ None = rw stopped refl in
    going_none (setup_in image m) (while_running (setup_in image m)) (machine_of m) (machine_of n) most i before events d.going none

pub drawing_end : (image : ImageState) (m n : KeptMachine) (most i : ℕ) (before events : List (Event Note)) (words : Lcg) → Drawing image m n most i before events words → i ≡ most → Adds (drawn_after (setup_in image m) most (machine_of m)) (machine_of n) before events
drawing_end image m n most i before events words d all =
    going_end (setup_in image m) (while_running (setup_in image m)) (machine_of m) (machine_of n) most i before events d.going all
