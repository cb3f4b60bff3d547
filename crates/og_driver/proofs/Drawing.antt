-- A simulation, event by event.
use Rattle.std.proofs.Common.{◌≡◌, ◌∙◌, ℕ, suc, ◌+◌, ◌-◌, ◌<◌, ◌≤◌, true, arith, refl, sym, ap, subst, Some, List, [], ◌∷◌, ◌++◌, length, append_assoc}
use Rattle.std.proofs.lemmas.List.{append-nil}
use Rattle.rand_pcg.specs.Lcg.{Lcg}
use Rattle.og_draws.specs.Draws.{start, after}
use Rattle.og_runs.specs.declared.Choice.{Choice}
use Rattle.og_runs.specs.declared.Event.{Event}
use Rattle.og_runs.specs.Runs.{choices, IsSorted}
use Rattle.og_runs.specs.World.{world_step}
use Rattle.std.specs.List.Sorted.{IsPermutation}
use Rattle.std.proofs.lemmas.List.Sorted.{length_permutation}
use Rattle.og_msg.specs.declared.Note.{Note}
use Rattle.og_image.specs.Image.{ImageState}
use Rattle.og_machine.specs.Machine.{Setup, Machine, rules, is_quiet, setup_of}
use Rattle.og_machine.specs.Choices.{drawn_from, next_choice}
use Rattle.og_base.specs.declared.Settings.{Settings}
use Rattle.og_refine.specs.Laws.{RunsTo}
use Rattle.og_headline.specs.Headline.{IsSimulation, drawn}
use Rattle.og_headline.proofs.Sorted.{printed}
use Rattle.og_headline.proofs.Drawn.{drawn_quiet, drawn_zero, drawn_more, simulation_runs}
use Rattle.og_engine.specs.Kept.{KeptMachine, machine_of, setup_in, IsMade}
use Rattle.og_driver.specs.Driven.{IsAtStart, IsNextEvent}

-- after i events of a simulation from m: the machine n, the events in their order, and the generator
pub record Going (image : ImageState) (m n : KeptMachine) (number most i : ℕ) (events : List (Event Note)) (draws : Lcg) : Type 0 where
  pub settings : n.settings ≡ m.settings
  pub made : IsMade image n
  pub count : n.events ≡ i
  pub rest : drawn (setup_in image m) number most
      ≡ ((drawn_from (setup_in image m) number i (most - i) (machine_of n)).0, events ++ (drawn_from (setup_in image m) number i (most - i) (machine_of n)).1)
  pub words : draws ≡ after number i

pub going_start : (image : ImageState) (m : KeptMachine) (number most : ℕ) (draws : Lcg) → IsAtStart image m → draws ≡ start number → Going image m m number most 0 [] draws
going_start image m number most draws s words =
    let setup : Setup = setup_in image m in
    let all : most - 0 ≡ most = omega arith in
    record {
      settings = refl;
      made = s.made;
      count = s.none;
      rest = ap (λ (w : Machine). drawn_from setup number 0 most w) (sym s.start) ∙ ap (λ (k : ℕ). drawn_from setup number 0 k (machine_of m)) (sym all);
      words = words;
    }

-- the setup stays
pub same_setup : (image : ImageState) (m n : KeptMachine) → n.settings ≡ m.settings → setup_in image n ≡ setup_in image m
same_setup image m n same = ap (λ (s : Settings). setup_of image s) same

pub going_next : (image : ImageState) (m n v : KeptMachine) (number most i : ℕ) (events : List (Event Note)) (draws left : Lcg) (event : Event Note) → i < most → Going image m n number most i events draws → IsNextEvent image n v draws left event
    → Going image m v number most (i + 1) (events ++ event ∷ []) left
going_next image m n v number most i events draws left event more g next =
    let setup : Setup = setup_in image m in
    let same = same_setup image m n g.settings in
    let made = next.step number i g.words in
    let choice : Choice = made.0 in
    let next_here : next_choice setup number i (machine_of n) ≡ Some choice = subst (λ (s : Setup). next_choice s number i (machine_of n) ≡ Some choice) same made.1 in
    let step_here : world_step (rules setup) (machine_of n) choice ≡ Some (machine_of v, event) = subst (λ (s : Setup). world_step (rules s) (machine_of n) choice ≡ Some (machine_of v, event)) same made.2 in
    let fewer : most - i ≡ suc (most - (i + 1)) = omega arith in
    let later : suc i ≡ i + 1 = omega arith in
    let rest : Machine × List (Event Note) = drawn_from setup number (i + 1) (most - (i + 1)) (machine_of v) in
    let one : drawn_from setup number i (most - i) (machine_of n) ≡ (rest.0, event ∷ rest.1) =
    ap (λ (k : ℕ). drawn_from setup number i k (machine_of n)) fewer ∙ (drawn_more setup number i (most - (i + 1)) (machine_of n) (machine_of v) choice event next.unquiet next_here step_here
    ∙ ap (λ (k : ℕ). ((drawn_from setup number k (most - (i + 1)) (machine_of v)).0, event ∷ (drawn_from setup number k (most - (i + 1)) (machine_of v)).1)) later) in
    record {
      settings = next.settings ∙ g.settings;
      made = next.made;
      count = next.count ∙ ap (λ (k : ℕ). k + 1) g.count;
      rest = g.rest ∙ ap (λ (p : Machine × List (Event Note)). (p.0, events ++ p.1)) one ∙ ap (λ (l : List (Event Note)). (rest.0, l)) (sym (append_assoc events (event ∷ []) rest.1));
      words = next.words number i g.words;
    }

ended : (image : ImageState) (m n : KeptMachine) (number most i : ℕ) (events : List (Event Note)) (draws : Lcg) → Going image m n number most i events draws
    → drawn_from (setup_in image m) number i (most - i) (machine_of n) ≡ (machine_of n, []) → (machine_of n, events) ≡ drawn (setup_in image m) number most
ended image m n number most i events draws g last =
    sym (g.rest ∙ ap (λ (p : Machine × List (Event Note)). (p.0, events ++ p.1)) last ∙ ap (λ (l : List (Event Note)). (machine_of n, l)) (append-nil events))

-- it ends where the machine is quiet, or all were made
pub going_quiet : (image : ImageState) (m n : KeptMachine) (number most i : ℕ) (events : List (Event Note)) (draws : Lcg) → Going image m n number most i events draws → is_quiet (machine_of n) ≡ true → (machine_of n, events) ≡ drawn (setup_in image m) number most
going_quiet image m n number most i events draws g quiet = ended image m n number most i events draws g (drawn_quiet (setup_in image m) number i (most - i) (machine_of n) quiet)

pub going_end : (image : ImageState) (m n : KeptMachine) (number most i : ℕ) (events : List (Event Note)) (draws : Lcg) → Going image m n number most i events draws → i ≡ most → (machine_of n, events) ≡ drawn (setup_in image m) number most
going_end image m n number most i events draws g all =
    let none : most - i ≡ 0 = omega arith in
    ended image m n number most i events draws g (ap (λ (k : ℕ). drawn_from (setup_in image m) number i k (machine_of n)) none ∙ drawn_zero (setup_in image m) number i (machine_of n))

-- sorted by stamp, the events are a simulation's
pub simulated : (image : ImageState) (m n : KeptMachine) (number most : ℕ) (events sorted : List (Event Note)) → IsMade image m → (machine_of n, events) ≡ drawn (setup_in image m) number most → IsPermutation events sorted → IsSorted events sorted
    → IsSimulation (setup_in image m) number most sorted (is_quiet (machine_of n))
simulated image m n number most events sorted made is same sort =
    let setup : Setup = setup_in image m in
    let d = simulation_runs setup number most made.2.runnable in
    let end : machine_of n ≡ (drawn setup number most).0 = ap (λ (p : Machine × List (Event Note)). p.0) is in
    let list : events ≡ (drawn setup number most).1 = ap (λ (p : Machine × List (Event Note)). p.1) is in
    let run : RunsTo setup (choices events) (machine_of n) events = subst (λ (p : Machine × List (Event Note)). RunsTo setup (choices p.1) p.0 p.1) (sym is) d.0 in
    let few : length events ≤ most = subst (λ (l : List (Event Note)). length l ≤ most) (sym list) d.1 in
    let size : length sorted ≡ length events = length_permutation events sorted same in
    record {
      printed = printed setup (choices events) (machine_of n) events sorted made.2.runnable run sort;
      is_drawn = subst (λ (l : List (Event Note)). IsSorted l sorted) list sort;
      within = subst (λ (k : ℕ). k ≤ most) (sym size) few;
      full = λ no. size ∙ (ap (λ (l : List (Event Note)). length l) list ∙ d.2 (ap is_quiet (sym end) ∙ no));
    }
