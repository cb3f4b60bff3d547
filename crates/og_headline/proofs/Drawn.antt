-- A simulation, event by event.
use Rattle.std.proofs.Common.{◌≡◌, ◌∙◌, ℕ, zero, suc, ◌<◌, ◌≤◌, Bool, true, false, arith, refl, sym, ap, subst, Option, None, Some, List, [], ◌∷◌, ◌++◌, length}
use Rattle.og_runs.proofs.Shown.{slice_get_some}
use Rattle.std.proofs.lemmas.Nat.{mod_below}
use Rattle.std.specs.Prelude.{IsSome, if◌then◌else◌}
use Rattle.og_runs.specs.declared.Choice.{Choice}
use Rattle.og_runs.specs.declared.Event.{Event}
use Rattle.og_runs.specs.Runs.{choices}
use Rattle.og_runs.specs.World.{WorldRun, world_step}
use Rattle.og_runs.proofs.Whole.{world_more}
use Rattle.og_msg.specs.declared.Note.{Note}
use Rattle.og_draws.specs.Draws.{word, draw}
use Rattle.og_machine.specs.Machine.{Setup, Machine, rules, start_machine, refusal_of, is_stopped, is_quiet}
use Rattle.og_machine.specs.Choices.{enabled_of, drain_of, drawn_choice, next_choice, drawn_from, with_choice, with_event}
use Rattle.og_refine.specs.Machines.{IsRunnable}
use Rattle.og_refine.specs.Laws.{RunsTo}
use Rattle.og_refine.proofs.Lawful.{exact_refusals, goes_on, flat_notes}
use Rattle.og_drain_facts.proofs.Stopped.{reached, drain_goes_on, drain_ends_quiet}
use Rattle.og_headline.specs.Headline.{drawn}
use Rattle.og_headline.specs.Laws.{SimulationsAreRuns, SimulationsAreFaithful, SimulationsGoOn}
use Rattle.og_headline.proofs.Enabled.{enabled_free}
use Rattle.og_headline.proofs.Sorted.{names_choices, copies_are_flat}

-- ---- the next choice

-- the next choice is there, isn't refused, and has a step
abbrev GoesOn : Setup → Machine → Option Choice → Type 0
GoesOn setup w o = (choice : Choice) × (o ≡ Some choice) × (refusal_of setup w choice ≡ None) × IsSome (world_step (rules setup) w choice)

pub simulation_goes_on : SimulationsGoOn
simulation_goes_on setup given w events number k ok run unquiet = by (is_stopped w) refl
  where
    draining : is_stopped w ≡ true → (o : Option Choice) → drain_of setup w ≡ o → GoesOn setup w o
    draining stopped None e = let quiet : is_quiet w ≡ true = (drain_ends_quiet setup given w events ok run stopped).0 e in absurd (cc)
    draining stopped (Some choice) e = let d = drain_goes_on setup given w events choice ok run stopped e in (choice, refl, d.0, d.1)

    some_there : (xs : List Choice) → enabled_of setup w ≡ xs → 1 ≤ length xs
    some_there [] e = absurd (goes_on setup given w events ok run unquiet e)
    some_there (x ∷ xs) e = omega arith

    drawing : GoesOn setup w (drawn_choice setup number k w)
    drawing =
        let some = some_there (enabled_of setup w) refl in
        let there = slice_get_some (enabled_of setup w) (draw number k (length (enabled_of setup w))) (drawn_within number k (length (enabled_of setup w)) some) in
        let free = enabled_free setup w (draw number k (length (enabled_of setup w))) there.0 (reached setup given w events ok run).distinct there.1 in
        (there.0, there.1, free, (exact_refusals setup given w events there.0 ok run).0 free)
      where
        drawn_within : (number k count : ℕ) → 1 ≤ count → draw number k count < count
        drawn_within number k count some = mod_below (word number k) count (let positive : 0 < count = omega arith in positive)

    by : (t : Bool) → is_stopped w ≡ t → GoesOn setup w (if t then drain_of setup w else drawn_choice setup number k w)
    by true e = draining e (drain_of setup w) refl
    by false e = drawing

-- ---- one event

-- from the k-th choice on, of so many events at most, where the machine is quiet
pub drawn_quiet : (setup : Setup) (number k most : ℕ) (w : Machine) → is_quiet w ≡ true → drawn_from setup number k most w ≡ (w, [])
unfolding drawn_from
drawn_quiet setup number k zero w quiet = refl
drawn_quiet setup number k (suc most) w quiet = rw quiet refl

pub drawn_zero : (setup : Setup) (number k : ℕ) (w : Machine) → drawn_from setup number k zero w ≡ (w, [])
unfolding drawn_from
drawn_zero setup number k w = refl

-- and where it isn't: one event, and what is drawn then
pub drawn_more : (setup : Setup) (number k most : ℕ) (w v : Machine) (choice : Choice) (event : Event Note) → is_quiet w ≡ false → next_choice setup number k w ≡ Some choice → world_step (rules setup) w choice ≡ Some (v, event)
    → drawn_from setup number k (suc most) w ≡ ((drawn_from setup number (suc k) most v).0, event ∷ (drawn_from setup number (suc k) most v).1)
unfolding drawn_from
drawn_more setup number k most w v choice event unquiet next step =
    let rest : Machine → Machine × List (Event Note) = λ u. drawn_from setup number (suc k) most u in
    let go : drawn_from setup number k (suc most) w ≡ with_choice setup rest w (next_choice setup number k w) = rw unquiet refl in
    go ∙ ap (λ (o : Option Choice). with_choice setup rest w o) next ∙ ap (λ (o : Option (Machine × Event Note)). with_event rest w o) step

-- ---- all events

-- from a machine that a run leads to, what is drawn is a run, of so many events at most, and of just so many where its end isn't quiet
record Goes (setup : Setup) (most : ℕ) (w : Machine) (made : Machine × List (Event Note)) : Type 0 where
  given : List Choice
  run : WorldRun (rules setup) w given made.0 made.1
  within : length made.1 ≤ most
  full : is_quiet made.0 ≡ false → length made.1 ≡ most

stays : (setup : Setup) (most : ℕ) (w : Machine) → (is_quiet w ≡ false → 0 ≡ most) → Goes setup most w (w, [])
stays setup most w full = record { given = []; run = (refl, refl); within = omega arith; full = full }

goes : (setup : Setup) (number k most : ℕ) (given : List Choice) (w : Machine) (events : List (Event Note)) → IsRunnable setup → RunsTo setup given w events → Goes setup most w (drawn_from setup number k most w)
goes setup number k zero given w events ok run = subst (Goes setup zero w) (sym (drawn_zero setup number k w)) (stays setup zero w (λ no. refl))
goes setup number k (suc most) given w events ok run = by (λ cs v es more. goes setup number (suc k) most cs v es ok more) (is_quiet w) refl
  where
    More : Type 0
    More = (cs : List Choice) (v : Machine) (es : List (Event Note)) → RunsTo setup cs v es → Goes setup most v (drawn_from setup number (suc k) most v)

    stepped : More → is_quiet w ≡ false → (choice : Choice) → next_choice setup number k w ≡ Some choice → (o : Option (Machine × Event Note)) → world_step (rules setup) w choice ≡ o → IsSome o → Goes setup (suc most) w (drawn_from setup number k (suc most) w)
    stepped more unquiet choice next None step some = absurd (cc)
    stepped more unquiet choice next (Some made) step some =
        let rest = more (given ++ choice ∷ []) made.0 (events ++ made.1 ∷ []) (world_more (rules setup) given (start_machine setup) w made.0 events choice made.1 run step) in
        let few : length (drawn_from setup number (suc k) most made.0).1 ≤ most = rest.within in
        subst (Goes setup (suc most) w) (sym (drawn_more setup number k most w made.0 choice made.1 unquiet next step)) (record {
          given = choice ∷ rest.given;
          run = (made.0, made.1, (drawn_from setup number (suc k) most made.0).1, step, refl, rest.run);
          within = omega arith;
          full = λ no. ap (λ (n : ℕ). suc n) (rest.full no);
        })

    by : More → (t : Bool) → is_quiet w ≡ t → Goes setup (suc most) w (drawn_from setup number k (suc most) w)
    by more true quiet = subst (Goes setup (suc most) w) (sym (drawn_quiet setup number k (suc most) w quiet)) (stays setup (suc most) w (λ no. absurd (cc)))
    by more false unquiet = let next = simulation_goes_on setup given w events number k ok run unquiet in stepped more unquiet next.0 next.1 (world_step (rules setup) w next.0) refl next.3

pub simulation_runs : SimulationsAreRuns
simulation_runs setup number most ok =
    let g = goes setup number 0 most [] (start_machine setup) [] ok (refl, refl) in
    let d : Machine × List (Event Note) = drawn setup number most in
    (subst (λ (cs : List Choice). RunsTo setup cs d.0 d.1) (sym (names_choices setup g.given d.0 d.1 g.run)) g.run, g.within, g.full)

pub simulation_holds : SimulationsAreFaithful
simulation_holds setup number most ok =
    let d : Machine × List (Event Note) = drawn setup number most in
    let run : RunsTo setup (choices d.1) d.0 d.1 = (simulation_runs setup number most ok).0 in
    record {
      run = run;
      flat = flat_notes setup (choices d.1) d.0 d.1 ok run;
      copies = λ before after w is reached. copies_are_flat setup (choices before) w before ok reached;
    }
