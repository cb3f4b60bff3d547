-- The events that a part makes, one after another.
use Rattle.std.proofs.Common.{◌≡◌, ◌∙◌, ℕ, zero, suc, ◌≤◌, Bool, true, false, arith, refl, sym, ap, subst, Option, None, Some, List, [], ◌∷◌, ◌++◌, length}
use Rattle.std.specs.Prelude.{IsSome}
use Rattle.og_runs.specs.declared.Choice.{Choice}
use Rattle.og_runs.specs.declared.Event.{Event}
use Rattle.og_runs.specs.World.{WorldRun, world_step}
use Rattle.og_runs.proofs.Whole.{world_more}
use Rattle.og_msg.specs.declared.Note.{Note}
use Rattle.og_machine.specs.Machine.{Setup, Machine, rules, start_machine, is_stopped, is_quiet}
use Rattle.og_machine.specs.Choices.{drawn_choice, Simulated, with_choice, with_event}
use Rattle.og_refine.specs.Machines.{IsRunnable}
use Rattle.og_refine.specs.Laws.{RunsTo}
use Rattle.og_headline.proofs.Drawn.{simulation_goes_on}
use Rattle.og_driver.proofs.Next.{draws}
use Rattle.og_finish.specs.Finish.{made_by, while_running, drawn_after}

-- ---- one event

pub made_zero : (setup : Setup) (next : ℕ → Machine → Option Choice) (k : ℕ) (w : Machine) → made_by setup next k zero w ≡ (w, [])
unfolding made_by
made_zero setup next k w = refl

-- where no choice is named
pub made_none : (setup : Setup) (next : ℕ → Machine → Option Choice) (k most : ℕ) (w : Machine) → next k w ≡ None → made_by setup next k most w ≡ (w, [])
unfolding made_by
made_none setup next k zero w none = refl
made_none setup next k (suc most) w none = ap (λ (o : Option Choice). with_choice setup (λ v. made_by setup next (suc k) most v) w o) none

-- by what the choice that is named comes to
made_with : (setup : Setup) (next : ℕ → Machine → Option Choice) (k most : ℕ) (w : Machine) (choice : Choice) (made : Option (Machine × Event Note)) → next k w ≡ Some choice → world_step (rules setup) w choice ≡ made
    → made_by setup next k (suc most) w ≡ with_event (λ v. made_by setup next (suc k) most v) w made
unfolding made_by
made_with setup next k most w choice made named step =
    ap (λ (o : Option Choice). with_choice setup (λ v. made_by setup next (suc k) most v) w o) named ∙ ap (λ (o : Option (Machine × Event Note)). with_event (λ v. made_by setup next (suc k) most v) w o) step

-- where one is named: one event, and what is made then
pub made_more : (setup : Setup) (next : ℕ → Machine → Option Choice) (k most : ℕ) (w v : Machine) (choice : Choice) (event : Event Note) → next k w ≡ Some choice → world_step (rules setup) w choice ≡ Some (v, event)
    → made_by setup next k (suc most) w ≡ ((made_by setup next (suc k) most v).0, event ∷ (made_by setup next (suc k) most v).1)
made_more setup next k most w v choice event named step = made_with setup next k most w choice (Some (v, event)) named step

-- ---- all events

-- what is made is a run
pub record Leads (setup : Setup) (w : Machine) (made : Simulated) : Type 0 where
  pub given : List Choice
  pub run : WorldRun (rules setup) w given made.0 made.1

stays : (setup : Setup) (w : Machine) → Leads setup w (w, [])
stays setup w = record { given = []; run = (refl, refl) }

pub made_leads : (setup : Setup) (next : ℕ → Machine → Option Choice) (k most : ℕ) (w : Machine) → Leads setup w (made_by setup next k most w)
made_leads setup next k zero w = subst (Leads setup w) (sym (made_zero setup next k w)) (stays setup w)
made_leads setup next k (suc most) w = by (λ v. made_leads setup next (suc k) most v) (next k w) refl
  where
    More : Type 0
    More = (v : Machine) → Leads setup v (made_by setup next (suc k) most v)

    stepped : More → (choice : Choice) → next k w ≡ Some choice → (o : Option (Machine × Event Note)) → world_step (rules setup) w choice ≡ o → Leads setup w (made_by setup next k (suc most) w)
    stepped more choice named None step = subst (Leads setup w) (sym (made_with setup next k most w choice None named step)) (stays setup w)
    stepped more choice named (Some made) step =
        let rest = more made.0 in
        subst (Leads setup w) (sym (made_more setup next k most w made.0 choice made.1 named step)) (record {
          given = choice ∷ rest.given;
          run = (made.0, made.1, (made_by setup next (suc k) most made.0).1, step, refl, rest.run);
        })

    by : More → (o : Option Choice) → next k w ≡ o → Leads setup w (made_by setup next k (suc most) w)
    by more None none = subst (Leads setup w) (sym (made_none setup next k (suc most) w none)) (stays setup w)
    by more (Some choice) named = stepped more choice named (world_step (rules setup) w choice) refl

-- ---- draws

-- where a hart isn't stopped the machine isn't quiet
pub running_unquiet : (w : Machine) → is_stopped w ≡ false → is_quiet w ≡ false
unfolding is_quiet
running_unquiet w running = rw running refl

-- there are so many at most, and just so many where a hart isn't stopped at the end
pub record IsFull (most : ℕ) (made : Simulated) : Type 0 where
  pub within : length made.1 ≤ most
  pub full : is_stopped made.0 ≡ false → length made.1 ≡ most

drawn_full_from : (setup : Setup) (k most : ℕ) (given : List Choice) (w : Machine) (events : List (Event Note)) → IsRunnable setup → RunsTo setup given w events → IsFull most (made_by setup (while_running setup) k most w)
drawn_full_from setup k zero given w events ok run = subst (IsFull zero) (sym (made_zero setup (while_running setup) k w)) (record { within = omega arith; full = λ no. refl })
drawn_full_from setup k (suc most) given w events ok run = by (λ cs v es more. drawn_full_from setup (suc k) most cs v es ok more) (is_stopped w) refl
  where
    More : Type 0
    More = (cs : List Choice) (v : Machine) (es : List (Event Note)) → RunsTo setup cs v es → IsFull most (made_by setup (while_running setup) (suc k) most v)

    stepped : More → (choice : Choice) → while_running setup k w ≡ Some choice → (o : Option (Machine × Event Note)) → world_step (rules setup) w choice ≡ o → IsSome o → IsFull (suc most) (made_by setup (while_running setup) k (suc most) w)
    stepped more choice named None step some = absurd (cc)
    stepped more choice named (Some made) step some =
        let rest = more (given ++ choice ∷ []) made.0 (events ++ made.1 ∷ []) (world_more (rules setup) given (start_machine setup) w made.0 events choice made.1 run step) in
        let few : length (made_by setup (while_running setup) (suc k) most made.0).1 ≤ most = rest.within in
        subst (IsFull (suc most)) (sym (made_more setup (while_running setup) k most w made.0 choice made.1 named step)) (record {
          within = omega arith;
          full = λ no. ap (λ (n : ℕ). suc n) (rest.full no);
        })

    none_named : is_stopped w ≡ true → while_running setup k w ≡ None
    none_named stopped = rw stopped refl

    drawn_named : is_stopped w ≡ false → while_running setup k w ≡ drawn_choice setup 1 k w
    drawn_named running = rw running refl

    by : More → (t : Bool) → is_stopped w ≡ t → IsFull (suc most) (made_by setup (while_running setup) k (suc most) w)
    by more true stopped = subst (IsFull (suc most)) (sym (made_none setup (while_running setup) k (suc most) w (none_named stopped))) (record { within = omega arith; full = λ no. absurd (cc) })
    by more false running =
        let next = simulation_goes_on setup given w events 1 k ok run (running_unquiet w running) in
        stepped more next.0 (drawn_named running ∙ (sym (draws setup 1 k w running) ∙ next.1)) (world_step (rules setup) w next.0) refl next.3

pub drawn_full : (setup : Setup) (most : ℕ) (given : List Choice) (w : Machine) (events : List (Event Note)) → IsRunnable setup → RunsTo setup given w events → IsFull most (drawn_after setup most w)
drawn_full setup most given w events ok run = drawn_full_from setup 0 most given w events ok run
