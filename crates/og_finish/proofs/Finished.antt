-- All parts of a run, and what holds of them once they are sorted.
use Rattle.std.proofs.Common.{◌≡◌, ◌∙◌, ℕ, ◌+◌, ◌-◌, ◌≤◌, Bool, true, false, arith, refl, sym, ap, subst, List, [], ◌++◌, length, length-append, slice_get}
use Rattle.std.specs.Prelude.{if◌then◌else◌}
use Rattle.std.proofs.lemmas.List.{append-nil}
use Rattle.std.specs.List.Sorted.{IsPermutation}
use Rattle.std.proofs.lemmas.List.Sorted.{length_permutation}
use Rattle.og_runs.specs.declared.Choice.{Choice}
use Rattle.og_runs.specs.declared.Event.{Event}
use Rattle.og_runs.specs.declared.Msg.{Msg}
use Rattle.og_runs.specs.declared.Seat.{Seat}
use Rattle.og_runs.specs.Runs.{choices, start, IsSorted}
use Rattle.og_runs.proofs.Stated.{start_shows}
use Rattle.og_runs.proofs.RunLaws.{start_sound}
use Rattle.og_runs.proofs.Whole.{sorted_run, world_append}
use Rattle.og_msg.specs.declared.Kind.{Kind}
use Rattle.og_msg.specs.declared.Note.{Note}
use Rattle.og_image.specs.Image.{ImageState}
use Rattle.og_machine.specs.Machine.{Setup, ActorState, Machine, rules, start_machine, is_stopped, is_quiet}
use Rattle.og_machine.specs.Choices.{Simulated}
use Rattle.og_refine.specs.Machines.{IsRunnable}
use Rattle.og_refine.specs.Laws.{RunsTo}
use Rattle.og_refine.proofs.Runs.{first_actor, first_seats}
use Rattle.og_engine.specs.Kept.{KeptMachine, machine_of, setup_in}
use Rattle.og_driver.proofs.Drawing.{same_setup}
use Rattle.og_headline.specs.Headline.{IsPrinted}
use Rattle.og_headline.proofs.Sorted.{printed}
use Rattle.og_finish.specs.Finish.{IsThreadRun, drawn_after, drain_of_all, drained_after, finished}
use Rattle.og_finish.specs.Parts.{Adds, IsFinished}
use Rattle.og_headline.proofs.OneRun.{one_run}
use Rattle.og_finish.proofs.Made.{Leads, made_leads, running_unquiet, drawn_full}

-- ---- all parts

both : (t : Bool) → t ≡ true → t ≡ false → ⊥
both t a b = absurd (cc)

-- where a hart isn't stopped after the draws, nothing is drained
nothing_drained : (setup : Setup) (most : ℕ) (merged : List (Event Note)) (begun : Machine) → is_stopped (drawn_after setup (most - length merged) begun).0 ≡ false
    → finished setup most merged begun ≡ ((drawn_after setup (most - length merged) begun).0, merged ++ (drawn_after setup (most - length merged) begun).1)
nothing_drained setup most merged begun running =
    let d : Simulated = drawn_after setup (most - length merged) begun in
    let none : drained_after setup d.0 ≡ (d.0, []) = rw running refl in
    ap (λ (p : Simulated). (p.0, merged ++ d.1 ++ p.1)) none ∙ ap (λ (l : List (Event Note)). (d.0, l)) (append-nil (merged ++ d.1))

-- a hart isn't stopped after the draws: nothing is drained
pub finished_running : (setup : Setup) (most : ℕ) (merged : List (Event Note)) (begun w : Machine) (events : List (Event Note)) → RunsTo setup (choices merged) begun merged
    → Adds (drawn_after setup (most - length merged) begun) w merged events → is_stopped w ≡ false → IsFinished setup most merged w events
finished_running setup most merged begun w events begins drawn running =
    let d : Simulated = drawn_after setup (most - length merged) begun in
    let running_there : is_stopped d.0 ≡ false = ap is_stopped (sym drawn.end) ∙ running in
    let parts : finished setup most merged begun ≡ (d.0, merged ++ d.1) = nothing_drained setup most merged begun running_there in
    record {
      begun = begun;
      begins = begins;
      made = ap (λ (v : Machine). (v, events)) drawn.end ∙ (ap (λ (l : List (Event Note)). (d.0, l)) drawn.list ∙ sym parts);
      drained = λ stopped. absurd (both (is_stopped d.0) stopped running_there);
    }

-- each hart has stopped then: the drain comes last
pub finished_stopped : (setup : Setup) (most : ℕ) (merged : List (Event Note)) (begun w v : Machine) (events longer : List (Event Note)) → RunsTo setup (choices merged) begun merged
    → Adds (drawn_after setup (most - length merged) begun) w merged events → is_stopped w ≡ true → Adds (drain_of_all setup w) v events longer → is_quiet v ≡ true → IsFinished setup most merged v longer
finished_stopped setup most merged begun w v events longer begins drawn stopped drained quiet =
    let d : Simulated = drawn_after setup (most - length merged) begun in
    let stopped_there : is_stopped d.0 ≡ true = ap is_stopped (sym drawn.end) ∙ stopped in
    let last : drained_after setup d.0 ≡ drain_of_all setup d.0 = rw stopped_there refl in
    let here : drain_of_all setup w ≡ drained_after setup d.0 = ap (λ (u : Machine). drain_of_all setup u) drawn.end ∙ sym last in
    let list : longer ≡ merged ++ d.1 ++ (drained_after setup d.0).1 = drained.list ∙ (ap (λ (l : List (Event Note)). l ++ (drain_of_all setup w).1) drawn.list ∙ ap (λ (p : Simulated). merged ++ d.1 ++ p.1) here) in
    let end : v ≡ (drained_after setup d.0).0 = drained.end ∙ ap (λ (p : Simulated). p.0) here in
    record {
      begun = begun;
      begins = begins;
      made = ap (λ (u : Machine). (u, longer)) end ∙ ap (λ (l : List (Event Note)). ((drained_after setup d.0).0, l)) list;
      drained = λ was. quiet;
    }

-- ---- as the machine in code makes them

-- the draws, of the setup at the start
drawn_here : (image : ImageState) (m b : KeptMachine) (w : Machine) (most left : ℕ) (merged again events : List (Event Note)) → left ≡ most - length merged → again ≡ merged → b.settings ≡ m.settings → Adds (drawn_after (setup_in image b) left (machine_of b)) w again events
    → Adds (drawn_after (setup_in image m) (most - length merged) (machine_of b)) w merged events
drawn_here image m b w most left merged again events is same settings drawn =
    let setup : Setup = setup_in image m in
    let here : Adds (drawn_after setup left (machine_of b)) w again events = subst (λ (s : Setup). Adds (drawn_after s left (machine_of b)) w again events) (same_setup image m b settings) drawn in
    let more : Adds (drawn_after setup (most - length merged) (machine_of b)) w again events = subst (λ (k : ℕ). Adds (drawn_after setup k (machine_of b)) w again events) is here in
    subst (λ (l : List (Event Note)). Adds (drawn_after setup (most - length merged) (machine_of b)) w l events) same more

-- b is where the merged events lead, d where the draws lead, and no more are made
pub all_running : (image : ImageState) (m b d : KeptMachine) (most left : ℕ) (merged again events : List (Event Note)) → Adds (drawn_after (setup_in image b) left (machine_of b)) (machine_of d) again events → left ≡ most - length merged
    → again ≡ merged → RunsTo (setup_in image m) (choices merged) (machine_of b) merged → b.settings ≡ m.settings → is_stopped (machine_of d) ≡ false → IsFinished (setup_in image m) most merged (machine_of d) events
all_running image m b d most left merged again events drawn is same begins settings running =
    finished_running (setup_in image m) most merged (machine_of b) (machine_of d) events begins (drawn_here image m b (machine_of d) most left merged again events is same settings drawn) running

-- and e is where the drain leads
pub all_stopped : (image : ImageState) (m b d e : KeptMachine) (most left : ℕ) (merged again events longer : List (Event Note)) → Adds (drawn_after (setup_in image b) left (machine_of b)) (machine_of d) again events → left ≡ most - length merged
    → again ≡ merged → RunsTo (setup_in image m) (choices merged) (machine_of b) merged → b.settings ≡ m.settings → is_stopped (machine_of d) ≡ true → d.settings ≡ b.settings → Adds (drain_of_all (setup_in image d) (machine_of d)) (machine_of e) events longer → is_quiet (machine_of e) ≡ true
    → IsFinished (setup_in image m) most merged (machine_of e) longer
all_stopped image m b d e most left merged again events longer drawn is same begins settings stopped later drained quiet =
    finished_stopped (setup_in image m) most merged (machine_of b) (machine_of d) (machine_of e) events longer begins (drawn_here image m b (machine_of d) most left merged again events is same settings drawn) stopped
    (subst (λ (s : Setup). Adds (drain_of_all s (machine_of d)) (machine_of e) events longer) (same_setup image m d (later ∙ settings)) drained) quiet

-- ---- they are a run

drained_leads : (setup : Setup) (w : Machine) → Leads setup w (drained_after setup w)
drained_leads setup w = by (is_stopped w)
  where
    by : (t : Bool) → Leads setup w (if t then drain_of_all setup w else (w, []))
    by true = made_leads setup _ 0 _ w
    by false = record { given = []; run = (refl, refl) }

-- behind a run, what leads on
leads_on : (setup : Setup) (given : List Choice) (w : Machine) (events : List (Event Note)) (made : Simulated) → RunsTo setup given w events → (l : Leads setup w made) → RunsTo setup (given ++ l.given) made.0 (events ++ made.1)
leads_on setup given w events made run l = world_append (rules setup) given l.given (start_machine setup) w made.0 events made.1 run l.run

finished_runs : (setup : Setup) (most : ℕ) (merged : List (Event Note)) (begun : Machine) → RunsTo setup (choices merged) begun merged → (given : List Choice) × RunsTo setup given (finished setup most merged begun).0 (finished setup most merged begun).1
finished_runs setup most merged begun begins =
    let d : Simulated = drawn_after setup (most - length merged) begun in
    let a = made_leads setup _ 0 (most - length merged) begun in
    let b = drained_leads setup d.0 in
    (choices merged ++ a.given ++ b.given, leads_on setup (choices merged ++ a.given) d.0 (merged ++ d.1) (drained_after setup d.0) (leads_on setup (choices merged) begun merged d begins a) b)

-- ---- how many there are

-- where the end isn't quiet, a hart isn't stopped there, and there are as many events as there may be
finished_full : (setup : Setup) (most : ℕ) (merged : List (Event Note)) (w : Machine) (events : List (Event Note)) → IsRunnable setup → length merged ≤ most → IsFinished setup most merged w events → is_quiet w ≡ false
    → (length events ≡ most) × (is_stopped w ≡ false)
finished_full setup most merged w events ok few f unquiet = by (is_stopped d.0) refl
  where
    d : Simulated
    d = drawn_after setup (most - length merged) f.begun

    by : (t : Bool) → is_stopped d.0 ≡ t → (length events ≡ most) × (is_stopped w ≡ false)
    by true stopped = absurd (both (is_quiet w) (f.drained stopped) unquiet)
    by false running =
        let parts : (w, events) ≡ (d.0, merged ++ d.1) = f.made ∙ nothing_drained setup most merged f.begun running in
        let end : w ≡ d.0 = ap (λ (p : Simulated). p.0) parts in
        let list : events ≡ merged ++ d.1 = ap (λ (p : Simulated). p.1) parts in
        let full : length d.1 ≡ most - length merged = (drawn_full setup (most - length merged) (choices merged) f.begun merged ok f.begins).full running in
        let size : length (merged ++ d.1) ≡ length merged + length d.1 = rw length-append refl in
        let all : length merged + length d.1 ≡ most = omega arith in
        (ap (λ (l : List (Event Note)). length l) list ∙ (size ∙ all), ap is_stopped end ∙ running)

-- ---- sorted

-- machines with the same seats and the same flight are one
one_machine : (v w : Machine) → v.seats ≡ w.seats → v.flight ≡ w.flight → v ≡ w
one_machine v w a b = ap (λ (xs : List (Seat ActorState)). record { seats = xs; flight = v.flight }) a ∙ ap (λ (ms : List (Msg Kind)). record { seats = w.seats; flight = ms }) b

-- the actors at the start
abbrev first : Setup → ℕ → ActorState
first setup a = first_actor setup a (slice_get (start_machine setup).seats a)

-- sorted by stamp, the events lead where they led
sorted_end : (setup : Setup) (given : List Choice) (w end : Machine) (events sorted : List (Event Note)) → RunsTo setup given w events → IsSorted events sorted → RunsTo setup (choices sorted) end sorted → end ≡ w
sorted_end setup given w end events sorted run sort again =
    let r = sorted_run (rules setup) given (start_machine setup) w (start (first setup)) events sorted (start_shows (first setup) (start_machine setup) (first_seats setup)) (start_sound (first setup)) run sort in
    (one_run setup (choices sorted) (start_machine setup) end r.0 sorted sorted again r.1).0 ∙ one_machine r.0 w r.2 r.3

pub thread_run : (setup : Setup) (most : ℕ) (merged : List (Event Note)) (w : Machine) (events sorted : List (Event Note)) → IsRunnable setup → length merged ≤ most → IsFinished setup most merged w events → IsPermutation events sorted → IsSorted events sorted
    → IsThreadRun setup most merged sorted (is_quiet w)
thread_run setup most merged w events sorted ok few f same sort =
    let all : Simulated = finished setup most merged f.begun in
    let r = finished_runs setup most merged f.begun f.begins in
    let run : RunsTo setup r.0 w events = subst (λ (p : Simulated). RunsTo setup r.0 p.0 p.1) (sym f.made) r.1 in
    let p : IsPrinted setup sorted (is_quiet w) = printed setup r.0 w events sorted ok run sort in
    let end : p.end ≡ w = sorted_end setup r.0 w p.end events sorted run sort p.run in
    let size : length sorted ≡ length events = length_permutation events sorted same in
    record {
      printed = p;
      begun = f.begun;
      begins = f.begins;
      is_sorted = subst (λ (l : List (Event Note)). IsSorted l sorted) (ap (λ (q : Simulated). q.1) f.made) sort;
      end_is = end ∙ ap (λ (q : Simulated). q.0) f.made;
      limit = (
        (λ no. (let x = finished_full setup most merged w events ok few f no in (size ∙ x.0, ap is_stopped end ∙ x.1))),
        (λ x. running_unquiet w (ap is_stopped (sym end) ∙ x.1)),
      );
    }
