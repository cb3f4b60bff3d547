-- The measure falls with each event of the drain, so there is a last one; and what isn't drained any more is quiet.
use Rattle.std.proofs.Common.{◌≡◌, ◌∙◌, ◌≤◌, ℕ, zero, suc, ◌+◌, Bool, true, false, arith, refl, sym, ap, subst, Option, None, Some, List, [], ◌∷◌, ◌++◌, slice_get}
use Rattle.std.specs.Prelude.{IsSome, if◌then◌else◌}
use Rattle.og_runs.specs.declared.Choice.{Choice}
use Rattle.og_runs.specs.declared.Choice.TheVariants.{Act, Take}
use Rattle.og_runs.specs.declared.Event.{Event}
use Rattle.og_runs.specs.declared.Msg.{Msg}
use Rattle.og_runs.specs.declared.Seat.{Seat}
use Rattle.og_runs.specs.World.{find, world_step}
use Rattle.og_runs.proofs.Whole.{world_more}
use Rattle.og_msg.specs.declared.Kind.{Kind}
use Rattle.og_msg.specs.declared.Kind.TheVariants.{PoisonRead}
use Rattle.og_msg.specs.declared.Note.{Note}
use Rattle.og_node.specs.Node.{NodeState}
use Rattle.og_machine.specs.Machine.{Setup, ActorState, Node, Mover, Machine, rules, has_stopped, is_stopped, is_quiet}
use Rattle.og_machine.specs.Choices.{drain_of, drawn_from, drawn_choice, with_choice, with_event}
use Rattle.og_machine.specs.FlatRun.{flat_begin}
use Rattle.og_refine.specs.Machines.{IsRunnable, sizes_of}
use Rattle.og_refine.specs.Laws.{RunsTo}
use Rattle.og_refine.proofs.Runs.{Followed}
use Rattle.og_refine.proofs.Unnamed.{node_is, mover_sits, same_actor}
use Rattle.og_refine.proofs.GoesOn.{all_seats}
use Rattle.og_drain.specs.Measure.{measure}
use Rattle.og_drain.specs.Laws.{is_refused_now, IsStill, IsAmong, Each, IsDrained, Drains}
use Rattle.og_drain.proofs.Machines.{stopped_machines_pay}
use Rattle.og_drain.proofs.Bounds.{measure_is_bounded}
use Rattle.og_drain_facts.proofs.Stopped.{reached, seat_stopped, drain_goes_on, drain_ends_quiet}
use Rattle.og_drain_facts.proofs.Running.{nothing_is_asked}
use Rattle.og_drain_facts.proofs.Lawful.{no_request_flies, drain_meets_no_busy_block}
use Rattle.og_drain_ends.specs.Laws.{DrainsBy, drain_most, DrainEnds, SimulationsEndQuiet}

-- ---- one event

same_node : (a b : NodeState) → Node a ≡ Node b → a ≡ b
same_node a b e = cc

-- a machine that a run leads to, and that has stopped
record Stopped (setup : Setup) (w : Machine) : Type 0 where
  choices : List Choice
  events : List (Event Note)
  ok : IsRunnable setup
  run : RunsTo setup choices w events
  stopped : is_stopped w ≡ true

still : (setup : Setup) (w : Machine) → Stopped setup w → Each IsStill w
still setup w s q seat there = by seat.local refl
  where
    by : (local : ActorState) → seat.local ≡ local → IsStill local
    by (Node x) is =
        let none = nothing_is_asked setup s.choices w s.events q seat x s.ok s.run s.stopped there is in
        (ap has_stopped (sym is) ∙ seat_stopped w q seat s.stopped there, record { request = none.0; walk = none.1 })
    by (Mover m) is = tt

among : (setup : Setup) (w : Machine) → Stopped setup w → Each (IsAmong setup.settings.nodes) w
among setup w s q seat there = by seat.local refl
  where
    r : Followed setup (flat_begin setup.image setup.settings).harts (flat_begin setup.image setup.settings).flat w s.events
    r = reached setup s.choices w s.events s.ok s.run

    by : (local : ActorState) → seat.local ≡ local → IsAmong setup.settings.nodes local
    by (Node x) is =
        let low = (node_is setup.image (sizes_of setup) w q seat x r.follows.actors there is).0 in
        let n = r.follows.actors.nodes q low in
        let same : n.0 ≡ x = same_node n.0 x (sym n.1.2 ∙ (same_actor w q n.1.0 seat n.1.1 there ∙ is)) in
        subst (λ (y : NodeState). y.home.rules.nodes ≡ setup.settings.nodes) same n.1.4.nodes
    by (Mover m) is =
        let mine = mover_sits setup.image (sizes_of setup) w q seat m r.follows.actors there is in
        (mine.1.sound, mine.1.nodes)

-- what the drain takes is no request, and no question that is refused
drained_well : (setup : Setup) (w : Machine) (choice : Choice) → Stopped setup w → drain_of setup w ≡ Some choice → Drains w choice
drained_well setup w (Act actor) s e = tt
drained_well setup w (Take actor id) s e = λ message seat found there. by message seat found there seat.local refl
  where
    unrefused : (message : Msg Kind) (seat : Seat ActorState) (x : NodeState) → find id w.flight ≡ Some message → slice_get w.seats actor ≡ Some seat → seat.local ≡ Node x → (kind : Kind) → message.kind ≡ kind → is_refused_now x.home kind ≡ false
    unrefused message seat x found there is (PoisonRead block) k = drain_meets_no_busy_block setup s.choices w s.events actor seat x id message block s.ok s.run s.stopped e found k there is
    unrefused message seat x found there is kind k = refl

    by : (message : Msg Kind) (seat : Seat ActorState) → find id w.flight ≡ Some message → slice_get w.seats actor ≡ Some seat → (local : ActorState) → seat.local ≡ local → IsDrained local message.kind
    by message seat found there (Node x) is = (no_request_flies setup s.choices w s.events id message s.ok s.run s.stopped found, unrefused message seat x found there is message.kind refl)
    by message seat found there (Mover m) is = tt

-- a machine of stopped harts has stopped
has_all_stopped : (w : Machine) → Each IsStill w → is_stopped w ≡ true
unfolding is_stopped
has_all_stopped w h = all_seats (λ x. has_stopped x.local) w.seats (λ a x there. by x.local (h a x there))
  where
    by : (local : ActorState) → IsStill local → has_stopped local ≡ true
    by (Node x) i = i.0
    by (Mover m) i = refl

-- the drain's next event, after which the measure is smaller
record Drained (setup : Setup) (w : Machine) (choice : Choice) : Type 0 where
  after : Machine
  event : Event Note
  step : world_step (rules setup) w choice ≡ Some (after, event)
  less : measure setup.settings.nodes after + 1 ≤ measure setup.settings.nodes w
  next : Stopped setup after

drained : (setup : Setup) (w : Machine) (choice : Choice) → Stopped setup w → drain_of setup w ≡ Some choice → Drained setup w choice
drained setup w choice s e = by (world_step (rules setup) w choice) refl (drain_goes_on setup s.choices w s.events choice s.ok s.run s.stopped e).1
  where
    by : (o : Option (Machine × Event Note)) → world_step (rules setup) w choice ≡ o → IsSome o → Drained setup w choice
    by None step some = absurd (cc)
    by (Some made) step some =
        let less = stopped_machines_pay setup setup.settings.nodes w made.0 choice made.1 s.ok.some_nodes (still setup w s) (among setup w s) (drained_well setup w choice s e) step in
        record {
          after = made.0;
          event = made.1;
          step = step;
          less = less.0;
          next = record {
            choices = s.choices ++ choice ∷ [];
            events = s.events ++ made.1 ∷ [];
            ok = s.ok;
            run = world_more (rules setup) s.choices _ w made.0 s.events choice made.1 s.run step;
            stopped = has_all_stopped made.0 less.1;
          };
        }

quiet_now : (setup : Setup) (w : Machine) → Stopped setup w → drain_of setup w ≡ None → is_quiet w ≡ true
quiet_now setup w s none = (drain_ends_quiet setup s.choices w s.events s.ok s.run s.stopped).0 none

nothing_less : (n m : ℕ) → n + 1 ≤ m → m ≤ 0 → ⊥
nothing_less n m h k = omega arith

one_less : (n m most : ℕ) → n + 1 ≤ m → m ≤ suc most → n ≤ most
one_less n m most h k = omega arith

-- ---- all events

abbrev Ending : Setup → Machine → ℕ → Type 0
Ending setup w most = (n : ℕ) × (u : Machine) × (n ≤ most) × DrainsBy setup n w u × (is_quiet u ≡ true)

ending : (setup : Setup) (most : ℕ) (w : Machine) → Stopped setup w → measure setup.settings.nodes w ≤ most → Ending setup w most
ending setup zero w s low = by (drain_of setup w) refl
  where
    by : (o : Option Choice) → drain_of setup w ≡ o → Ending setup w zero
    by None e = (0, w, omega arith, refl, quiet_now setup w s e)
    by (Some choice) e = let d = drained setup w choice s e in absurd (nothing_less _ _ d.less low)
ending setup (suc most) w s low = by (λ v t below. ending setup most v t below) (drain_of setup w) refl
  where
    by : ((v : Machine) → Stopped setup v → measure setup.settings.nodes v ≤ most → Ending setup v most) → (o : Option Choice) → drain_of setup w ≡ o → Ending setup w (suc most)
    by more None e = (0, w, omega arith, refl, quiet_now setup w s e)
    by more (Some choice) e =
        let d = drained setup w choice s e in
        let rest = more d.after d.next (one_less _ _ most d.less low) in
        let bound : rest.0 ≤ most = rest.2 in
        (suc rest.0, rest.1, omega arith, (choice, d.after, d.event, e, d.step, rest.3), rest.4)

-- a simulation that may go on for as many events as the measure says
simulated : (setup : Setup) (number k most : ℕ) (w : Machine) → Stopped setup w → measure setup.settings.nodes w ≤ most → is_quiet (drawn_from setup number k most w).0 ≡ true
unfolding drawn_from
simulated setup number k zero w s low = by (drain_of setup w) refl
  where
    by : (o : Option Choice) → drain_of setup w ≡ o → is_quiet w ≡ true
    by None e = quiet_now setup w s e
    by (Some choice) e = let d = drained setup w choice s e in absurd (nothing_less _ _ d.less low)
simulated setup number k (suc most) w s low = at (λ v t below. simulated setup number (suc k) most v t below) (is_quiet w) refl
  where
    rest : Machine → Machine × List (Event Note)
    rest v = drawn_from setup number (suc k) most v

    More : Type 0
    More = (v : Machine) → Stopped setup v → measure setup.settings.nodes v ≤ most → is_quiet (rest v).0 ≡ true

    goes : More → (o : Option Choice) → drain_of setup w ≡ o → is_quiet (with_choice setup rest w o).0 ≡ true
    goes more None e = quiet_now setup w s e
    goes more (Some choice) e =
        let d = drained setup w choice s e in
        ap (λ (o : Option (Machine × Event Note)). is_quiet (with_event rest w o).0) d.step ∙ more d.after d.next (one_less _ _ most d.less low)

    drains : More → (t : Bool) → is_stopped w ≡ t → is_quiet (with_choice setup rest w (if t then drain_of setup w else drawn_choice setup number k w)).0 ≡ true
    drains more true e = goes more (drain_of setup w) refl
    drains more false e = absurd (let f = s.stopped in cc)

    at : More → (t : Bool) → is_quiet w ≡ t → is_quiet (if t then (w, []) else with_choice setup rest w (if is_stopped w then drain_of setup w else drawn_choice setup number k w)).0 ≡ true
    at more true e = e
    at more false e = drains more (is_stopped w) refl

-- ---- the bound

bounded : (setup : Setup) (w : Machine) → Stopped setup w → measure setup.settings.nodes w ≤ drain_most setup w
bounded setup w s = measure_is_bounded.machines setup.settings.nodes w r.follows.actors.count (λ q seat low there.
    (let n = r.follows.actors.nodes q low in (n.0, sym (same_actor w q n.1.0 seat n.1.1 there) ∙ n.1.2)))
  where
    r : Followed setup (flat_begin setup.image setup.settings).harts (flat_begin setup.image setup.settings).flat w s.events
    r = reached setup s.choices w s.events s.ok s.run

stopped_run : (setup : Setup) (choices : List Choice) (w : Machine) (events : List (Event Note)) → IsRunnable setup → RunsTo setup choices w events → is_stopped w ≡ true → Stopped setup w
stopped_run setup choices w events ok run stopped = record { choices = choices; events = events; ok = ok; run = run; stopped = stopped }

-- ---- the laws

pub drain_ends : DrainEnds
drain_ends setup choices w events ok run stopped =
    let s = stopped_run setup choices w events ok run stopped in
    ending setup (drain_most setup w) w s (bounded setup w s)

pub simulations_end_quiet : SimulationsEndQuiet
simulations_end_quiet setup choices w events number k most ok run stopped low =
    let s = stopped_run setup choices w events ok run stopped in
    let b : measure setup.settings.nodes w ≤ drain_most setup w = bounded setup w s in
    let enough : measure setup.settings.nodes w ≤ most = grind (arith) in
    simulated setup number k most w s enough
