-- In a machine that a run leads to, whoever walks runs; so in a stopped one nobody asks for anything.
use Rattle.std.proofs.Common.{◌≡◌, ◌∙◌, ℕ, zero, suc, ◌<◌, Bool, true, false, nat_eq, arith, refl, sym, ap, subst, Option, None, Some, List, [], ◌∷◌, ◌++◌, map, length, slice_get, slice_set}
use Rattle.std.specs.Prelude.{is_some}
use Rattle.std.proofs.lemmas.Bool.Decides.{nat_tests}
use Rattle.std.proofs.lemmas.Option.{slice_get_within}
use Rattle.og_base.specs.Numbers.{below}
use Rattle.og_base.specs.declared.VPage.{VPage}
use Rattle.og_runs.specs.declared.Choice.{Choice}
use Rattle.og_runs.specs.declared.Event.{Event}
use Rattle.og_runs.specs.declared.Msg.{Msg}
use Rattle.og_runs.specs.declared.Seat.{Seat}
use Rattle.og_runs.specs.Runs.{Outcome, outcome_of}
use Rattle.og_runs.specs.World.{WorldRun, seat_after}
use Rattle.og_msg.specs.declared.Kind.{Kind}
use Rattle.og_msg.specs.declared.Note.{Note}
use Rattle.og_image.specs.Image.{ImageState}
use Rattle.og_request.specs.Request.{Requested}
use Rattle.og_processor.specs.State.{ProcessorState}
use Rattle.og_node.specs.Node.{is_for_home, take_by}
use Rattle.og_machine.specs.Machine.{Setup, ActorState, Node, Mover, Machine, rules, act_of, take_of, can_act, acting, taking, has_row, by_node, start_machine, start_node, start_mover, new_seat, has_stopped}
use Rattle.og_seen.specs.Numbers.{Sizes}
use Rattle.og_seen.specs.Sound.{IsProcessorOf}
use Rattle.og_refine.specs.Machines.{sizes_of}
use Rattle.og_refine.proofs.Seats.{get_own, get_other}
use Rattle.og_refine.proofs.Moved.{Moved, opened}
use Rattle.og_refine.proofs.Events.{enabled_is, row_is}
use Rattle.og_refine.proofs.Unnamed.{node_is}
use Rattle.og_drain_facts.specs.Laws.{NothingIsAsked}
use Rattle.og_drain_facts.proofs.Walks.{IsWalking, WalksBy, act_walking, take_walking, start_walking}
use Rattle.og_drain_facts.proofs.Stopped.{reached, seat_stopped}

abbrev IsWalkingActor : ActorState → Type 0
IsWalkingActor (Node x) = IsWalking x.processor
IsWalkingActor (Mover m) = Unit {0}

abbrev pub AreWalking : Machine → Type 0
AreWalking w = (q : ℕ) (seat : Seat ActorState) → slice_get w.seats q ≡ Some seat → IsWalkingActor seat.local

-- what an actor is after its event
walking_after : (setup : Setup) (a : ℕ) (local : ActorState) (taken : Option (Msg Kind)) (result : Outcome ActorState Kind Note) → IsWalkingActor local → outcome_of (rules setup) a local taken ≡ Some result → IsWalkingActor result.local
unfolding act_of take_of
walking_after setup a (Node x) None result h is =
    let r = enabled_is (can_act setup (Node x)) (acting setup (Node x)) result is in
    subst (λ (o : Outcome ActorState Kind Note). IsWalkingActor o.local) r.1 (act_walking setup.image x.processor r.0)
walking_after setup a (Node x) (Some message) result h is =
    let r = row_is (has_row (Node x) message) (taking setup (Node x) message) result is in
    subst (λ (o : Outcome ActorState Kind Note). IsWalkingActor o.local) r.1 (by (is_for_home message.kind))
  where
    by : (t : Bool) → IsWalkingActor (by_node (take_by t setup.image x message)).local
    by true = h
    by false = take_walking setup.image x.processor message.kind h
walking_after setup a (Mover m) None result h is =
    let r = enabled_is (can_act setup (Mover m)) (acting setup (Mover m)) result is in
    subst (λ (o : Outcome ActorState Kind Note). IsWalkingActor o.local) r.1 tt
walking_after setup a (Mover m) (Some message) result h is =
    let r = row_is (has_row (Mover m) message) (taking setup (Mover m) message) result is in
    subst (λ (o : Outcome ActorState Kind Note). IsWalkingActor o.local) r.1 tt

-- the machine after it
step_walking : (setup : Setup) (w u : Machine) (e : Event Note) → AreWalking w → Moved (rules setup) w u e → AreWalking u
step_walking setup w u e h m = subst AreWalking (sym m.world) (λ q seat there. by q seat there (nat_eq q m.actor) refl)
  where
    inside : m.actor < length w.seats
    inside = slice_get_within w.seats m.actor m.seat m.there

    new : Seat ActorState
    new = seat_after m.seat m.taken m.result

    by : (q : ℕ) (seat : Seat ActorState) → slice_get (slice_set w.seats m.actor new) q ≡ Some seat → (t : Bool) → nat_eq q m.actor ≡ t → IsWalkingActor seat.local
    by q seat there true e =
        let same : q ≡ m.actor = grind (arith, nat_tests) in
        let own : slice_get (slice_set w.seats m.actor new) q ≡ Some new = subst (λ (z : ℕ). slice_get (slice_set w.seats m.actor new) z ≡ Some new) (sym same) (get_own w.seats m.actor new inside) in
        let one : new ≡ seat = cc in
        subst (λ (z : Seat ActorState). IsWalkingActor z.local) one (walking_after setup m.actor m.seat.local m.taken m.result (h m.actor m.seat m.there) m.is)
    by q seat there false e = h q seat (sym (get_other w.seats m.actor q new inside e) ∙ there)

-- the machine at its start
start_is_walking : (setup : Setup) → AreWalking (start_machine setup)
unfolding start_machine
start_is_walking setup q seat there = by (below setup.settings.nodes) q there
  where
    by : (ns : List ℕ) (a : ℕ) → slice_get (map (λ number. new_seat (start_node setup number)) ns ++ new_seat (start_mover setup) ∷ []) a ≡ Some seat → IsWalkingActor seat.local
    by [] zero e = let same : new_seat (start_mover setup) ≡ seat = cc in subst (λ (z : Seat ActorState). IsWalkingActor z.local) same tt
    by [] (suc a) e = absurd (cc)
    by (n ∷ ns) zero e = let same : new_seat (start_node setup n) ≡ seat = cc in subst (λ (z : Seat ActorState). IsWalkingActor z.local) same (start_walking setup.image setup.settings n)
    by (n ∷ ns) (suc a) e = by ns a e

run_walking : (setup : Setup) (cs : List Choice) (w u : Machine) (es : List (Event Note)) → AreWalking w → WorldRun (rules setup) w cs u es → AreWalking u
run_walking setup [] w u es h run = subst AreWalking run.0 h
run_walking setup (c ∷ cs) w u es h run = run_walking setup cs run.0 u run.2 (step_walking setup w run.0 run.1 h (opened (rules setup) w run.0 run.1 c run.3)) run.5

-- ---- nothing is asked

nobody_walks : (x : ProcessorState) → IsWalking x → is_some x.hart.cause ≡ true → x.walk ≡ None
nobody_walks x h stopped = by x.walk refl h
  where
    by : (o : Option VPage) → x.walk ≡ o → WalksBy o x.hart.cause x.request → x.walk ≡ None
    by None e k = e
    by (Some page) e k = absurd (let a = k.0 in let b = stopped in cc)

nobody_asks : (image : ImageState) (s : Sizes) (x : ProcessorState) → IsProcessorOf image s x → is_some x.hart.cause ≡ true → x.request ≡ None
nobody_asks image s x sound stopped = by x.request refl
  where
    by : (o : Option Requested) → x.request ≡ o → x.request ≡ None
    by None e = e
    by (Some request) e = absurd (let a = (sound.sound request e).runs in let b = stopped in cc)

pub nothing_is_asked : NothingIsAsked
nothing_is_asked setup choices w events q seat x ok run stopped there is =
    let r = reached setup choices w events ok run in
    let n = node_is setup.image (sizes_of setup) w q seat x r.follows.actors there is in
    let halted : is_some x.processor.hart.cause ≡ true = ap has_stopped (sym is) ∙ seat_stopped w q seat stopped there in (
      nobody_asks setup.image (sizes_of setup) x.processor n.1 halted,
      nobody_walks x.processor (subst IsWalkingActor is (run_walking setup choices (start_machine setup) w events (start_is_walking setup) run q seat there)) halted,
    )
