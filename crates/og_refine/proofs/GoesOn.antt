-- A machine in which no choice is enabled is quiet.
use Rattle.std.proofs.Common.{◌≡◌, ◌≢◌, ◌∙◌, ℕ, zero, suc, ◌+◌, ◌<◌, inl, inr, ◌&&◌, ◌||◌, Bool, true, false, not, cond, nat_eq, arith, refl, sym, ap, subst, Option, None, Some, Ok, Err, List, [], ◌∷◌, ◌++◌, map, length, slice_get}
use Rattle.std.specs.Prelude.{Result, is_some, option_map, if◌then◌else◌}
use Rattle.std.specs.List.{list_all}
use Rattle.std.specs.FinSet as set
use Rattle.std.proofs.lemmas.Bool.Decides.{nat_tests}
use Rattle.std.proofs.lemmas.Option.{slice_get_within}
use Rattle.og_base.specs.declared.Block.{Block}
use Rattle.og_base.specs.declared.Frame.{Frame}
use Rattle.og_base.specs.declared.VPage.{VPage}
use Rattle.og_base.specs.declared.Cause.{Cause}
use Rattle.og_base.specs.declared.NotEnabled.{NotEnabled}
use Rattle.og_line.specs.declared.Line.{Line}
use Rattle.og_runs.specs.declared.Choice.TheVariants.{Take}
use Rattle.og_runs.specs.declared.Msg.{Msg}
use Rattle.og_runs.specs.declared.Seat.{Seat}
use Rattle.og_msg.specs.declared.Kind.{Kind}
use Rattle.og_flight.specs.Flight.{messages_to}
use Rattle.og_machine.specs.Machine.{Setup, ActorState, Node, Mover, Machine, can_act, has_stopped, is_at_rest, is_stopped, is_quiet, mover_may}
use Rattle.og_machine.specs.Choices.{act_by, takes_of, enabled_from, enabled_of}
use Rattle.std.specs.Ordering.{nat_cmp}
use Rattle.og_base.specs.declared.NotEnabled.TheVariants.{VictimBusy}
use Rattle.og_line.specs.Access.{addr_of}
use Rattle.og_slots.proofs.Count.{count_none}
use Rattle.og_cache.specs.Cache.{mode_of, thrown_out}
use Rattle.og_tlb.specs.Tlb.{look_of as frame_of}
use Rattle.og_flat.specs.Flat.{Flat}
use Rattle.rv_hart.specs.declared.hart.Need.{Need}
use Rattle.rv_hart.specs.declared.hart.Need.TheVariants as need
use Rattle.rv_hart.specs.Hart.{HartState, need_of}
use Rattle.og_request.specs.Request.{Requested}
use Rattle.og_victim.specs.declared.Slot.{Slot}
use Rattle.og_victim.specs.declared.Slot.TheVariants.{Free, Taken}
use Rattle.og_victim.specs.Slot.{is_free_slot, is_slot_of}
use Rattle.og_processor.specs.State.{ProcessorState}
use Rattle.og_processor.specs.Access.{page_of, block_in, allows}
use Rattle.og_processor.specs.Act.{may_act, may_act_by, is_blocked_by, is_blocked_at, is_dirty_out}
use Rattle.og_processor.specs.Take.{is_occupied}
use Rattle.og_node.specs.Node.{NodeState}
use Rattle.og_pager.specs.PageTable.{holders_of}
use Rattle.og_mover.specs.declared.Reply.{Reply}
use Rattle.og_mover.specs.declared.Received.{Received}
use Rattle.og_mover.specs.declared.Route.{Route}
use Rattle.og_mover.specs.declared.Phase.TheVariants.{Ask, Collect, Hold, Wait, Publish}
use Rattle.og_mover.specs.declared.Clearing.TheVariants.{Tell, Gather, Clean, Cleaning}
use Rattle.og_mover.specs.declared.Job.{Job}
use Rattle.og_mover.specs.declared.Job.TheVariants.{Idle, Move, Reclaim}
use Rattle.og_mover.specs.Table.{MoverState, has_act, is_idle_job, is_unheld}
use Rattle.og_mover.specs.Sound.{IsJob}
use Rattle.og_whole.specs.Events.{World}
use Rattle.og_relate.specs.Data.{Post, Request as SeenRequest, Slot as SeenSlot, Cpu, MCollect, MGather, Mover as SeenMover, Machine as SeenMachine}
use Rattle.og_relate.specs.Places.{Place, CommandAt, WalkAt, DropAt, Has}
use Rattle.og_relate.specs.Node.{Waits, outcome}
use Rattle.og_relate.specs.Laws.{machine}
use Rattle.og_shown.specs.Shown.{Among}
use Rattle.og_shown.specs.Waits.{IsPatient as IsPatientSeen, IsInRange, HasMessage}
use Rattle.og_shown.proofs.Waits.{request_waits, slot_waits, walk_waits, collect_waits}
use Rattle.og_shown.proofs.Movers.{copy_waits, cleaning_waits, gather_waits}
use Rattle.og_seen.specs.Numbers.{Sizes, setup_seen, is_there, frame_number, frame_count, page_number}
use Rattle.og_seen.specs.Messages.{post_seen}
use Rattle.og_seen.specs.Harts.{Hart, harts_seen}
use Rattle.og_seen.specs.Processors.{cpu_seen, request_seen, slot_seen}
use Rattle.og_seen.specs.Movers.{reply_seen, job_seen, mover_seen}
use Rattle.og_seen.specs.Sound.{IsProcessorOf, IsMoverOf}
use Rattle.og_seen.proofs.Numbers.{number_below}
use Rattle.og_refine_mover.proofs.Tables.{table_of, is_there_in, holders_at}
use Rattle.og_refine_mover.proofs.Holders.{unheld_seen}
use Rattle.og_refine_waits.specs.Laws.{IsPatient, IsPatientMover}
use Rattle.og_refine.specs.Machines.{cpus, homes, mover_at, posts, cpu_in, cpu_of}
use Rattle.og_refine.proofs.Steps.{Follows, mover_is}
use Rattle.og_refine.proofs.Unnamed.{same_actor, where_is}
use Rattle.og_refine.proofs.Patient.{IsPatientActor, ArePatient}
use Rattle.og_refine.proofs.Waiting.{seen_waiting}

-- ---- what an empty list of choices says

both_empty : {X : Type 0} → (xs ys : List X) → xs ++ ys ≡ [] → (xs ≡ []) × (ys ≡ [])
both_empty [] ys e = (refl, e)
both_empty (x ∷ xs) ys e = absurd (cc)

nothing_from : (setup : Setup) (k a : ℕ) (xs : List (Seat ActorState)) (messages : List (Msg Kind)) (x : Seat ActorState) → enabled_from setup k xs messages ≡ [] → slice_get xs a ≡ Some x → (act_by (k + a) (can_act setup x.local) ≡ []) × (takes_of (k + a) messages ≡ [])
nothing_from setup k a [] messages x e there = absurd (cc)
nothing_from setup k zero (y ∷ ys) messages x e there =
    let one : y ≡ x = cc in
    let p = both_empty (act_by k (can_act setup y.local)) (takes_of k messages ++ enabled_from setup (suc k) ys messages) e in
    let q = both_empty (takes_of k messages) (enabled_from setup (suc k) ys messages) p.1 in
    let same : k + 0 ≡ k = omega arith in
    subst (λ (n : ℕ). (act_by n (can_act setup x.local) ≡ []) × (takes_of n messages ≡ [])) (sym same) (subst (λ (z : Seat ActorState). act_by k (can_act setup z.local) ≡ []) one p.0, q.0)
nothing_from setup k (suc a) (y ∷ ys) messages x e there =
    let p = both_empty (act_by k (can_act setup y.local)) (takes_of k messages ++ enabled_from setup (suc k) ys messages) e in
    let q = both_empty (takes_of k messages) (enabled_from setup (suc k) ys messages) p.1 in
    let same : suc k + a ≡ k + suc a = omega arith in
    subst (λ (n : ℕ). (act_by n (can_act setup x.local) ≡ []) × (takes_of n messages ≡ [])) same (nothing_from setup (suc k) a ys messages x q.1 there)

pub no_choice : (setup : Setup) (w : Machine) (a : ℕ) (x : Seat ActorState) → enabled_of setup w ≡ [] → slice_get w.seats a ≡ Some x → (act_by a (can_act setup x.local) ≡ []) × (takes_of a w.flight ≡ [])
unfolding enabled_of
no_choice setup w a x e there = let same : 0 + a ≡ a = omega arith in subst (λ (n : ℕ). (act_by n (can_act setup x.local) ≡ []) × (takes_of n w.flight ≡ [])) same (nothing_from setup 0 a w.seats w.flight x e there)

-- a message is to its receiver
taken_by : (m : Msg Kind) (ms : List (Msg Kind)) → takes_of m.to (m ∷ ms) ≡ [] → ⊥
taken_by m ms e = by (nat_eq m.to m.to) (grind (arith, nat_tests)) e
  where
    by : (t : Bool) → t ≡ true → map (λ (n : Msg Kind). Take m.to n.id) (cond t (m ∷ messages_to m.to ms) (messages_to m.to ms)) ≡ [] → ⊥
    by true u f = absurd (cc)
    by false u f = absurd (cc)

pub no_message : (setup : Setup) (w : Machine) → enabled_of setup w ≡ [] → ((m : Msg Kind) (ms : List (Msg Kind)) → w.flight ≡ m ∷ ms → (x : Seat ActorState) × (slice_get w.seats m.to ≡ Some x)) → w.flight ≡ []
no_message setup w e seated = by w.flight refl
  where
    by : (ms : List (Msg Kind)) → w.flight ≡ ms → w.flight ≡ []
    by [] f = f
    by (m ∷ ms) f =
        let s = seated m ms f in
        let n = no_choice setup w m.to s.0 e s.1 in
        absurd (taken_by m ms (subst (λ (l : List (Msg Kind)). takes_of m.to l ≡ []) f n.1))

-- an act that isn't there can't be made
pub no_act : (a : ℕ) (may : Result (Unit {0}) NotEnabled) → act_by a may ≡ [] → (may ≡ Ok tt → ⊥)
no_act a (Ok u) e f = absurd (cc)
no_act a (Err why) e f = absurd (cc)

-- ---- what is said of all seats

pub all_seats : (p : Seat ActorState → Bool) (xs : List (Seat ActorState)) → ((a : ℕ) (x : Seat ActorState) → slice_get xs a ≡ Some x → p x ≡ true) → list_all p xs ≡ true
all_seats p [] h = refl
all_seats p (x ∷ xs) h = by (p x) (h zero x refl) (all_seats p xs (λ a y e. h (suc a) y e))
  where
    by : (t : Bool) → t ≡ true → list_all p xs ≡ true → (t && list_all p xs) ≡ true
    by true e rest = rest
    by false e rest = absurd (cc)

pub quiet_where : (w : Machine) → w.flight ≡ [] → ((a : ℕ) (x : Seat ActorState) → slice_get w.seats a ≡ Some x → (has_stopped x.local ≡ true) × (is_at_rest x.local ≡ true)) → is_quiet w ≡ true
unfolding is_quiet is_stopped
quiet_where w none h = all3 (list_all (λ x. has_stopped x.local) w.seats) (nat_eq (length w.flight) 0) (list_all (λ x. is_at_rest x.local) w.seats)
    (all_seats (λ x. has_stopped x.local) w.seats (λ a x e. (h a x e).0)) (ap (λ (l : List (Msg Kind)). nat_eq (length l) 0) none) (all_seats (λ x. is_at_rest x.local) w.seats (λ a x e. (h a x e).1))
  where
    all3 : (a b c : Bool) → a ≡ true → b ≡ true → c ≡ true → (a && (b && c)) ≡ true
    all3 true true true x y z = refl
    all3 true true false x y z = absurd (cc)
    all3 true false c x y z = absurd (cc)
    all3 false b c x y z = absurd (cc)

-- ---- a machine that shows a world, with no message in flight

module _ (setup : Setup) (s : Sizes) (w : Machine) (harts : ℕ → HartState) (flat : Flat) (v : World Line) (f : Follows setup.image s w harts flat v) (patient : ArePatient setup.image w) (none : w.flight ≡ []) where
  -- the machine of functions
  abbrev m : SeenMachine Line Hart
  m = machine (cpus s w) (homes s w) (mover_at s w) (posts s w)

  silent : posts s w ≡ []
  silent = ap (map (post_seen s)) none

  no_place : (p : Place) → Has s.nodes (posts s w) p → ⊥
  no_place p h = subst (λ (l : List (Post Line)). Has s.nodes l p) silent h

  no_block : (k n : ℕ) → HasMessage (setup_seen s) m k n → ⊥
  no_block k n h = subst (λ (l : List (Post Line)). Among h.0 l) silent h.1

  node_at : (p : ℕ) → p < s.nodes → (x : NodeState) × (cpus s w p ≡ cpu_seen s x.processor) × IsProcessorOf setup.image s x.processor × IsPatient x.processor
  node_at p lt =
      let n = f.actors.nodes p lt in
      (n.0, ap (cpu_in s) n.1.1 ∙ ap (cpu_of s) n.1.2, n.1.3, subst (IsPatientActor setup.image) n.1.2 (patient p n.1.0 n.1.1))

  some_request : (o : Option Requested) (r : SeenRequest Line) → option_map (request_seen s) o ≡ Some r → (q : Requested) × (o ≡ Some q) × (request_seen s q ≡ r)
  some_request None r e = absurd (cc)
  some_request (Some q) r e = (q, refl, cc)

  some_slot : (o : Slot) (r : SeenSlot) → slot_seen s o ≡ Some r → (b : Block) × (busy : Bool) × (seen : Bool) × (o ≡ Taken b busy seen) × (record { frame = frame_number s b.frame; number = b.number; busy = busy; seen = seen } ≡ r)
  some_slot Free r e = absurd (cc)
  some_slot (Taken b busy seen) r e = (b, busy, seen, refl, cc)

  in_range : IsInRange (setup_seen s) m
  in_range = record {
    requests = λ p r lt e. (let n = node_at p lt in
        let q = some_request n.0.processor.request r (sym (ap (λ (c : Cpu Line Hart). c.request) n.1) ∙ e) in
        let b = n.2.request q.0 q.1 in
        subst (λ (z : SeenRequest Line). (z.frame < frame_count s) × (z.number < 32)) q.2 (number_below s q.0.block.frame b.0, b.1));
    slots = λ p r lt e. (let n = node_at p lt in
        let q = some_slot n.0.processor.victim r (sym (ap (λ (c : Cpu Line Hart). c.slot) n.1) ∙ e) in
        let b = n.2.victim q.0 q.1 q.2 q.3 in
        subst (λ (z : SeenSlot). (z.frame < frame_count s) × (z.number < 32)) q.4 (number_below s q.0.frame b.0, b.1));
  }

  is_patient : IsPatientSeen (setup_seen s) m
  is_patient = record {
    requests = λ p r lt e. (let n = node_at p lt in
        let q = some_request n.0.processor.request r (sym (ap (λ (c : Cpu Line Hart). c.request) n.1) ∙ e) in
        subst (λ (z : SeenRequest Line). outcome z.want z.got z.response z.acks ((cpus s w p).cache z.frame z.number) ≡ Waits) q.2
        (seen_waiting q.0 ((cpus s w p).cache (frame_number s q.0.block.frame) q.0.block.number) (n.3.waits q.0 q.1)));
    replies = λ page old new number acks x e. replied page old new number acks x e;
  }
    where
      mover_here : (k : MoverState) × (mover_at s w ≡ mover_seen s k) × IsPatientMover k
      mover_here = let n = f.actors.mover in (n.0, mover_is s w n.1.0 n.0 n.1.1 n.1.2, subst (IsPatientActor setup.image) n.1.2 (patient s.nodes n.1.0 n.1.1))

      some_reply : (o : Option Reply) (x : Line × ℕ) → option_map (λ (reply : Reply). (reply.line, reply.acks)) o ≡ Some x → (reply : Reply) × (o ≡ Some reply) × (reply.acks ≡ x.1)
      some_reply None x e = absurd (cc)
      some_reply (Some reply) x e = let same : (reply.line, reply.acks) ≡ x = cc in (reply, refl, ap (λ (z : Line × ℕ). z.1) same)

      by_job : (job : Job) (page old new number acks : ℕ) (x : Line × ℕ) → job_seen s job ≡ MCollect page old new number (Some x) acks → ((route : Route) (b : ℕ) (received : Received) (reply : Reply) → job ≡ Move route (Collect b received) → received.reply ≡ Some reply → received.acks ≢ reply.acks) → acks ≢ x.1
      by_job (Move route (Collect b received)) page old new number acks x e h =
          let r : reply_seen received ≡ Some x = cc in
          let a : received.acks ≡ acks = cc in
          let y = some_reply received.reply x r in
          λ same. h route b received y.0 refl y.1 (a ∙ (same ∙ sym y.2))
      by_job Idle page old new number acks x e h = absurd (cc)
      by_job (Move route (Ask b)) page old new number acks x e h = absurd (cc)
      by_job (Move route (Hold b line)) page old new number acks x e h = absurd (cc)
      by_job (Move route (Wait b)) page old new number acks x e h = absurd (cc)
      by_job (Move route Publish) page old new number acks x e h = absurd (cc)
      by_job (Reclaim frame Tell) page old new number acks x e h = absurd (cc)
      by_job (Reclaim frame Gather) page old new number acks x e h = absurd (cc)
      by_job (Reclaim frame Clean) page old new number acks x e h = absurd (cc)
      by_job (Reclaim frame Cleaning) page old new number acks x e h = absurd (cc)

      replied : (page old new number acks : ℕ) (x : Line × ℕ) → (mover_at s w).job ≡ MCollect page old new number (Some x) acks → acks ≢ x.1
      replied page old new number acks x e = let k = mover_here in by_job k.0.job page old new number acks x (sym (ap (λ (z : SeenMover Line). z.job) k.1) ∙ e) k.2.replies

  -- ---- nothing is outstanding

  no_request : (p : ℕ) (x : ProcessorState) → p < s.nodes → cpus s w p ≡ cpu_seen s x → (r : Requested) → x.request ≡ Some r → ⊥
  no_request p x lt c r e =
      let seen : (cpus s w p).request ≡ Some (request_seen s r) = ap (λ (z : Cpu Line Hart). z.request) c ∙ ap (option_map (request_seen s)) e in
      no_block (frame_number s r.block.frame) r.block.number (request_waits (setup_seen s) (harts_seen setup.image s) m v p (request_seen s r) f.shows is_patient in_range lt seen)

  no_walk : (p : ℕ) (x : ProcessorState) → p < s.nodes → cpus s w p ≡ cpu_seen s x → (page : VPage) → x.walk ≡ Some page → ⊥
  no_walk p x lt c page e =
      let seen : (cpus s w p).walk ≡ Some (page_number s page) = ap (λ (z : Cpu Line Hart). z.walk) c ∙ ap (option_map (page_number s)) e in
      no_place (WalkAt p) (walk_waits (setup_seen s) (harts_seen setup.image s) m v p (page_number s page) f.shows lt seen)

  no_victim : (p : ℕ) (x : ProcessorState) → p < s.nodes → cpus s w p ≡ cpu_seen s x → x.victim ≡ Free
  no_victim p x lt c = by x.victim refl
    where
      by : (o : Slot) → x.victim ≡ o → x.victim ≡ Free
      by Free e = e
      by (Taken b busy seen) e = absurd (
          let there : (cpus s w p).slot ≡ Some (record { frame = frame_number s b.frame; number = b.number; busy = busy; seen = seen }) = ap (λ (z : Cpu Line Hart). z.slot) c ∙ ap (slot_seen s) e in
          no_block (frame_number s b.frame) b.number (slot_waits (setup_seen s) (harts_seen setup.image s) m v p (record { frame = frame_number s b.frame; number = b.number; busy = busy; seen = seen }) f.shows is_patient in_range lt there))

  none_is : {X : Type 0} → (o : Option X) → ((x : X) → o ≡ Some x → ⊥) → o ≡ None
  none_is None h = refl
  none_is (Some x) h = absurd (h x refl)

  -- ---- a node whose act isn't enabled has stopped

  free_slot : (x : ProcessorState) (needed : Need) → x.victim ≡ Free → is_blocked_by x needed ≡ false
  free_slot x (need.Access access) e = at (frame_of x.tlb (page_of (addr_of access)))
    where
      slot_of : (b : Block) → is_slot_of x.victim b ≡ false
      slot_of b = ap (λ (o : Slot). is_slot_of o b) e

      free : not (is_free_slot x.victim) ≡ false
      free = ap (λ (o : Slot). not (is_free_slot o)) e

      two : (a b c d : Bool) → b ≡ false → d ≡ false → (not a && (b || (c && d))) ≡ false
      two true b c d x y = refl
      two false true c d x y = absurd (cc)
      two false false true true x y = absurd (cc)
      two false false true false x y = refl
      two false false false d x y = refl

      at : (o : Option Frame) → is_blocked_at x access o ≡ false
      at None = refl
      at (Some frame) = two (allows (mode_of x.cache (block_in frame (addr_of access))) access) (is_slot_of x.victim (block_in frame (addr_of access))) (is_dirty_out (thrown_out x.cache (block_in frame (addr_of access)))) (not (is_free_slot x.victim)) (slot_of (block_in frame (addr_of access))) free
  free_slot x need.Plain e = refl
  free_slot x (need.Emit value) e = refl
  free_slot x (need.Stop cause) e = refl

  node_stopped : (p : ℕ) (x : ProcessorState) → p < s.nodes → cpus s w p ≡ cpu_seen s x → (may_act setup.image x ≡ Ok tt → ⊥) → is_some x.hart.cause ≡ true
  unfolding may_act
  node_stopped p x lt c refused = by x.hart.cause refl
    where
      by : (o : Option Cause) → x.hart.cause ≡ o → is_some x.hart.cause ≡ true
      by (Some cause) e = ap is_some e
      by None e = absurd (refused (all e))
        where
          all : x.hart.cause ≡ None → may_act_by setup.image x x.hart.cause x.request x.walk ≡ Ok tt
          all e =
              let r : x.request ≡ None = none_is x.request (no_request p x lt c) in
              let k : x.walk ≡ None = none_is x.walk (no_walk p x lt c) in
              ap (λ (o : Option Cause). may_act_by setup.image x o x.request x.walk) e ∙ (ap (λ (o : Option Requested). may_act_by setup.image x None o x.walk) r ∙ (ap (λ (o : Option VPage). may_act_by setup.image x None None o) k
              ∙ ap (λ (t : Bool). if t then Err VictimBusy else Ok tt) (free_slot x (need_of setup.image x.hart) (no_victim p x lt c))))

  -- ---- a mover whose act isn't enabled is idle

  not_occupied : (p : ℕ) (x : ProcessorState) → p < s.nodes → cpus s w p ≡ cpu_seen s x → is_occupied x ≡ false
  not_occupied p x lt c =
      let r : x.request ≡ None = none_is x.request (no_request p x lt c) in
      let k : x.walk ≡ None = none_is x.walk (no_walk p x lt c) in
      let u : x.victim ≡ Free = no_victim p x lt c in
      three (is_some x.request) (is_some x.walk) (not (is_free_slot x.victim)) (ap is_some r) (ap is_some k) (ap (λ (o : Slot). not (is_free_slot o)) u)
    where
      three : (a b d : Bool) → a ≡ false → b ≡ false → d ≡ false → (a || b || d) ≡ false
      three true b d e f g = absurd (cc)
      three false true d e f g = absurd (cc)
      three false false true e f g = absurd (cc)
      three false false false e f g = refl

  nobody_holds : (k : MoverState) (frame : Frame) → mover_at s w ≡ mover_seen s k → k.job ≡ Reclaim frame Gather → (q : ℕ) → (mover_at s w).holders (frame_number s frame) q ≡ false
  nobody_holds k frame is job q = by ((mover_at s w).holders (frame_number s frame) q) refl
    where
      by : (t : Bool) → (mover_at s w).holders (frame_number s frame) q ≡ t → (mover_at s w).holders (frame_number s frame) q ≡ false
      by false e = e
      by true e =
          let seen : (mover_at s w).job ≡ MGather (frame_number s frame) = ap (λ (z : SeenMover Line). z.job) is ∙ ap (job_seen s) job in
          let g = gather_waits (setup_seen s) (harts_seen setup.image s) m v (frame_number s frame) q f.shows seen e in
          elim g.1 [
            | inl h ↦ absurd (no_place (DropAt q) h)
            | inr h ↦ absurd (
                let n = node_at q g.0 in
                dropped n.0.processor.drop refl (λ d. h (ap (λ (z : Cpu Line Hart). z.drop) n.1 ∙ ap (option_map (frame_number s)) d)) (λ fr d. (let a = n.3.drop fr d in let b = not_occupied q n.0.processor g.0 n.1 in cc)))
          ]
        where
          dropped : (o : Option Frame) → {x : Option Frame} → x ≡ o → (x ≡ None → ⊥) → ((fr : Frame) → x ≡ Some fr → true ≡ false) → ⊥
          dropped None e never occupied = never e
          dropped (Some fr) e never occupied = absurd (let a = occupied fr e in cc)

  mover_idle : (k : MoverState) → mover_at s w ≡ mover_seen s k → IsMoverOf s k → IsPatientMover k → has_act k.job ≡ false → is_idle_job k.job ≡ true
  mover_idle k is sound waits quiet = by k.job refl quiet
    where
      seen : (job : Job) → k.job ≡ job → (mover_at s w).job ≡ job_seen s job
      seen job e = ap (λ (z : SeenMover Line). z.job) is ∙ ap (job_seen s) e

      by : (job : Job) → k.job ≡ job → has_act job ≡ false → is_idle_job k.job ≡ true
      by Idle e q = ap is_idle_job e
      by (Move route (Ask b)) e q = absurd (cc)
      by (Move route (Hold b line)) e q = absurd (cc)
      by (Move route Publish) e q = absurd (cc)
      by (Move route (Collect b received)) e q = absurd (no_block (frame_number s route.old) b (collect_waits (setup_seen s) (harts_seen setup.image s) m v (page_number s route.page) (frame_number s route.old) (frame_number s route.new) b received.acks (reply_seen received) f.shows is_patient (seen (Move route (Collect b received)) e)))
      by (Move route (Wait b)) e q = absurd (no_place CommandAt (copy_waits (setup_seen s) (harts_seen setup.image s) m v (page_number s route.page) (frame_number s route.old) (frame_number s route.new) b f.shows (seen (Move route (Wait b)) e)))
      by (Reclaim frame Tell) e q = absurd (cc)
      by (Reclaim frame Clean) e q = absurd (cc)
      by (Reclaim frame Cleaning) e q = absurd (no_place CommandAt (cleaning_waits (setup_seen s) (harts_seen setup.image s) m v (frame_number s frame) f.shows (seen (Reclaim frame Cleaning) e)))
      by (Reclaim frame Gather) e q = absurd (
          let unheld : is_unheld k.pages frame ≡ true = unheld_seen s.nodes (holders_of k.pages frame) (λ p has. absurd (let n = empty frame e p in cc)) ∙ ap (λ (n : ℕ). nat_eq n 0) (count_none s.nodes (set.contains (holders_of k.pages frame)) (λ p lt. empty frame e p)) in
          let held : is_unheld k.pages frame ≡ false = waits.gathers frame e in
          cc)
        where
          there_in : (fr : Frame) → k.job ≡ Reclaim fr Gather → is_there s fr ≡ true
          there_in fr e = let j : IsJob k.pages k.settings (Reclaim fr Gather) = subst (IsJob k.pages k.settings) e sound.sound.job in is_there_in s k.pages (table_of s k sound) fr j.0.1

          empty : (fr : Frame) → k.job ≡ Reclaim fr Gather → (p : ℕ) → set.contains (holders_of k.pages fr) p ≡ false
          empty fr e p = ap (λ (h : set.FinSet nat_cmp). set.contains h p) (sym (holders_at s k.pages (table_of s k sound) fr (there_in fr e))) ∙ (ap (λ (z : SeenMover Line). z.holders (frame_number s fr) p) (sym is) ∙ nobody_holds k fr is e p)

  -- ---- all of it

  pub rests : enabled_of setup w ≡ [] → is_quiet w ≡ true
  rests e = quiet_where w none (λ a x there. elim (where_is a s.nodes (length w.seats) (slice_get_within w.seats a x there) f.actors.count) [
    | inl lt ↦ (let n = f.actors.nodes a lt in
        let one : x.local ≡ Node n.0 = same_actor w a x n.1.0 there n.1.1 ∙ n.1.2 in
        let c : cpus s w a ≡ cpu_seen s n.0.processor = ap (cpu_in s) n.1.1 ∙ ap (cpu_of s) n.1.2 in
        let refused : (may_act setup.image n.0.processor ≡ Ok tt → ⊥) = no_act a (can_act setup (Node n.0)) (subst (λ (z : ActorState). act_by a (can_act setup z) ≡ []) one (no_choice setup w a x e there).0) in
        (ap has_stopped one ∙ node_stopped a n.0.processor lt c refused, ap is_at_rest one ∙ ap is_free_slot (no_victim a n.0.processor lt c)))
    | inr at ↦ (let n = f.actors.mover in
        let here : slice_get w.seats s.nodes ≡ Some x = subst (λ (z : ℕ). slice_get w.seats z ≡ Some x) at there in
        let one : x.local ≡ Mover n.0 = same_actor w s.nodes x n.1.0 here n.1.1 ∙ n.1.2 in
        let refused : (mover_may (has_act n.0.job) ≡ Ok tt → ⊥) = no_act a (can_act setup (Mover n.0)) (subst (λ (z : ActorState). act_by a (can_act setup z) ≡ []) one (no_choice setup w a x e there).0) in
        (ap has_stopped one, ap is_at_rest one ∙ mover_idle n.0 (mover_is s w n.1.0 n.0 n.1.1 n.1.2) n.1.3 (subst (IsPatientActor setup.image) n.1.2 (patient s.nodes n.1.0 n.1.1)) (no_may (has_act n.0.job) refused)))
  ])
    where
      no_may : (t : Bool) → (mover_may t ≡ Ok tt → ⊥) → t ≡ false
      no_may true h = absurd (h refl)
      no_may false h = refl
