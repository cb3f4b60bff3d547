-- A step of a machine whose harts have stopped makes the measure smaller.
use Rattle.std.proofs.Common.{◌≡◌, ◌∙◌, ◌≤◌, ℕ, ◌+◌, ◌&&◌, Bool, true, false, cond, nat_eq, Option, None, Some, refl, sym, ap, subst, List, slice_get, slice_set, arith, ◌⊎◌, inl, inr}
use Rattle.std.specs.Prelude.{is_some, if◌then◌else◌}
use Rattle.og_base.specs.declared.Cause.{Cause}
use Rattle.og_runs.specs.declared.Choice.{Choice}
use Rattle.og_runs.specs.declared.Choice.TheVariants.{Act, Take}
use Rattle.og_runs.specs.declared.Event.{Event}
use Rattle.og_runs.specs.declared.Msg.{Msg}
use Rattle.og_runs.specs.declared.MsgId.{MsgId}
use Rattle.og_runs.specs.declared.Seat.{Seat}
use Rattle.og_runs.specs.Runs.{Outcome, clock_after, event_of, posted}
use Rattle.og_runs.specs.World.{find, without, placed_all, flight_after, seat_after, world_after, world_move, world_move_with, world_take, world_step}
use Rattle.og_msg.specs.declared.Kind.{Kind}
use Rattle.og_msg.specs.declared.Note.{Note}
use Rattle.og_msg.specs.Kinds.{block_of}
use Rattle.og_home.specs.Home.{serve}
use Rattle.og_processor.specs.Act.{may_act, may_act_by}
use Rattle.og_processor.specs.Rows.{has_row_for}
use Rattle.og_node.specs.Node.{NodeState, is_for_home, take_by}
use Rattle.og_node.specs.Rows.{has_row as has_node_row, has_home_row, has_processor_row, is_from_its_sender, is_block, names_known}
use Rattle.og_mover.specs.Table.{has_act, has_table_row, act_of as mover_act}
use Rattle.og_machine.specs.Machine.{Setup, ActorState, Node, Mover, Machine, Gives, rules, by_node, by_mover, mover_may, where_enabled, acting, taking, act_of, take_of}
use Rattle.og_drain.specs.Measure.{weight, letters_weight, messages_weight, job_left, drop_left, actor_left, seats_left, measure}
use Rattle.og_drain.specs.Laws.{IsStill, IsAmong, Each, IsDrained, Drains, StoppedMachinesPay}
use Rattle.og_drain.proofs.Homes.{homes_pay}
use Rattle.og_drain.proofs.Processors.{processors_pay}
use Rattle.og_drain.proofs.Movers.{act_pays, take_pays}
use Rattle.og_drain.proofs.Flights.{all_weigh, posted_weigh, found_weighs, found_id, set_left, set_seats}

-- ---- one actor

-- what is sent and left weighs less than w; a node is still as before
record Paid (nodes w : ℕ) (made : Outcome ActorState Kind Note) : Type 0 where
  pub pays : letters_weight nodes made.letters + actor_left nodes made.local + 1 ≤ w
  pub still : IsStill made.local

-- where something is made
abbrev PaidIf : (nodes w : ℕ) → Gives → Type 0
PaidIf nodes w None = Unit {0}
PaidIf nodes w (Some made) = Paid nodes w made

act_paid : (setup : Setup) (nodes : ℕ) (x : ActorState) → IsStill x → IsAmong nodes x → PaidIf nodes (actor_left nodes x) (act_of setup x)
unfolding act_of may_act
act_paid setup nodes (Node x) still among = by x.processor.hart.cause still.0
  where
    by : (c : Option Cause) → is_some c ≡ true → PaidIf nodes (drop_left x.processor) (where_enabled (may_act_by setup.image x.processor c x.processor.request x.processor.walk) (acting setup (Node x)))
    by None e = absurd (cc)
    by (Some c) e = tt
act_paid setup nodes (Mover m) still among = by (has_act m.job) refl
  where
    by : (t : Bool) → has_act m.job ≡ t → PaidIf nodes (job_left nodes m.job) (where_enabled (mover_may t) (by_mover (mover_act m)))
    by true e = record { pays = act_pays nodes m among.1 among.0 e; still = tt }
    by false e = tt

-- a message at a node
node_paid : (setup : Setup) (nodes : ℕ) (x : NodeState) (message : Msg Kind) → 1 ≤ nodes → IsStill (Node x) → x.home.rules.nodes ≡ nodes → IsDrained (Node x) message.kind
    → (t : Bool) → (if t then has_home_row x.home message message.kind else has_processor_row x message) ≡ true → Paid nodes (weight nodes message.kind + drop_left x.processor) (by_node (take_by t setup.image x message))
node_paid setup nodes x message some still among drained true has = record { pays = together (letters_weight nodes (serve x.home message).letters) (weight nodes message.kind) (drop_left x.processor) (homes_pay nodes x.home message some among has drained.0 drained.1); still = still }
  where
    together : (l w d : ℕ) → l + 1 ≤ w → l + d + 1 ≤ w + d
    together l w d h = omega arith
node_paid setup nodes x message some still among drained false has =
    let row : has_row_for x.processor message.kind ≡ true = last (is_from_its_sender x.home.rules.nodes message) (is_block x.home (block_of message.kind)) (names_known x.home message.kind) (has_row_for x.processor message.kind) has in
    record {
      pays = processors_pay.pays nodes setup.image x.processor message.kind still.1 row;
      still = (ap (λ h. is_some h.cause) (processors_pay.hart setup.image x.processor message.kind still.1 row) ∙ still.0, processors_pay.asks setup.image x.processor message.kind still.1 row);
    }
  where
    last : (s t u v : Bool) → (s && (t && (u && v))) ≡ true → v ≡ true
    last true true true v h = h
    last true true false v h = absurd (cc)
    last true false u v h = absurd (cc)
    last false t u v h = absurd (cc)

take_paid : (setup : Setup) (nodes : ℕ) (x : ActorState) (message : Msg Kind) → 1 ≤ nodes → IsStill x → IsAmong nodes x → IsDrained x message.kind → PaidIf nodes (weight nodes message.kind + actor_left nodes x) (take_of setup x message)
unfolding take_of has_node_row
take_paid setup nodes (Node x) message some still among drained = by (has_node_row x message) refl
  where
    by : (t : Bool) → has_node_row x message ≡ t → PaidIf nodes (weight nodes message.kind + drop_left x.processor) (if t then Some (taking setup (Node x) message) else None)
    by true e = node_paid setup nodes x message some still among drained (is_for_home message.kind) e
    by false e = tt
take_paid setup nodes (Mover m) message some still among drained = by (has_table_row m message) refl
  where
    by : (t : Bool) → has_table_row m message ≡ t → PaidIf nodes (weight nodes message.kind + job_left nodes m.job) (if t then Some (taking setup (Mover m) message) else None)
    by true e = record { pays = take_pays nodes m message among.0 e; still = tt }
    by false e = tt

-- ---- the machine

abbrev Falls : (nodes : ℕ) → Machine → Option (Machine × Event Note) → Type 0
Falls nodes w None = Unit {0}
Falls nodes w (Some step) = (measure nodes step.0 + 1 ≤ measure nodes w) × Each IsStill step.0

-- an event of an actor that is paid by what it had left and by the message that it took
falls : (nodes a b : ℕ) (w : Machine) (x : Seat ActorState) (v : Option (Msg Kind)) (made : Outcome ActorState Kind Note) → slice_get w.seats a ≡ Some x → Each IsStill w → b + messages_weight nodes (flight_after v w.flight) ≤ messages_weight nodes w.flight
    → Paid nodes (b + actor_left nodes x.local) made → Falls nodes w (Some (world_after w a x v made, event_of a x.clock v made))
unfolding measure
falls nodes a b w x v made at still rest paid = (
  together (messages_weight nodes (placed_all (flight_after v w.flight) new)) (messages_weight nodes (flight_after v w.flight)) (messages_weight nodes new) (letters_weight nodes made.letters) (messages_weight nodes w.flight) (seats_left nodes (slice_set w.seats a (seat_after x v made))) (seats_left nodes w.seats) (actor_left nodes x.local) (actor_left nodes made.local)
      (all_weigh nodes new (flight_after v w.flight)) (posted_weigh nodes a (clock_after x.clock v) x.next made.letters) rest (set_left nodes w.seats a x (seat_after x v made) at) paid.pays,
  λ q seat e. kept q seat (set_seats w.seats a q (seat_after x v made) seat e) (λ f. still q seat f),
)
  where
    new : List (Msg Kind)
    new = posted a (clock_after x.clock v) x.next made.letters

    together : (f r n l g s t x y : ℕ) → f ≡ r + n → n ≡ l → b + r ≤ g → s + x ≡ t + y → l + y + 1 ≤ b + x → f + s + 1 ≤ g + t
    together f r n l g s t x y e h i j k = omega arith

    kept : (q : ℕ) (seat : Seat ActorState) → (seat ≡ seat_after x v made) ⊎ (slice_get w.seats q ≡ Some seat) → (slice_get w.seats q ≡ Some seat → IsStill seat.local) → IsStill seat.local
    kept q seat (inl e) h = subst (λ (s : Seat ActorState). IsStill s.local) (sym e) paid.still
    kept q seat (inr e) h = h e

act_falls : (setup : Setup) (nodes a : ℕ) (w : Machine) → Each IsStill w → Each (IsAmong nodes) w → Falls nodes w (world_move (rules setup) w a None (slice_get w.seats a))
act_falls setup nodes a w still among = by (slice_get w.seats a) refl
  where
    none : (r : ℕ) → 0 + r ≤ r
    none r = omega arith

    as_much : (l x : ℕ) → l + 1 ≤ x → l + 1 ≤ 0 + x
    as_much l x h = omega arith

    made : (x : Seat ActorState) → slice_get w.seats a ≡ Some x → (o : Gives) → PaidIf nodes (actor_left nodes x.local) o → Falls nodes w (world_move_with w a x None o)
    made x e None paid = tt
    made x e (Some o) paid = falls nodes a 0 w x None o e still (none (messages_weight nodes w.flight)) (record { pays = as_much (letters_weight nodes o.letters + actor_left nodes o.local) (actor_left nodes x.local) paid.pays; still = paid.still })

    by : (o : Option (Seat ActorState)) → slice_get w.seats a ≡ o → Falls nodes w (world_move (rules setup) w a None o)
    by None e = tt
    by (Some x) e = made x e (act_of setup x.local) (act_paid setup nodes x.local (still a x e) (among a x e))

take_falls : (setup : Setup) (nodes a : ℕ) (id : MsgId) (w : Machine) → 1 ≤ nodes → Each IsStill w → Each (IsAmong nodes) w → Drains w (Take a id) → Falls nodes w (world_take (rules setup) w a (find id w.flight))
take_falls setup nodes a id w some still among drains = by (find id w.flight) refl
  where
    made : (m : Msg Kind) → find id w.flight ≡ Some m → (x : Seat ActorState) → slice_get w.seats a ≡ Some x → (o : Gives) → PaidIf nodes (weight nodes m.kind + actor_left nodes x.local) o → Falls nodes w (world_move_with w a x (Some m) o)
    made m f x e None paid = tt
    made m f x e (Some o) paid = falls nodes a (weight nodes m.kind) w x (Some m) o e still (subst (λ (i : MsgId). weight nodes m.kind + messages_weight nodes (without i w.flight) ≤ messages_weight nodes w.flight) (found_id id m w.flight f) (found_weighs nodes id m w.flight f)) paid

    by_seat : (m : Msg Kind) → find id w.flight ≡ Some m → (o : Option (Seat ActorState)) → slice_get w.seats a ≡ o → Falls nodes w (world_move (rules setup) w a (Some m) o)
    by_seat m f None e = tt
    by_seat m f (Some x) e = made m f x e (take_of setup x.local m) (take_paid setup nodes x.local m some (still a x e) (among a x e) (drains m x f e))

    by_actor : (m : Msg Kind) → find id w.flight ≡ Some m → (t : Bool) → Falls nodes w (cond t (world_move (rules setup) w a (Some m) (slice_get w.seats a)) None)
    by_actor m f true = by_seat m f (slice_get w.seats a) refl
    by_actor m f false = tt

    by : (o : Option (Msg Kind)) → find id w.flight ≡ o → Falls nodes w (world_take (rules setup) w a o)
    by None f = tt
    by (Some m) f = by_actor m f (nat_eq m.to a)

step_falls : (setup : Setup) (nodes : ℕ) (w : Machine) (choice : Choice) → 1 ≤ nodes → Each IsStill w → Each (IsAmong nodes) w → Drains w choice → Falls nodes w (world_step (rules setup) w choice)
step_falls setup nodes w (Act a) some still among drains = act_falls setup nodes a w still among
step_falls setup nodes w (Take a id) some still among drains = take_falls setup nodes a id w some still among drains

pub stopped_machines_pay : StoppedMachinesPay
stopped_machines_pay setup nodes w u choice event some still among drains e = subst (Falls nodes w) e (step_falls setup nodes w choice some still among drains)
