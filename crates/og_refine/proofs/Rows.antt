-- Each message in flight has a receiver, and a row in its tables; so a choice has a step exactly where it isn't refused.
use Rattle.std.proofs.Common.{◌≡◌, ◌∙◌, ℕ, ◌+◌, ◌*◌, ◌/◌, ◌<◌, ◌⊎◌, inl, inr, Bool, true, false, nat_eq, nat_lt, arith, refl, sym, ap, subst, Option, None, Some, List, ◌∷◌, map, slice_get}
use Rattle.std.specs.Prelude.{IsSome, if◌then◌else◌}
use Rattle.std.proofs.lemmas.Bool.Decides.{nat_tests}
use Rattle.og_base.specs.declared.NotEnabled.TheVariants.{NoMessage}
use Rattle.og_line.specs.declared.Line.{Line}
use Rattle.og_runs.specs.declared.Choice.{Choice}
use Rattle.og_runs.specs.declared.Choice.TheVariants.{Act, Take}
use Rattle.og_runs.specs.declared.Msg.{Msg}
use Rattle.og_runs.specs.declared.MsgId.{MsgId}
use Rattle.og_runs.specs.declared.Seat.{Seat}
use Rattle.og_runs.specs.World.{find, without, world_step, Distinct}
use Rattle.og_msg.specs.declared.Kind.{Kind}
use Rattle.og_msg.specs.declared.Kind.TheVariants.{Read, ReadEx, Upgrade, WriteBack, SharedReply, SpecReply, ExclusiveReply, UpgradeReply, Nak, PoisonError, WbAck, WbBusyAck, InterveneShared, InterveneEx, IntervenePoison, Invalidate, InvalAck, SharedResponse, ExclusiveResponse, OwnerAck, SharingWriteBack, PoisonBack, SharingTransfer, DirtyTransfer, PoisonClean, PoisonRead, PoisonReply, CopyIn, CopyDone, CleanFrame, FrameClean, Hot, Rearm, Walk, Walked, WalkRetry, DropFrame, Dropped}
use Rattle.og_flat.specs.Flat.{Flat}
use Rattle.rv_hart.specs.Hart.{HartState}
use Rattle.og_whole.specs.Events.{World}
use Rattle.og_node.specs.Node.{NodeState, is_for_home}
use Rattle.og_node.specs.Rows.{has_row as has_node_row, has_home_row, has_processor_row}
use Rattle.og_machine.specs.Machine.{Setup, ActorState, Node, Machine, rules, has_row, refusal_of, take_refusal}
use Rattle.og_machine.proofs.Refusals.{act_exact, take_step}
use Rattle.og_relate.specs.Data.{Post}
use Rattle.og_relate.specs.Places.{Placed}
use Rattle.og_relate.specs.Steps.{letter}
use Rattle.og_seen.specs.Numbers.{Sizes, setup_seen}
use Rattle.og_seen.specs.Messages.{frame_of_block, kind_seen, post_seen, is_part}
use Rattle.og_seen.specs.Processors.{cpu_seen}
use Rattle.og_seen.specs.Homes.{home_seen}
use Rattle.og_seen.specs.Movers.{mover_seen}
use Rattle.og_seen.specs.Sound.{AreSizes, IsProcessorOf, IsHomeOf}
use Rattle.og_seen.specs.Events.{Shows}
use Rattle.og_refine_mover.proofs.Sent.{home_low}
use Rattle.og_refine.specs.Machines.{cpus, homes, mover_at, cpu_in, cpu_of, home_in, home_of}
use Rattle.og_refine.proofs.Tables.{Tables}
use Rattle.og_refine.proofs.Moved.{found_own, taken_first}
use Rattle.og_refine.proofs.Steps.{Follows, same_shows, mover_is}

-- ---- who receives a message

below_or_at : (to n : ℕ) → to < n + 1 → (to < n) ⊎ (to ≡ n)
below_or_at to n lt = by (nat_lt to n) refl
  where
    by : (t : Bool) → nat_lt to n ≡ t → (to < n) ⊎ (to ≡ n)
    by true e = inl (grind (arith, nat_tests))
    by false e = inr (grind (arith, nat_tests))

-- the home of a frame that is there
at_home : (s : Sizes) (f to : ℕ) → AreSizes s → f < s.nodes * s.frames → to ≡ f / s.frames → (to < s.nodes) ⊎ (to ≡ s.nodes)
at_home s f to sizes lt e = inl (subst (λ (n : ℕ). n < s.nodes) (sym e) (home_low s f sizes lt))

-- a node, or the mover
receiver : (s : Sizes) (w : World Line) (from to : ℕ) (k : Kind) → AreSizes s → Placed (setup_seen s) w (letter from to (kind_seen s k)) → (to < s.nodes) ⊎ (to ≡ s.nodes)
receiver s w from to (Read b) sizes p = at_home s (frame_of_block s b) to sizes p.0.0 p.1.1
receiver s w from to (ReadEx b) sizes p = at_home s (frame_of_block s b) to sizes p.0.0 p.1.1
receiver s w from to (Upgrade b) sizes p = at_home s (frame_of_block s b) to sizes p.0.0 p.1.1
receiver s w from to (WriteBack b l) sizes p = at_home s (frame_of_block s b) to sizes p.0.0 p.1.1
receiver s w from to (SharedReply b l) sizes p = inl p.1.1
receiver s w from to (SpecReply b l) sizes p = inl p.1.1
receiver s w from to (ExclusiveReply b l acks) sizes p = inl p.1.1
receiver s w from to (UpgradeReply b acks) sizes p = inl p.1.1
receiver s w from to (Nak b) sizes p = below_or_at to s.nodes p.1.1
receiver s w from to (PoisonError b) sizes p = inl p.1.1
receiver s w from to (WbAck b) sizes p = inl p.1.1
receiver s w from to (WbBusyAck b) sizes p = inl p.1.1
receiver s w from to (InterveneShared b requester) sizes p = inl p.1.1
receiver s w from to (InterveneEx b requester) sizes p = inl p.1.1
receiver s w from to (IntervenePoison b) sizes p = inl p.1.1
receiver s w from to (Invalidate b requester) sizes p = inl p.1.1
receiver s w from to (InvalAck b) sizes p = below_or_at to s.nodes p.1.1
receiver s w from to (SharedResponse b l) sizes p = inl p.1.1
receiver s w from to (ExclusiveResponse b l) sizes p = inl p.1.1
receiver s w from to (OwnerAck b) sizes p = inl p.1.1
receiver s w from to (SharingWriteBack b l) sizes p = at_home s (frame_of_block s b) to sizes p.0.0 p.1.1
receiver s w from to (PoisonBack b l) sizes p = at_home s (frame_of_block s b) to sizes p.0.0 p.1.1
receiver s w from to (SharingTransfer b) sizes p = at_home s (frame_of_block s b) to sizes p.0.0 p.1.1
receiver s w from to (DirtyTransfer b) sizes p = at_home s (frame_of_block s b) to sizes p.0.0 p.1.1
receiver s w from to (PoisonClean b) sizes p = at_home s (frame_of_block s b) to sizes p.0.0 p.1.1
receiver s w from to (PoisonRead b) sizes p = at_home s (frame_of_block s b) to sizes p.0.0 p.1.1
receiver s w from to (PoisonReply b l acks) sizes p = inr p.1.1
receiver s w from to (CopyIn b l) sizes p = at_home s (frame_of_block s b) to sizes p.1.2 p.1.1
receiver s w from to (CopyDone b) sizes p = inr p.1.1
receiver s w from to (CleanFrame frame) sizes p = at_home s _ to sizes p.1.2 p.1.1
receiver s w from to (FrameClean frame) sizes p = inr p.1.1
receiver s w from to (Hot hot) sizes p = inr p.1.1
receiver s w from to (Rearm frame) sizes p = at_home s _ to sizes p.0.0 p.1.1
receiver s w from to (Walk page) sizes p = inr p.1.1
receiver s w from to (Walked page frame) sizes p = inl p.1.1
receiver s w from to (WalkRetry page) sizes p = inl p.1.1
receiver s w from to (DropFrame frame) sizes p = inl p.1.1
receiver s w from to (Dropped frame) sizes p = inr p.1.1

-- ---- its row

pub message_has_row : (setup : Setup) (s : Sizes) (w : Machine) (harts : ℕ → HartState) (flat : Flat) (v : World Line) (message : Msg Kind) → Tables → AreSizes s → Follows setup.image s w harts flat v → Distinct w.flight → find message.id w.flight ≡ Some message →
    (seat : Seat ActorState) × (slice_get w.seats message.to ≡ Some seat) × (has_row seat.local message ≡ true)
unfolding has_node_row
message_has_row setup s w harts flat v message tables sizes f distinct found = elim (receiver s v message.id.sender message.to message.kind sizes first.flight.0.0) [
  | inl lt ↦ (let n = f.actors.nodes message.to lt in (n.1.0, n.1.1, ap (λ (x : ActorState). has_row x message) n.1.2 ∙ node_row n.0 lt n.1.0 n.1.1 n.1.2 n.1.3 n.1.4))
  | inr at ↦ (let n = f.actors.mover in (
    n.1.0,
    subst (λ (a : ℕ). slice_get w.seats a ≡ Some n.1.0) (sym at) n.1.1,
    ap (λ (x : ActorState). has_row x message) n.1.2 ∙
        (tables.mover_takes setup.image s (cpus s w) (homes s w) v n.0 message rest sizes n.1.3 at (same_shows setup.image s (cpus s w) (cpus s w) (homes s w) (homes s w) (mover_at s w) (mover_seen s n.0) (post_seen s message ∷ rest) v refl refl (mover_is s w n.1.0 n.0 n.1.1 n.1.2) first)).0,
  ))
]
  where
    rest : List (Post Line)
    rest = map (post_seen s) (without message.id w.flight)

    first : Shows setup.image s (cpus s w) (homes s w) (mover_at s w) (post_seen s message ∷ rest) v
    first = taken_first setup.image s (cpus s w) (homes s w) (mover_at s w) v message w.flight distinct found f.shows

    node_row : (x : NodeState) → message.to < s.nodes → (seat : Seat ActorState) → slice_get w.seats message.to ≡ Some seat → seat.local ≡ Node x → IsProcessorOf setup.image s x.processor → IsHomeOf s message.to x.home → has_row (Node x) message ≡ true
    node_row x lt seat there is processor home = by (is_for_home message.kind) refl
      where
        here_cpu : cpus s w message.to ≡ cpu_seen s x.processor
        here_cpu = ap (cpu_in s) there ∙ ap (cpu_of s) is

        here_home : homes s w message.to ≡ home_seen s x.home
        here_home = ap (home_in s) there ∙ ap (home_of s) is

        on_processor : is_for_home message.kind ≡ false → (t : Bool) → is_part message.kind ≡ t → has_processor_row x message ≡ true
        on_processor other true part = (tables.parts_are_taken setup.image s (cpus s w) (homes s w) (mover_at s w) v message.to x message rest sizes processor home lt here_cpu refl part first).0
        on_processor other false part = (tables.processors_take setup.image s (cpus s w) (homes s w) (mover_at s w) v message.to x message rest sizes processor home lt here_cpu refl other part first).0

        by : (t : Bool) → is_for_home message.kind ≡ t → (if t then has_home_row x.home message message.kind else has_processor_row x message) ≡ true
        by true e = (tables.homes_take setup.image s (cpus s w) (homes s w) (mover_at s w) v message.to x.home message rest sizes home lt here_home refl e first).0
        by false e = on_processor e (is_part message.kind) refl

pub found_has_row : (setup : Setup) (s : Sizes) (w : Machine) (harts : ℕ → HartState) (flat : Flat) (v : World Line) (id : MsgId) (message : Msg Kind) → Tables → AreSizes s → Follows setup.image s w harts flat v → Distinct w.flight → find id w.flight ≡ Some message →
    (seat : Seat ActorState) × (slice_get w.seats message.to ≡ Some seat) × (has_row seat.local message ≡ true)
found_has_row setup s w harts flat v id message tables sizes f distinct found = message_has_row setup s w harts flat v message tables sizes f distinct (subst (λ (i : MsgId). find i w.flight ≡ Some message) (found_own id message w.flight found) found)

-- ---- steps and refusals

pub refusals_are_exact : (setup : Setup) (s : Sizes) (w : Machine) (harts : ℕ → HartState) (flat : Flat) (v : World Line) (choice : Choice) → Tables → AreSizes s → Follows setup.image s w harts flat v → Distinct w.flight → refusal_of setup w choice ≡ None → IsSome (world_step (rules setup) w choice)
unfolding refusal_of
refusals_are_exact setup s w harts flat v (Act a) tables sizes f distinct free = (act_exact setup w a).0 free
refusals_are_exact setup s w harts flat v (Take a id) tables sizes f distinct free = by (slice_get w.seats a) refl (find id w.flight) refl free
  where
    addressed : (message : Msg Kind) (t : Bool) → nat_eq message.to a ≡ t → (if t then None else Some NoMessage) ≡ None → message.to ≡ a
    addressed message true e g = grind (arith, nat_tests)
    addressed message false e g = absurd (cc)

    by : (o : Option (Seat ActorState)) → slice_get w.seats a ≡ o → (m : Option (Msg Kind)) → find id w.flight ≡ m → take_refusal a o m ≡ None → IsSome (world_step (rules setup) w (Take a id))
    by None e m g h = absurd (cc)
    by (Some x) e None g h = absurd (cc)
    by (Some x) e (Some message) g h =
        let to : message.to ≡ a = addressed message (nat_eq message.to a) refl h in
        let r = found_has_row setup s w harts flat v id message tables sizes f distinct g in
        let there : slice_get w.seats a ≡ Some r.0 = subst (λ (z : ℕ). slice_get w.seats z ≡ Some r.0) to r.1 in
        take_step setup w a id r.0 message free there g r.2
