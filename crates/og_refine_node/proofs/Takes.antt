-- A processor takes a message that is no part of its request, by its kind.
use Rattle.std.proofs.Common.{List, arith, false, subst, ℕ, ◌<◌, ◌∷◌, ◌≡◌}
use Rattle.og_runs.specs.declared.Msg.{Msg}
use Rattle.og_line.specs.declared.Line.{Line}
use Rattle.og_msg.specs.declared.Kind.{Kind}
use Rattle.og_msg.specs.declared.Kind.TheVariants as kind
use Rattle.og_image.specs.Image.{ImageState}
use Rattle.og_node.specs.Node.{NodeState, is_for_home}
use Rattle.og_whole.specs.Events.{World}
use Rattle.og_relate.specs.Data.{Cpu, HomeSide, Mover, Post}
use Rattle.og_seen.specs.Events.{Shows}
use Rattle.og_seen.specs.Harts.{Hart}
use Rattle.og_seen.specs.Messages.{is_part, kind_seen}
use Rattle.og_seen.specs.Numbers.{Sizes}
use Rattle.og_seen.specs.Processors.{cpu_seen}
use Rattle.og_seen.specs.Sound.{AreSizes, IsHomeOf, IsProcessorOf}
use Rattle.og_refine_node.proofs.Given.{TakenAt}
use Rattle.og_refine_node.proofs.Interventions.{exclusive_asked, poison_asked, shared_asked}
use Rattle.og_refine_node.proofs.Invalidations.{invalidation_requested}
use Rattle.og_refine_node.proofs.Slots.{write_back_acked, write_back_busy_acked}
use Rattle.og_refine_node.proofs.Walks.{drop_requested, walk_answered, walk_retried}
use Rattle.og_refine_node.specs.Laws.{ProcessorsTake}

module _ (image : ImageState) (s : Sizes) (cpu : ℕ → Cpu Line Hart) (home : ℕ → HomeSide Line) (mover : Mover Line) (rest : List (Post Line)) (w : World Line) (p : ℕ) (x : NodeState) (message : Msg Kind)
    (sizes : AreSizes s) (is : IsProcessorOf image s x.processor) (at_home : IsHomeOf s p x.home) (lp : p < s.nodes) (shown : cpu p ≡ cpu_seen s x.processor) where
  -- what is for the mover isn't for a node
  no_node : p ≡ s.nodes → ⊥
  no_node e = omega arith

  -- the table, by the kind
  taken : (k : Kind) → is_for_home k ≡ false → is_part k ≡ false → TakenAt image s cpu home mover rest w p x message k
  taken (kind.Invalidate b r) a c sim = invalidation_requested image s cpu home mover rest w p x message is at_home lp shown b r sim
  taken (kind.InterveneShared b r) a c sim = shared_asked image s cpu home mover rest w p x message is at_home lp shown b r sim
  taken (kind.InterveneEx b r) a c sim = exclusive_asked image s cpu home mover rest w p x message is at_home lp shown b r sim
  taken (kind.IntervenePoison b) a c sim = poison_asked image s cpu home mover rest w p x message is at_home lp shown b sim
  taken (kind.WbAck b) a c sim = write_back_acked image s cpu home mover rest w p x message is at_home lp shown b sim
  taken (kind.WbBusyAck b) a c sim = write_back_busy_acked image s cpu home mover rest w p x message is at_home lp shown b sim
  taken (kind.Walked page f) a c sim = walk_answered image s cpu home mover rest w p x message sizes is at_home lp shown page f sim
  taken (kind.WalkRetry page) a c sim = walk_retried image s cpu home mover rest w p x message sizes is at_home lp shown page sim
  taken (kind.DropFrame f) a c sim = drop_requested image s cpu home mover rest w p x message sizes is at_home lp shown f sim
  taken (kind.Read b) a c sim = absurd (cc)
  taken (kind.ReadEx b) a c sim = absurd (cc)
  taken (kind.Upgrade b) a c sim = absurd (cc)
  taken (kind.WriteBack b l) a c sim = absurd (cc)
  taken (kind.SharingWriteBack b l) a c sim = absurd (cc)
  taken (kind.SharingTransfer b) a c sim = absurd (cc)
  taken (kind.DirtyTransfer b) a c sim = absurd (cc)
  taken (kind.PoisonRead b) a c sim = absurd (cc)
  taken (kind.PoisonBack b l) a c sim = absurd (cc)
  taken (kind.PoisonClean b) a c sim = absurd (cc)
  taken (kind.CopyIn b l) a c sim = absurd (cc)
  taken (kind.CleanFrame f) a c sim = absurd (cc)
  taken (kind.Rearm f) a c sim = absurd (cc)
  taken (kind.SharedReply b l) a c sim = absurd (cc)
  taken (kind.SpecReply b l) a c sim = absurd (cc)
  taken (kind.ExclusiveReply b l acks) a c sim = absurd (cc)
  taken (kind.UpgradeReply b acks) a c sim = absurd (cc)
  taken (kind.Nak b) a c sim = absurd (cc)
  taken (kind.PoisonError b) a c sim = absurd (cc)
  taken (kind.InvalAck b) a c sim = absurd (cc)
  taken (kind.SharedResponse b l) a c sim = absurd (cc)
  taken (kind.ExclusiveResponse b l) a c sim = absurd (cc)
  taken (kind.OwnerAck b) a c sim = absurd (cc)
  taken (kind.PoisonReply b l acks) a c sim = absurd (no_node sim.flight.0.0.1.1)
  taken (kind.CopyDone b) a c sim = absurd (no_node sim.flight.0.0.1.1)
  taken (kind.FrameClean f) a c sim = absurd (no_node sim.flight.0.0.1.1)
  taken (kind.Hot h) a c sim = absurd (no_node sim.flight.0.0.1.1)
  taken (kind.Walk page) a c sim = absurd (no_node sim.flight.0.0.1.1)
  taken (kind.Dropped f) a c sim = absurd (no_node sim.flight.0.0.1.1)

-- so it is with the message as it came
pub processor_takes : ProcessorsTake
processor_takes image s cpu home mover w p x message rest sizes is at_home lp shown to none no_part sim =
    taken image s cpu home mover rest w p x message sizes is at_home lp shown message.kind none no_part
    (subst (λ (q : ℕ). Shows image s cpu home mover (record { from = message.id.sender; to = q; kind = kind_seen s message.kind } ∷ rest) w) to sim)
