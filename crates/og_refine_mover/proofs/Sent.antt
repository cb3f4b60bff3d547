-- Which messages can be in flight to the mover, and from whom: no other kind is.
use Rattle.std.proofs.Common.{◌≡◌, ℕ, ◌/◌, ◌<◌, ◌&&◌, Bool, true, false, nat_lt, arith}
use Rattle.std.proofs.lemmas.Bool.Decides.{nat_tests}
use Rattle.std.proofs.Math.Nat.{div-lt_iff_lt-mul}
use Rattle.og_line.specs.declared.Line.{Line}
use Rattle.og_msg.specs.declared.Kind.{Kind}
use Rattle.og_msg.specs.declared.Kind.TheVariants.{Read, ReadEx, Upgrade, WriteBack, SharedReply, SpecReply, ExclusiveReply, UpgradeReply, Nak, PoisonError, WbAck, WbBusyAck, InterveneShared, InterveneEx, IntervenePoison, Invalidate, InvalAck, SharedResponse, ExclusiveResponse, OwnerAck, SharingWriteBack, PoisonBack, SharingTransfer, DirtyTransfer, PoisonClean, PoisonRead, PoisonReply, CopyIn, CopyDone, CleanFrame, FrameClean, Hot, Rearm, Walk, Walked, WalkRetry, DropFrame, Dropped}
use Rattle.og_whole.specs.Events.{World}
use Rattle.og_relate.specs.Places.{Placed}
use Rattle.og_relate.specs.Steps.{letter}
use Rattle.og_seen.specs.Numbers.{Sizes, frame_count, setup_seen}
use Rattle.og_seen.specs.Messages.{frame_of_block, kind_seen}
use Rattle.og_seen.specs.Sound.{AreSizes}

-- the home of a frame that is there is a node
pub home_low : (s : Sizes) (f : ℕ) → AreSizes s → f < frame_count s → f / s.frames < s.nodes
home_low s f sizes lt = let some : 0 < s.frames = (let a = sizes.some_frames in omega arith) in (div-lt_iff_lt-mul {k = s.frames} {x = f} {y = s.nodes} some).1 lt

-- tests that pass
pub both : (a b : Bool) → a ≡ true → b ≡ true → (a && b) ≡ true
both true b x y = y
both false b x y = absurd (cc)

pub is_below : (n m k : ℕ) → m ≡ k → n < k → nat_lt n m ≡ true
is_below n m k e lt = grind (arith, nat_tests)

-- the kinds that are sent to the mover
abbrev pub is_to_mover : Kind → Bool
is_to_mover (Walk page) = true
is_to_mover (Hot hot) = true
is_to_mover (PoisonReply b line acks) = true
is_to_mover (InvalAck b) = true
is_to_mover (Nak b) = true
is_to_mover (CopyDone b) = true
is_to_mover (Dropped frame) = true
is_to_mover (FrameClean frame) = true
is_to_mover k = false

-- the mover is no home, and no node
no_home : (s : Sizes) (f : ℕ) → AreSizes s → f < frame_count s → s.nodes ≡ f / s.frames → ⊥
no_home s f sizes lt e = absurd (let a = home_low s f sizes lt in omega arith)

no_node : (s : Sizes) → s.nodes < s.nodes → ⊥
no_node s lt = absurd (omega arith)

-- no other kind is in flight to it
pub only_ours : (s : Sizes) (w : World Line) (from : ℕ) (k : Kind) → AreSizes s → is_to_mover k ≡ false → Placed (setup_seen s) w (letter from s.nodes (kind_seen s k)) → ⊥
only_ours s w from (Read b) sizes ours p = no_home s (frame_of_block s b) sizes p.0.0 p.1.1
only_ours s w from (ReadEx b) sizes ours p = no_home s (frame_of_block s b) sizes p.0.0 p.1.1
only_ours s w from (Upgrade b) sizes ours p = no_home s (frame_of_block s b) sizes p.0.0 p.1.1
only_ours s w from (WriteBack b l) sizes ours p = no_home s (frame_of_block s b) sizes p.0.0 p.1.1
only_ours s w from (SharedReply b l) sizes ours p = no_node s p.1.1
only_ours s w from (SpecReply b l) sizes ours p = no_node s p.1.1
only_ours s w from (ExclusiveReply b l acks) sizes ours p = no_node s p.1.1
only_ours s w from (UpgradeReply b acks) sizes ours p = no_node s p.1.1
only_ours s w from (PoisonError b) sizes ours p = no_node s p.1.1
only_ours s w from (WbAck b) sizes ours p = no_node s p.1.1
only_ours s w from (WbBusyAck b) sizes ours p = no_node s p.1.1
only_ours s w from (InterveneShared b requester) sizes ours p = no_node s p.1.1
only_ours s w from (InterveneEx b requester) sizes ours p = no_node s p.1.1
only_ours s w from (IntervenePoison b) sizes ours p = no_node s p.1.1
only_ours s w from (Invalidate b requester) sizes ours p = no_node s p.1.1
only_ours s w from (SharedResponse b l) sizes ours p = no_node s p.1.1
only_ours s w from (ExclusiveResponse b l) sizes ours p = no_node s p.1.1
only_ours s w from (OwnerAck b) sizes ours p = no_node s p.1.1
only_ours s w from (SharingWriteBack b l) sizes ours p = no_home s (frame_of_block s b) sizes p.0.0 p.1.1
only_ours s w from (PoisonBack b l) sizes ours p = no_home s (frame_of_block s b) sizes p.0.0 p.1.1
only_ours s w from (SharingTransfer b) sizes ours p = no_home s (frame_of_block s b) sizes p.0.0 p.1.1
only_ours s w from (DirtyTransfer b) sizes ours p = no_home s (frame_of_block s b) sizes p.0.0 p.1.1
only_ours s w from (PoisonClean b) sizes ours p = no_home s (frame_of_block s b) sizes p.0.0 p.1.1
only_ours s w from (PoisonRead b) sizes ours p = no_home s (frame_of_block s b) sizes p.0.0 p.1.1
only_ours s w from (CopyIn b l) sizes ours p = no_home s (frame_of_block s b) sizes p.1.2 p.1.1
only_ours s w from (CleanFrame frame) sizes ours p = no_home s _ sizes p.1.2 p.1.1
only_ours s w from (Rearm frame) sizes ours p = no_home s _ sizes p.0.0 p.1.1
only_ours s w from (Walked page frame) sizes ours p = no_node s p.1.1
only_ours s w from (WalkRetry page) sizes ours p = no_node s p.1.1
only_ours s w from (DropFrame frame) sizes ours p = no_node s p.1.1
only_ours s w from k sizes ours p = absurd (cc)
