-- Messages seen with numbers for frames and pages.
use Rattle.std.specs.Prelude.{ℕ, Bool, true, false, List, map}
use Rattle.og_base.specs.declared.Block.{Block}
use Rattle.og_runs.specs.declared.Letter.{Letter}
use Rattle.og_runs.specs.declared.Msg.{Msg}
use Rattle.og_line.specs.declared.Line.{Line}
use Rattle.og_msg.specs.declared.Kind.{Kind}
use Rattle.og_msg.specs.declared.Kind.TheVariants.{Read, ReadEx, Upgrade, WriteBack, SharedReply, SpecReply, ExclusiveReply, UpgradeReply, Nak, PoisonError, WbAck, WbBusyAck, InterveneShared, InterveneEx, IntervenePoison, Invalidate, InvalAck, SharedResponse, ExclusiveResponse, OwnerAck, SharingWriteBack, PoisonBack, SharingTransfer, DirtyTransfer, PoisonClean, PoisonRead, PoisonReply, CopyIn, CopyDone, CleanFrame, FrameClean, Hot, Rearm, Walk, Walked, WalkRetry, DropFrame, Dropped}
use Rattle.og_relate.specs.Data.{Kind as SeenKind, KRead, KReadEx, KUpgrade, KWriteBack, KSharedReply, KSpecReply, KExclusiveReply, KUpgradeReply, KNak, KPoisonError, KWbAck, KWbBusyAck, KInterveneShared, KInterveneEx, KIntervenePoison, KInvalidate, KInvalAck, KSharedResponse, KExclusiveResponse, KOwnerAck, KSharingWriteBack, KPoisonBack, KSharingTransfer, KDirtyTransfer, KPoisonClean, KPoisonRead, KPoisonReply, KCopyIn, KCopyDone, KCleanFrame, KFrameClean, KHot, KRearm, KWalk, KWalked, KWalkRetry, KDropFrame, KDropped, Post}
use Rattle.og_seen.specs.Numbers.{Sizes, frame_number, page_number}

-- the number of a block's frame
abbrev pub frame_of_block : Sizes → Block → ℕ
frame_of_block s b = frame_number s b.frame

abbrev pub kind_seen : Sizes → Kind → SeenKind Line
kind_seen s (Read b) = KRead (frame_of_block s b) b.number
kind_seen s (ReadEx b) = KReadEx (frame_of_block s b) b.number
kind_seen s (Upgrade b) = KUpgrade (frame_of_block s b) b.number
kind_seen s (WriteBack b l) = KWriteBack (frame_of_block s b) b.number l
kind_seen s (SharedReply b l) = KSharedReply (frame_of_block s b) b.number l
kind_seen s (SpecReply b l) = KSpecReply (frame_of_block s b) b.number l
kind_seen s (ExclusiveReply b l acks) = KExclusiveReply (frame_of_block s b) b.number l acks
kind_seen s (UpgradeReply b acks) = KUpgradeReply (frame_of_block s b) b.number acks
kind_seen s (Nak b) = KNak (frame_of_block s b) b.number
kind_seen s (PoisonError b) = KPoisonError (frame_of_block s b) b.number
kind_seen s (WbAck b) = KWbAck (frame_of_block s b) b.number
kind_seen s (WbBusyAck b) = KWbBusyAck (frame_of_block s b) b.number
kind_seen s (InterveneShared b requester) = KInterveneShared (frame_of_block s b) b.number requester
kind_seen s (InterveneEx b requester) = KInterveneEx (frame_of_block s b) b.number requester
kind_seen s (IntervenePoison b) = KIntervenePoison (frame_of_block s b) b.number
kind_seen s (Invalidate b requester) = KInvalidate (frame_of_block s b) b.number requester
kind_seen s (InvalAck b) = KInvalAck (frame_of_block s b) b.number
kind_seen s (SharedResponse b l) = KSharedResponse (frame_of_block s b) b.number l
kind_seen s (ExclusiveResponse b l) = KExclusiveResponse (frame_of_block s b) b.number l
kind_seen s (OwnerAck b) = KOwnerAck (frame_of_block s b) b.number
kind_seen s (SharingWriteBack b l) = KSharingWriteBack (frame_of_block s b) b.number l
kind_seen s (PoisonBack b l) = KPoisonBack (frame_of_block s b) b.number l
kind_seen s (SharingTransfer b) = KSharingTransfer (frame_of_block s b) b.number
kind_seen s (DirtyTransfer b) = KDirtyTransfer (frame_of_block s b) b.number
kind_seen s (PoisonClean b) = KPoisonClean (frame_of_block s b) b.number
kind_seen s (PoisonRead b) = KPoisonRead (frame_of_block s b) b.number
kind_seen s (PoisonReply b l acks) = KPoisonReply (frame_of_block s b) b.number l acks
kind_seen s (CopyIn b l) = KCopyIn (frame_of_block s b) b.number l
kind_seen s (CopyDone b) = KCopyDone (frame_of_block s b) b.number
kind_seen s (CleanFrame frame) = KCleanFrame (frame_number s frame)
kind_seen s (FrameClean frame) = KFrameClean (frame_number s frame)
kind_seen s (Hot hot) = KHot (frame_number s hot.frame) hot.node hot.count hot.most
kind_seen s (Rearm frame) = KRearm (frame_number s frame)
kind_seen s (Walk page) = KWalk (page_number s page)
kind_seen s (Walked page frame) = KWalked (page_number s page) (frame_number s frame)
kind_seen s (WalkRetry page) = KWalkRetry (page_number s page)
kind_seen s (DropFrame frame) = KDropFrame (frame_number s frame)
kind_seen s (Dropped frame) = KDropped (frame_number s frame)

-- a message without its number and stamp
abbrev pub post_seen : Sizes → Msg Kind → Post Line
post_seen s message = record { from = message.id.sender; to = message.to; kind = kind_seen s message.kind }

-- a letter of an actor
abbrev pub letter_seen : Sizes → (from : ℕ) → Letter Kind → Post Line
letter_seen s from letter = record { from = from; to = letter.to; kind = kind_seen s letter.kind }

abbrev pub letters_seen : Sizes → (from : ℕ) → List (Letter Kind) → List (Post Line)
letters_seen s from letters = map (letter_seen s from) letters

-- the parts of a request: the home's reply, the owner's response, and the acknowledgements of sharers
abbrev pub is_part : Kind → Bool
is_part (SharedReply b l) = true
is_part (SpecReply b l) = true
is_part (ExclusiveReply b l acks) = true
is_part (UpgradeReply b acks) = true
is_part (Nak b) = true
is_part (PoisonError b) = true
is_part (InvalAck b) = true
is_part (SharedResponse b l) = true
is_part (ExclusiveResponse b l) = true
is_part (OwnerAck b) = true
is_part kind = false
