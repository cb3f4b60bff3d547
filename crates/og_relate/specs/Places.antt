-- The place of each message in the theory's columns.
use Rattle.std.specs.Prelude.{◌≡◌, ℕ, ◌+◌, ◌<◌, Bool, true, false, cond, nat_eq, ◌&&◌, ◌⊎◌, List, [], ◌∷◌}
use Rattle.std.proofs.Common.{Option, None, Some}
use Rattle.og_block.specs.State.{Ask, NoAsk, Read, ReadExclusive, Upgrade, SharedReply, SpeculativeReply, ExclusiveReply, UpgradeReply, NegativeAck, PoisonError, PoisonRead, PoisonReply, Response, NoResponse, SharedResponse, ExclusiveResponse, OwnerAck, Back, NoBack, WriteBack, WriteBackAck, WriteBackBusyAck, Intervention, NoIntervention, InterveneShared, InterveneExclusive, IntervenePoison, Invalidation, NoInvalidation, Invalidate, InvalidateAck, Revision, NoRevision, SharingWriteBack, SharingTransfer, DirtyTransfer, PoisonBack, PoisonClean}
use Rattle.og_block.specs.Message.{Message as BlockMessage, Asked, Answered, Returned, Revised, Intervened, Invalidated, is_sent}
use Rattle.og_block.specs.Rows.{has_response}
use Rattle.og_pages.specs.State.{Wait, Cleaning, Command, NoCommand, CopyIn, CopyDone, CleanFrame, FrameClean, Walk, NoWalk, Walking, Walked, WalkRetry, Drop, NoDrop, DropFrame, Dropped, Notice, NoNotice, Hot, Rearm}
use Rattle.og_whole.specs.Events.{World}
use Rattle.og_whole.specs.Messages.{Message, OfBlock, OfJob, OfWalk, OfDrop, OfNotice, InFlight}
use Rattle.og_relate.specs.Data.{Kind, KRead, KReadEx, KUpgrade, KWriteBack, KSharedReply, KSpecReply, KExclusiveReply, KUpgradeReply, KNak, KPoisonError, KWbAck, KWbBusyAck, KInterveneShared, KInterveneEx, KIntervenePoison, KInvalidate, KInvalAck, KSharedResponse, KExclusiveResponse, KOwnerAck, KSharingWriteBack, KPoisonBack, KSharingTransfer, KDirtyTransfer, KPoisonClean, KPoisonRead, KPoisonReply, KCopyIn, KCopyDone, KCleanFrame, KFrameClean, KHot, KRearm, KWalk, KWalked, KWalkRetry, KDropFrame, KDropped, Post, Got, NoGot, GotShared, GotSpec, GotExclusive, GotUpgrade, GotNak, GotError, Request, Cpu, MoverJob, MCollect, Mover, Setup}

-- a place: one message at most stands there
pub data Place : Type 0 where
  AskAt : (frame number node : ℕ) → Place
  ResponseAt : (frame number node : ℕ) → Place
  BackAt : (frame number node : ℕ) → Place
  RevisionAt : (frame number : ℕ) → Place
  InterventionAt : (frame number node : ℕ) → Place
  InvalidationAt : (frame number node : ℕ) → Place
  CommandAt : Place
  WalkAt : (node : ℕ) → Place
  DropAt : (node : ℕ) → Place
  NoticeAt : (frame : ℕ) → Place

-- the machine has the place
abbrev pub Inside : Setup → Place → Type 0
Inside s (AskAt f k q) = (f < s.frames) × (k < s.blocks) × (q < s.nodes + 1)
Inside s (ResponseAt f k q) = (f < s.frames) × (k < s.blocks) × (q < s.nodes + 1)
Inside s (BackAt f k q) = (f < s.frames) × (k < s.blocks) × (q < s.nodes + 1)
Inside s (RevisionAt f k) = (f < s.frames) × (k < s.blocks)
Inside s (InterventionAt f k q) = (f < s.frames) × (k < s.blocks) × (q < s.nodes + 1)
Inside s (InvalidationAt f k q) = (f < s.frames) × (k < s.blocks) × (q < s.nodes + 1)
Inside s CommandAt = Unit {0}
Inside s (WalkAt q) = q < s.nodes
Inside s (DropAt q) = q < s.nodes
Inside s (NoticeAt f) = f < s.frames

abbrev pub is_intervention : Intervention → Bool
is_intervention NoIntervention = false
is_intervention x = true

abbrev pub is_invalidation : Invalidation → Bool
is_invalidation NoInvalidation = false
is_invalidation x = true

abbrev pub is_walking : Walk → Bool
is_walking NoWalk = false
is_walking x = true

abbrev pub is_dropping : Drop → Bool
is_dropping NoDrop = false
is_dropping x = true

abbrev pub is_noticing : Notice → Bool
is_noticing NoNotice = false
is_noticing x = true

-- who sends a kind to whom
abbrev pub FromNode : Setup → ℕ → ℕ → ℕ → Type 0
FromNode s from to f = (from < s.nodes) × (to ≡ s.home f)

abbrev pub FromHome : Setup → ℕ → ℕ → ℕ → Type 0
FromHome s from to f = (from ≡ s.home f) × (to < s.nodes)

abbrev pub FromMover : Setup → ℕ → ℕ → ℕ → Type 0
FromMover s from to f = (from ≡ s.nodes) × (to ≡ s.home f)

abbrev pub ToMover : Setup → ℕ → ℕ → ℕ → Type 0
ToMover s from to f = (from ≡ s.home f) × (to ≡ s.nodes)

module _ {L : Type 0} where
  abbrev pub block_place : ℕ → ℕ → BlockMessage L → Place
  block_place f k (Asked q a) = AskAt f k q
  block_place f k (Answered q r) = ResponseAt f k q
  block_place f k (Returned q b) = BackAt f k q
  block_place f k (Revised v) = RevisionAt f k
  block_place f k (Intervened q i) = InterventionAt f k q
  block_place f k (Invalidated q i) = InvalidationAt f k q

  abbrev pub place_of : Message L → Place
  place_of (OfBlock f k m) = block_place f k m
  place_of (OfJob c) = CommandAt
  place_of (OfWalk q x) = WalkAt q
  place_of (OfDrop q d) = DropAt q
  place_of (OfNotice f n) = NoticeAt f

  -- what a message is in the theory; n is the mover's number
  abbrev pub content_by : ℕ → ℕ → ℕ → Kind L → Message L
  content_by n from to (KRead f k) = OfBlock f k (Asked from Read)
  content_by n from to (KReadEx f k) = OfBlock f k (Asked from ReadExclusive)
  content_by n from to (KUpgrade f k) = OfBlock f k (Asked from Upgrade)
  content_by n from to (KWriteBack f k l) = OfBlock f k (Returned from (WriteBack l))
  content_by n from to (KSharedReply f k l) = OfBlock f k (Asked to (SharedReply l))
  content_by n from to (KSpecReply f k l) = OfBlock f k (Asked to (SpeculativeReply l))
  content_by n from to (KExclusiveReply f k l d) = OfBlock f k (Asked to (ExclusiveReply l d))
  content_by n from to (KUpgradeReply f k d) = OfBlock f k (Asked to (UpgradeReply d))
  content_by n from to (KNak f k) = OfBlock f k (Asked to NegativeAck)
  content_by n from to (KPoisonError f k) = OfBlock f k (Asked to PoisonError)
  content_by n from to (KWbAck f k) = OfBlock f k (Returned to WriteBackAck)
  content_by n from to (KWbBusyAck f k) = OfBlock f k (Returned to WriteBackBusyAck)
  content_by n from to (KInterveneShared f k r) = OfBlock f k (Intervened to (InterveneShared r))
  content_by n from to (KInterveneEx f k r) = OfBlock f k (Intervened to (InterveneExclusive r))
  content_by n from to (KIntervenePoison f k) = OfBlock f k (Intervened to (IntervenePoison n))
  content_by n from to (KInvalidate f k r) = OfBlock f k (Invalidated to (Invalidate r))
  content_by n from to (KInvalAck f k) = OfBlock f k (Invalidated from (InvalidateAck to))
  content_by n from to (KSharedResponse f k l) = OfBlock f k (Answered to (SharedResponse l))
  content_by n from to (KExclusiveResponse f k l) = OfBlock f k (Answered to (ExclusiveResponse l))
  content_by n from to (KOwnerAck f k) = OfBlock f k (Answered to OwnerAck)
  content_by n from to (KSharingWriteBack f k l) = OfBlock f k (Revised (SharingWriteBack from l))
  content_by n from to (KPoisonBack f k l) = OfBlock f k (Revised (PoisonBack from l))
  content_by n from to (KSharingTransfer f k) = OfBlock f k (Revised (SharingTransfer from))
  content_by n from to (KDirtyTransfer f k) = OfBlock f k (Revised (DirtyTransfer from))
  content_by n from to (KPoisonClean f k) = OfBlock f k (Revised (PoisonClean from))
  content_by n from to (KPoisonRead f k) = OfBlock f k (Asked from PoisonRead)
  content_by n from to (KPoisonReply f k l d) = OfBlock f k (Asked to (PoisonReply l d))
  content_by n from to (KCopyIn f k l) = OfJob (CopyIn l)
  content_by n from to (KCopyDone f k) = OfJob CopyDone
  content_by n from to (KCleanFrame f) = OfJob CleanFrame
  content_by n from to (KFrameClean f) = OfJob FrameClean
  content_by n from to (KHot f q c m) = OfNotice f Hot
  content_by n from to (KRearm f) = OfNotice f Rearm
  content_by n from to (KWalk y) = OfWalk from (Walking y)
  content_by n from to (KWalked y f) = OfWalk to (Walked y f)
  content_by n from to (KWalkRetry y) = OfWalk to (WalkRetry y)
  content_by n from to (KDropFrame f) = OfDrop to (DropFrame f)
  content_by n from to (KDropped f) = OfDrop from (Dropped f)

  abbrev pub content_of : ℕ → Post L → Message L
  content_of n x = content_by n x.from x.to x.kind

  abbrev pub slot_of : ℕ → Post L → Place
  slot_of n x = place_of (content_of n x)

  abbrev pub Routed_by : Setup → ℕ → ℕ → Kind L → Type 0
  Routed_by s from to (KRead f k) = FromNode s from to f
  Routed_by s from to (KReadEx f k) = FromNode s from to f
  Routed_by s from to (KUpgrade f k) = FromNode s from to f
  Routed_by s from to (KWriteBack f k l) = FromNode s from to f
  Routed_by s from to (KSharedReply f k l) = FromHome s from to f
  Routed_by s from to (KSpecReply f k l) = FromHome s from to f
  Routed_by s from to (KExclusiveReply f k l d) = FromHome s from to f
  Routed_by s from to (KUpgradeReply f k d) = FromHome s from to f
  Routed_by s from to (KNak f k) = (from ≡ s.home f) × (to < s.nodes + 1)
  Routed_by s from to (KPoisonError f k) = FromHome s from to f
  Routed_by s from to (KWbAck f k) = FromHome s from to f
  Routed_by s from to (KWbBusyAck f k) = FromHome s from to f
  Routed_by s from to (KInterveneShared f k r) = (from ≡ s.home f) × (to < s.nodes) × (r < s.nodes)
  Routed_by s from to (KInterveneEx f k r) = (from ≡ s.home f) × (to < s.nodes) × (r < s.nodes)
  Routed_by s from to (KIntervenePoison f k) = FromHome s from to f
  Routed_by s from to (KInvalidate f k r) = (from ≡ s.home f) × (to < s.nodes) × (r < s.nodes + 1)
  Routed_by s from to (KInvalAck f k) = (from < s.nodes) × (to < s.nodes + 1)
  Routed_by s from to (KSharedResponse f k l) = (from < s.nodes) × (to < s.nodes)
  Routed_by s from to (KExclusiveResponse f k l) = (from < s.nodes) × (to < s.nodes)
  Routed_by s from to (KOwnerAck f k) = (from < s.nodes) × (to < s.nodes)
  Routed_by s from to (KSharingWriteBack f k l) = FromNode s from to f
  Routed_by s from to (KPoisonBack f k l) = FromNode s from to f
  Routed_by s from to (KSharingTransfer f k) = FromNode s from to f
  Routed_by s from to (KDirtyTransfer f k) = FromNode s from to f
  Routed_by s from to (KPoisonClean f k) = FromNode s from to f
  Routed_by s from to (KPoisonRead f k) = FromMover s from to f
  Routed_by s from to (KPoisonReply f k l d) = ToMover s from to f
  Routed_by s from to (KCopyIn f k l) = (from ≡ s.nodes) × (to ≡ s.home f) × (f < s.frames) × (k < s.blocks)
  Routed_by s from to (KCopyDone f k) = (from ≡ s.home f) × (to ≡ s.nodes) × (f < s.frames) × (k < s.blocks)
  Routed_by s from to (KCleanFrame f) = (from ≡ s.nodes) × (to ≡ s.home f) × (f < s.frames)
  Routed_by s from to (KFrameClean f) = (from ≡ s.home f) × (to ≡ s.nodes) × (f < s.frames)
  Routed_by s from to (KHot f q c m) = (from ≡ s.home f) × (to ≡ s.nodes) × (q < s.nodes)
  Routed_by s from to (KRearm f) = FromMover s from to f
  Routed_by s from to (KWalk y) = (from < s.nodes) × (to ≡ s.nodes) × (y < s.pages)
  Routed_by s from to (KWalked y f) = (from ≡ s.nodes) × (to < s.nodes) × (f < s.frames)
  Routed_by s from to (KWalkRetry y) = (from ≡ s.nodes) × (to < s.nodes)
  Routed_by s from to (KDropFrame f) = (from ≡ s.nodes) × (to < s.nodes) × (f < s.frames)
  Routed_by s from to (KDropped f) = (from < s.nodes) × (to ≡ s.nodes)

  -- the job names the block or frame of the mover's messages
  abbrev pub Named_by : World L → Kind L → Type 0
  Named_by w (KCopyIn f k l) = (page : ℕ) × (old : ℕ) × (w.pages.job ≡ Wait page old f k)
  Named_by w (KCopyDone f k) = (page : ℕ) × (old : ℕ) × (w.pages.job ≡ Wait page old f k)
  Named_by w (KCleanFrame f) = w.pages.job ≡ Cleaning f
  Named_by w (KFrameClean f) = w.pages.job ≡ Cleaning f
  Named_by w x = Unit {0}

  -- it stands in the theory's world
  abbrev pub Stands : Setup → World L → Message L → Type 0
  Stands s w c = InFlight s.nodes s.frames s.blocks w c

  abbrev pub Placed : Setup → World L → Post L → Type 0
  Placed s w x = Stands s w (content_of s.nodes x) × Routed_by s x.from x.to x.kind × Named_by w x.kind

  -- ---- places where something stands

  abbrev pub is_back : Back L → Bool
  is_back NoBack = false
  is_back x = true

  abbrev pub is_revision : Revision L → Bool
  is_revision NoRevision = false
  is_revision x = true

  abbrev pub is_given : Command L → Bool
  is_given NoCommand = false
  is_given x = true

  abbrev pub stands_at : World L → Place → Bool
  stands_at w (AskAt f k q) = is_sent ((w.block f k).ask q)
  stands_at w (ResponseAt f k q) = has_response ((w.block f k).response q)
  stands_at w (BackAt f k q) = is_back ((w.block f k).back q)
  stands_at w (RevisionAt f k) = is_revision (w.block f k).revision
  stands_at w (InterventionAt f k q) = is_intervention ((w.block f k).intervention q)
  stands_at w (InvalidationAt f k q) = is_invalidation ((w.block f k).invalidation q)
  stands_at w CommandAt = is_given w.pages.command
  stands_at w (WalkAt q) = is_walking (w.pages.walk q)
  stands_at w (DropAt q) = is_dropping (w.pages.drop q)
  stands_at w (NoticeAt f) = is_noticing (w.pages.notice f)

  -- one of the messages has the place; n is the mover's number
  abbrev pub Has : ℕ → List (Post L) → Place → Type 0
  Has n [] p = ⊥
  Has n (x ∷ xs) p = (slot_of n x ≡ p) ⊎ Has n xs p

  -- ---- what was received and is still to be used keeps its place

  abbrev pub ask_of : Got L → Ask L
  ask_of NoGot = NoAsk
  ask_of (GotShared l) = SharedReply l
  ask_of (GotSpec l) = SpeculativeReply l
  ask_of (GotExclusive l d) = ExclusiveReply l d
  ask_of (GotUpgrade d) = UpgradeReply d
  ask_of GotNak = NegativeAck
  ask_of GotError = PoisonError

  abbrev pub is_at : ℕ → ℕ → Request L → Bool
  is_at f k r = nat_eq r.frame f && nat_eq r.number k

  abbrev pub got_message : ℕ → ℕ → ℕ → Got L → Option (Message L)
  got_message f k q NoGot = None
  got_message f k q (GotShared l) = Some (OfBlock f k (Asked q (SharedReply l)))
  got_message f k q (GotSpec l) = Some (OfBlock f k (Asked q (SpeculativeReply l)))
  got_message f k q (GotExclusive l d) = Some (OfBlock f k (Asked q (ExclusiveReply l d)))
  got_message f k q (GotUpgrade d) = Some (OfBlock f k (Asked q (UpgradeReply d)))
  got_message f k q GotNak = Some (OfBlock f k (Asked q NegativeAck))
  got_message f k q GotError = Some (OfBlock f k (Asked q PoisonError))

  abbrev pub response_message : ℕ → ℕ → ℕ → Response L → Option (Message L)
  response_message f k q NoResponse = None
  response_message f k q r = Some (OfBlock f k (Answered q r))

  abbrev pub held_message : ℕ → ℕ → ℕ → Intervention → Option (Message L)
  held_message f k q NoIntervention = None
  held_message f k q i = Some (OfBlock f k (Intervened q i))

  abbrev pub kept_ask : ℕ → ℕ → ℕ → Option (Request L) → Option (Message L)
  kept_ask f k q None = None
  kept_ask f k q (Some r) = cond (is_at f k r) (got_message f k q r.got) None

  abbrev pub kept_response : ℕ → ℕ → ℕ → Option (Request L) → Option (Message L)
  kept_response f k q None = None
  kept_response f k q (Some r) = cond (is_at f k r) (response_message f k q r.response) None

  abbrev pub kept_intervention : ℕ → ℕ → ℕ → Option (Request L) → Option (Message L)
  kept_intervention f k q None = None
  kept_intervention f k q (Some r) = cond (is_at f k r) (held_message f k q r.held) None

  abbrev pub kept_drop : ℕ → Option ℕ → Option (Message L)
  kept_drop q None = None
  kept_drop q (Some f) = Some (OfDrop q (DropFrame f))

  abbrev pub reply_message : ℕ → ℕ → ℕ → Option (L × ℕ) → Option (Message L)
  reply_message f k n None = None
  reply_message f k n (Some x) = Some (OfBlock f k (Asked n (PoisonReply x.0 x.1)))

  abbrev pub kept_collect : ℕ → ℕ → ℕ → MoverJob L → Option (Message L)
  kept_collect f k n (MCollect page old new number reply acks) = cond (nat_eq old f && nat_eq number k) (reply_message f k n reply) None
  kept_collect f k n job = None

  module _ {H : Type 0} where
    -- what stands at a place since an actor has received it
    abbrev pub kept : ℕ → (ℕ → Cpu L H) → Mover L → Place → Option (Message L)
    kept n cpu mover (AskAt f k q) = cond (nat_eq q n) (kept_collect f k q mover.job) (kept_ask f k q (cpu q).request)
    kept n cpu mover (ResponseAt f k q) = cond (nat_eq q n) None (kept_response f k q (cpu q).request)
    kept n cpu mover (InterventionAt f k q) = cond (nat_eq q n) None (kept_intervention f k q (cpu q).request)
    kept n cpu mover (DropAt q) = cond (nat_eq q n) None (kept_drop q (cpu q).drop)
    kept n cpu mover p = None

    -- a message in flight: it stands, and nothing was received that has its place
    abbrev pub Flies : Setup → (ℕ → Cpu L H) → Mover L → World L → Post L → Type 0
    Flies s cpu mover w x = Placed s w x × (kept s.nodes cpu mover (slot_of s.nodes x) ≡ None)
