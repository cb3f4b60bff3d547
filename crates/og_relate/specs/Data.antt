-- The machine as data. L is the type of a line, H that of a hart. Frames and pages are numbers here: in the machine a frame is a
-- home and an index, and a page a virtual one; `home` and positions in the layout turn them into these.
use Rattle.std.specs.Prelude.{ℕ, ◌<◌, Bool, List}
use Rattle.std.proofs.Common.{Option}
use Rattle.og_block.specs.State.{Copy, Want, Response, Intervention, Sharing}
use Rattle.og_pages.specs.State.{TlbEntry}

-- the 38 kinds of messages
pub data Kind (L : Type 0) : Type 0 where
  KRead : (frame number : ℕ) → Kind L
  KReadEx : (frame number : ℕ) → Kind L
  KUpgrade : (frame number : ℕ) → Kind L
  KWriteBack : (frame number : ℕ) (line : L) → Kind L
  KSharedReply : (frame number : ℕ) (line : L) → Kind L
  KSpecReply : (frame number : ℕ) (line : L) → Kind L
  KExclusiveReply : (frame number : ℕ) (line : L) (acks : ℕ) → Kind L
  KUpgradeReply : (frame number : ℕ) (acks : ℕ) → Kind L
  KNak : (frame number : ℕ) → Kind L
  KPoisonError : (frame number : ℕ) → Kind L
  KWbAck : (frame number : ℕ) → Kind L
  KWbBusyAck : (frame number : ℕ) → Kind L
  KInterveneShared : (frame number : ℕ) (requester : ℕ) → Kind L
  KInterveneEx : (frame number : ℕ) (requester : ℕ) → Kind L
  KIntervenePoison : (frame number : ℕ) → Kind L
  KInvalidate : (frame number : ℕ) (requester : ℕ) → Kind L
  KInvalAck : (frame number : ℕ) → Kind L
  KSharedResponse : (frame number : ℕ) (line : L) → Kind L
  KExclusiveResponse : (frame number : ℕ) (line : L) → Kind L
  KOwnerAck : (frame number : ℕ) → Kind L
  KSharingWriteBack : (frame number : ℕ) (line : L) → Kind L
  KPoisonBack : (frame number : ℕ) (line : L) → Kind L
  KSharingTransfer : (frame number : ℕ) → Kind L
  KDirtyTransfer : (frame number : ℕ) → Kind L
  KPoisonClean : (frame number : ℕ) → Kind L
  KPoisonRead : (frame number : ℕ) → Kind L
  KPoisonReply : (frame number : ℕ) (line : L) (acks : ℕ) → Kind L
  KCopyIn : (frame number : ℕ) (line : L) → Kind L
  KCopyDone : (frame number : ℕ) → Kind L
  KCleanFrame : (frame : ℕ) → Kind L
  KFrameClean : (frame : ℕ) → Kind L
  KHot : (frame node count most : ℕ) → Kind L
  KRearm : (frame : ℕ) → Kind L
  KWalk : (page : ℕ) → Kind L
  KWalked : (page frame : ℕ) → Kind L
  KWalkRetry : (page : ℕ) → Kind L
  KDropFrame : (frame : ℕ) → Kind L
  KDropped : (frame : ℕ) → Kind L

-- a message in flight, without its number and stamp
pub record Post (L : Type 0) : Type 0 where
  pub from : ℕ
  pub to : ℕ
  pub kind : Kind L

-- the home's reply that a request has received and still has to use
pub data Got (L : Type 0) : Type 0 where
  NoGot : Got L
  GotShared : (line : L) → Got L
  GotSpec : (line : L) → Got L
  GotExclusive : (line : L) (due : ℕ) → Got L
  GotUpgrade : (due : ℕ) → Got L
  -- a refusal, and the answer that the page has moved away
  GotNak : Got L
  GotError : Got L

-- a node's outstanding request, with the parts that came and the intervention that is held
pub record Request (L : Type 0) : Type 0 where
  pub frame : ℕ
  pub number : ℕ
  pub want : Want
  pub got : Got L
  pub response : Response L
  pub acks : ℕ
  pub held : Intervention

pub record Slot : Type 0 where
  pub frame : ℕ
  pub number : ℕ
  pub busy : Bool
  pub seen : Bool

-- a node's processor side
pub record Cpu (L H : Type 0) : Type 0 where
  pub hart : H
  pub cache : ℕ → ℕ → Copy L
  pub tlb : ℕ → TlbEntry
  pub walk : Option ℕ
  pub request : Option (Request L)
  pub slot : Option Slot
  pub drop : Option ℕ

-- a home's entry; what a bit of the sharers stands for is a setting
pub data HomeEntry : Type 0 where
  HUnowned : HomeEntry
  HShared : (sharers : ℕ → Bool) → HomeEntry
  HExclusive : (owner : ℕ) → HomeEntry
  HBusyShared : (owner requester : ℕ) → HomeEntry
  HBusyExclusive : (owner requester : ℕ) (returned : Bool) → HomeEntry
  HBusyPoison : (owner : ℕ) → HomeEntry
  HPoison : HomeEntry

-- a node's home side
pub record HomeSide (L : Type 0) : Type 0 where
  pub entry : ℕ → ℕ → HomeEntry
  pub line : ℕ → ℕ → L
  pub noticed : ℕ → Bool

pub data MoverJob (L : Type 0) : Type 0 where
  MIdle : MoverJob L
  MAsk : (page old new number : ℕ) → MoverJob L
  -- the reply, if it came, and the acknowledgements
  MCollect : (page old new number : ℕ) (reply : Option (L × ℕ)) (acks : ℕ) → MoverJob L
  MHold : (page old new number : ℕ) (line : L) → MoverJob L
  MWait : (page old new number : ℕ) → MoverJob L
  MPublish : (page old new : ℕ) → MoverJob L
  MTell : (frame : ℕ) → MoverJob L
  MGather : (frame : ℕ) → MoverJob L
  MClean : (frame : ℕ) → MoverJob L
  MCleaning : (frame : ℕ) → MoverJob L

-- what the mover has a frame for: nothing; the page that is in it; the page that is being moved into it; a page has left it,
-- and nodes may still name it
pub data FrameRole : Type 0 where
  Unused : FrameRole
  UsedBy : (page : ℕ) → FrameRole
  ReservedFor : (page : ℕ) → FrameRole
  Left : FrameRole

pub record Mover (L : Type 0) : Type 0 where
  pub job : MoverJob L
  pub page_table : ℕ → ℕ
  pub holders : ℕ → ℕ → Bool
  pub role : ℕ → FrameRole

-- all actors, and what is in flight. In the midst of an event the message that it takes is the first one in flight
pub record Machine (L H : Type 0) : Type 0 where
  pub cpu : ℕ → Cpu L H
  pub home : ℕ → HomeSide L
  pub mover : Mover L
  pub flight : List (Post L)

-- what a hart wants of memory and makes of a line, in the words of the event
pub record Harts (L H : Type 0) : Type 0 where
  -- the access that it needs, if it does: page and number
  pub needs : H → Bool
  pub page : H → ℕ
  pub number : H → ℕ
  -- a load or reserve
  pub reads : H → Bool
  -- it stores, if it is made on this line: a conditional may fail
  pub stores : H → L → Bool
  -- the line after the access, and the hart
  pub line_after : H → L → L
  pub after : H → L → H

pub record Setup : Type 0 where
  pub nodes : ℕ
  pub frames : ℕ
  pub pages : ℕ
  pub blocks : ℕ
  pub home : ℕ → ℕ
  pub sharing : Sharing

-- each frame has its home among the nodes
abbrev pub IsSetup : Setup → Type 0
IsSetup s = (frame : ℕ) → frame < s.frames → s.home frame < s.nodes
