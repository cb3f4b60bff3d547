-- One block of memory, as its home and all actors see it. Actors are numbers: nodes, and the mover, which is one more.
--
-- Each message in flight stands in a slot that holds one message at most: so two messages never share a slot, by
-- construction. What was received stays in its slot until it is used, and the rows don't tell the two apart:
-- a reply stays until the request is over, whether it is in flight or has come; an intervention stays until it is
-- answered, whether it is in flight or held.
--
-- `L` is the type of a line. No row looks inside a line.
pub use Rattle.og_slots.specs.Count.{count}
pub use Rattle.og_slots.specs.Columns.{put}
use Rattle.std.specs.Prelude.{ℕ, Bool, cond, not, ◌&&◌, nat_eq}

-- a node's copy of the block; a clean or dirty copy may be written
pub data Copy (L : Type 0) : Type 0 where
  NoCopy : Copy L
  Shared : (line : L) → Copy L
  Clean : (line : L) → Copy L
  Dirty : (line : L) → Copy L

-- what an actor's outstanding request is for; a read that was invalidated on the way is marked
pub data Want : Type 0 where
  Idle : Want
  Reading : (marked : Bool) → Want
  Writing : Want
  Upgrading : Want
  Poisoning : Want

-- a request, or the home's reply to it: one slot for each requester. `due` is the number of acknowledgements to wait for
pub data Ask (L : Type 0) : Type 0 where
  NoAsk : Ask L
  Read : Ask L
  ReadExclusive : Ask L
  Upgrade : Ask L
  SharedReply : (line : L) → Ask L
  SpeculativeReply : (line : L) → Ask L
  ExclusiveReply : (line : L) (due : ℕ) → Ask L
  UpgradeReply : (due : ℕ) → Ask L
  NegativeAck : Ask L
  PoisonError : Ask L
  PoisonRead : Ask L
  -- no message: the home has asked the owner, and the mover's reply is still to be sent
  PoisonWait : Ask L
  PoisonReply : (line : L) (due : ℕ) → Ask L

-- the owner's answer to the requester, one slot for each requester; the home sends it where a write-back came instead
pub data Response (L : Type 0) : Type 0 where
  NoResponse : Response L
  SharedResponse : (line : L) → Response L
  ExclusiveResponse : (line : L) → Response L
  OwnerAck : Response L

-- a write-back, or the home's acknowledgement of it: one slot for each node
pub data Back (L : Type 0) : Type 0 where
  NoBack : Back L
  WriteBack : (line : L) → Back L
  WriteBackAck : Back L
  WriteBackBusyAck : Back L

-- the victim slot of a node. Busy: the busy acknowledgement has come, and an intervention is still to be ignored.
-- Seen: that intervention came first
pub data Victim : Type 0 where
  Free : Victim
  Taken : Victim
  Busy : Victim
  Seen : Victim

-- the home's question to the owner, one slot for each node
pub data Intervention : Type 0 where
  NoIntervention : Intervention
  InterveneShared : (requester : ℕ) → Intervention
  InterveneExclusive : (requester : ℕ) → Intervention
  IntervenePoison : (requester : ℕ) → Intervention

-- an invalidation on its way to a sharer, or the sharer's acknowledgement on its way to the requester: one slot for each sharer
pub data Invalidation : Type 0 where
  NoInvalidation : Invalidation
  Invalidate : (requester : ℕ) → Invalidation
  InvalidateAck : (requester : ℕ) → Invalidation

-- the home's directory entry. Busy: the owner was asked, and hasn't been heard of. Where the block is poisoned, or will be,
-- the requester is named, which a real entry leaves out, since it is always the mover.
-- `returned`: the requester has filled, and its write-back has overtaken the owner's message to the home
pub data Entry : Type 0 where
  Unowned : Entry
  SharedBy : (sharers : ℕ → Bool) → Entry
  Exclusive : (owner : ℕ) → Entry
  BusyShared : (owner requester : ℕ) → Entry
  BusyExclusive : (owner requester : ℕ) (returned : Bool) → Entry
  BusyPoison : (owner requester : ℕ) → Entry
  PoisonBy : (requester : ℕ) → Entry

-- the owner's message to the home: one slot for the block
pub data Revision (L : Type 0) : Type 0 where
  NoRevision : Revision L
  SharingWriteBack : (sender : ℕ) (line : L) → Revision L
  SharingTransfer : (sender : ℕ) → Revision L
  DirtyTransfer : (sender : ℕ) → Revision L
  PoisonBack : (sender : ℕ) (line : L) → Revision L
  PoisonClean : (sender : ℕ) → Revision L

-- what a bit of the sharers stands for: one node, or each node of a group
pub data Sharing : Type 0 where
  Single : Sharing
  Grouped : (group : ℕ → ℕ) → Sharing

pub record Block (L : Type 0) : Type 0 where
  -- a setting of the machine, which no row changes
  pub sharing : Sharing
  -- the home: its entry, its memory's line, and the owner's message to it
  pub entry : Entry
  pub line : L
  pub revision : Revision L
  -- each actor: its copy, its request with the parts that answer it, its victim slot, and what others send to it
  pub copy : ℕ → Copy L
  pub want : ℕ → Want
  pub ask : ℕ → Ask L
  pub response : ℕ → Response L
  pub acks : ℕ → ℕ
  pub back : ℕ → Back L
  pub victim : ℕ → Victim
  pub intervention : ℕ → Intervention
  pub invalidation : ℕ → Invalidation

-- the sharers without p
abbrev pub others : (ℕ → Bool) → ℕ → ℕ → Bool
others s p q = s q && not (nat_eq q p)

abbrev pub group_of : Sharing → ℕ → ℕ
group_of Single q = q
group_of (Grouped g) q = g q

-- one bit names both
abbrev pub is_same : Sharing → ℕ → ℕ → Bool
is_same k q p = nat_eq (group_of k q) (group_of k p)

module _ {L : Type 0} where
  -- nobody has a copy, nothing is in flight, and the home's memory has this line
  abbrev pub start : Sharing → L → Block L
  start sharing memory = record {
    sharing = sharing;
    entry = Unowned;
    line = memory;
    revision = NoRevision;
    copy = λ q. NoCopy;
    want = λ q. Idle;
    ask = λ q. NoAsk;
    response = λ q. NoResponse;
    acks = λ q. 0;
    back = λ q. NoBack;
    victim = λ q. Free;
    intervention = λ q. NoIntervention;
    invalidation = λ q. NoInvalidation;
  }
