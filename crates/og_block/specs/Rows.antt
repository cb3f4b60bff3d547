-- The rows of the protocol: the home's table, the requester's and the owner's, and what a node and the mover do of their own.
-- A row names all that it reads. It may be taken where its guard holds (`guard`), and then does what `apply` says.
-- Where a table makes one event do two things, as to fill and then to answer a held intervention, it is two rows, one
-- after the other; where a table's event changes nothing of this block, as to hold an intervention, it is no row.
-- A guard may be weaker than its table: the laws then speak of more runs.
use Rattle.std.specs.Prelude.{◌≡◌, ℕ, ◌+◌, Bool, true, false, cond, not, nat_eq, ◌≢◌}
use Rattle.og_block.specs.State.{Copy, NoCopy, Shared, Clean, Dirty, Want, Idle, Reading, Writing, Upgrading, Poisoning, NoAsk, Read, ReadExclusive, Upgrade, SharedReply, SpeculativeReply, ExclusiveReply, UpgradeReply, NegativeAck, PoisonError, PoisonRead, PoisonWait, PoisonReply, Response, NoResponse, SharedResponse, ExclusiveResponse, OwnerAck, NoBack, WriteBack, WriteBackAck, WriteBackBusyAck, Free, Taken, Busy, Seen, Intervention, NoIntervention, InterveneShared, InterveneExclusive, IntervenePoison, NoInvalidation, Invalidate, InvalidateAck, Entry, Unowned, SharedBy, Exclusive, BusyShared, BusyExclusive, BusyPoison, PoisonBy, NoRevision, SharingWriteBack, SharingTransfer, DirtyTransfer, PoisonBack, PoisonClean, Sharing, Single, Grouped, Block, put, count, others, is_same}

-- p is the actor that acts, or whose message is served; o the owner, r the requester; l a line that is read, m the
-- memory's line that a speculative reply brought, v a line that is written; s the sharers; d how many acknowledgements
pub data Row (L : Type 0) : Type 0 where
  -- ---- A node between two requests
  -- no copy, a load: a read goes to the home
  Send_read : (p : ℕ) → Row L
  -- no copy, an access that may write: an exclusive read
  Send_read_exclusive : (p : ℕ) → Row L
  -- a shared copy, an access that may write: an upgrade
  Send_upgrade : (p : ℕ) (l : L) → Row L
  -- a hit that reads, on a shared copy
  Load_shared : (p : ℕ) (l : L) → Row L
  -- a hit that reads, on a clean copy
  Load_clean : (p : ℕ) (l : L) → Row L
  -- a hit that reads, on a dirty copy
  Load_dirty : (p : ℕ) (l : L) → Row L
  -- a hit that writes v on a clean or dirty copy of l, which becomes dirty
  Store : (p : ℕ) (v : L) (l : L) → Row L
  -- a copy that is not dirty is thrown out, and nobody is told
  Forget : (p : ℕ) → Row L
  -- a dirty copy is thrown out: into the victim slot, and a write-back to the home
  Evict : (p : ℕ) (l : L) → Row L
  -- ---- The home: a read of p
  -- unowned: p becomes the owner
  Read_unowned : (p : ℕ) → Row L
  -- shared: p joins the sharers
  Read_shared : (p : ℕ) (s : ℕ → Bool) → Row L
  -- exclusive to p itself, which has thrown its clean copy out
  Read_by_owner : (p : ℕ) → Row L
  -- exclusive to another: it is asked, and p gets the memory line meanwhile
  Read_owned : (p : ℕ) (o : ℕ) → Row L
  -- busy: a negative acknowledgement
  Read_busy : (p : ℕ) → Row L
  -- poisoned: a poison error
  Read_poison : (p : ℕ) (o : ℕ) → Row L
  -- ---- The home: an exclusive read of p
  -- unowned: p becomes the owner
  Read_exclusive_unowned : (p : ℕ) → Row L
  -- shared: each other sharer is invalidated, and p is told how many acknowledgements to wait for
  Read_exclusive_shared : (p : ℕ) (s : ℕ → Bool) → Row L
  -- exclusive to p itself
  Read_exclusive_by_owner : (p : ℕ) → Row L
  -- exclusive to another: it is asked, and p gets the memory line meanwhile
  Read_exclusive_owned : (p : ℕ) (o : ℕ) → Row L
  -- busy: a negative acknowledgement
  Read_exclusive_busy : (p : ℕ) → Row L
  -- poisoned: a poison error
  Read_exclusive_poison : (p : ℕ) (o : ℕ) → Row L
  -- ---- The home: an upgrade of p
  -- shared with p: the others are invalidated, and p keeps its line
  Upgrade_shared : (p : ℕ) (s : ℕ → Bool) → Row L
  -- where a bit names a group, it does not show that p has its copy still: so p gets the line, as for an exclusive read
  Upgrade_grouped : (p : ℕ) (s : ℕ → Bool) → Row L
  -- shared without p, unowned, exclusive to another, or busy: a negative acknowledgement
  Upgrade_refused : (p : ℕ) → Row L
  -- poisoned: a poison error
  Upgrade_poison : (p : ℕ) (o : ℕ) → Row L
  -- ---- The home: a write-back of p
  -- exclusive to p: unowned from now on
  Write_back_owner : (p : ℕ) (l : L) → Row L
  -- p was asked to share with r: the write-back is taken for its answer
  Write_back_busy_shared : (p : ℕ) (r : ℕ) (l : L) → Row L
  -- p was asked to give the block to r: likewise
  Write_back_busy_exclusive : (p : ℕ) (r : ℕ) (l : L) → Row L
  -- p got the block from o, whose message to the home is still on its way: the line has returned
  Write_back_requester : (p : ℕ) (o : ℕ) (l : L) → Row L
  -- p was asked to give the block up to the mover r: the write-back is taken for its answer
  Write_back_busy_poison : (p : ℕ) (r : ℕ) (l : L) → Row L
  -- ---- The home: a revision, the owner o's message
  -- o had a dirty copy, and shares it with r
  Revision_sharing_write_back : (o : ℕ) (r : ℕ) (l : L) → Row L
  -- o had a clean copy or none
  Revision_sharing_transfer : (o : ℕ) (r : ℕ) → Row L
  -- o gave the block to r, which is the owner now
  Revision_dirty_transfer : (o : ℕ) (r : ℕ) → Row L
  -- o gave the block to r, which has written it back since: nobody has it
  Revision_returned : (o : ℕ) (r : ℕ) → Row L
  -- o had a dirty copy, and gave it up
  Revision_poison_back : (o : ℕ) (r : ℕ) (l : L) → Row L
  -- o had a clean copy or none, and has none now
  Revision_poison_clean : (o : ℕ) (r : ℕ) → Row L
  -- ---- The home: a poison read of the mover p, and the copy that it puts in at the end
  -- unowned: the mover gets the line
  Poison_read_unowned : (p : ℕ) → Row L
  -- shared: each sharer is invalidated, and the mover gets the line with their number
  Poison_read_shared : (p : ℕ) (s : ℕ → Bool) → Row L
  -- exclusive: the owner is asked, and the reply waits for it
  Poison_read_owned : (p : ℕ) (o : ℕ) → Row L
  -- busy: a negative acknowledgement
  Poison_read_busy : (p : ℕ) → Row L
  -- the block is born again, as a block of another page, with the line v that the mover p brings. In the machine the frame was
  -- cleaned before, so its entry says unowned by then
  Copy_in : (p : ℕ) (v : L) → Row L
  -- ---- The requester p: the parts that it waits for are there, and its request is over
  -- a read, a shared reply
  Fill_shared : (p : ℕ) (l : L) → Row L
  -- the same, but it was invalidated on the way: nothing is filled, and the access is tried again
  Again_shared : (p : ℕ) (l : L) → Row L
  -- a read, marked or not, an exclusive reply: it was granted after all that a mark stands for
  Fill_clean : (p : ℕ) (l : L) (m : Bool) → Row L
  -- a read, the memory's line m, and the owner's line l: it is l that counts
  Fill_shared_answered : (p : ℕ) (l : L) (m : L) → Row L
  -- a read, the memory's line m, and the owner's word that it is the newest
  Fill_shared_speculative : (p : ℕ) (m : L) → Row L
  -- one of these two, but it was invalidated on the way
  Again_speculative : (p : ℕ) (m : L) → Row L
  -- an exclusive read, the line l and all acknowledgements: v is written
  Fill_exclusive : (p : ℕ) (v : L) (l : L) (d : ℕ) → Row L
  -- an exclusive read, the memory's line m, and the owner's line l: it is l that counts, and v is written
  Fill_exclusive_answered : (p : ℕ) (v : L) (m : L) (l : L) → Row L
  -- an exclusive read, the memory's line m, and the owner's word that it is the newest: v is written
  Fill_exclusive_speculative : (p : ℕ) (v : L) (m : L) → Row L
  -- an upgrade and all acknowledgements: v is written on the copy's line l
  Fill_upgrade : (p : ℕ) (v : L) (l : L) (d : ℕ) → Row L
  -- an upgrade where a bit names a group, the line l and all acknowledgements: v is written, and a copy that is there is replaced
  Fill_upgrade_line : (p : ℕ) (v : L) (l : L) (d : ℕ) → Row L
  -- any request but an upgrade was refused: it is tried again
  Again_refused : (p : ℕ) → Row L
  -- an upgrade was refused: the copy goes, if it is still there
  Again_upgrade_refused : (p : ℕ) → Row L
  -- the block was poisoned: the page has moved
  Poisoned : (p : ℕ) → Row L
  -- the mover has the line and all acknowledgements: nobody has a copy now
  Poison_collected : (p : ℕ) (l : L) (d : ℕ) → Row L
  -- ---- Invalidations
  -- p has a shared copy, or none (a read on the way, or a group where another node shares): the copy goes, and a read is marked
  Invalidated : (p : ℕ) (r : ℕ) → Row L
  -- r counts the acknowledgement of p
  Acknowledged : (p : ℕ) (r : ℕ) → Row L
  -- ---- An intervention at p for the requester r. While p has a request out for the block it is held: no row takes it
  -- the victim slot waits for just this intervention: both are over
  Intervention_victim_busy : (p : ℕ) → Row L
  -- the victim slot has the block: the write-back is the answer, and the slot remembers that this came first
  Intervention_victim_first : (p : ℕ) → Row L
  -- to share a dirty copy: the line goes to r and to the home
  Intervention_shared_dirty : (p : ℕ) (r : ℕ) (l : L) → Row L
  -- to share a clean copy: the memory is the newest line, and the copy becomes shared
  Intervention_shared_clean : (p : ℕ) (r : ℕ) (l : L) → Row L
  -- to share, with no copy
  Intervention_shared_none : (p : ℕ) (r : ℕ) → Row L
  -- to give a dirty copy
  Intervention_exclusive_dirty : (p : ℕ) (r : ℕ) (l : L) → Row L
  -- to give a clean copy, or none
  Intervention_exclusive_clean : (p : ℕ) (r : ℕ) → Row L
  -- to give a dirty copy up to the mover: the line goes to the home
  Intervention_poison_dirty : (p : ℕ) (r : ℕ) (l : L) → Row L
  -- to give a clean copy up, or none
  Intervention_poison_clean : (p : ℕ) (r : ℕ) → Row L
  -- ---- Acknowledgements at the victim slot of p
  -- plain: the slot is free
  Write_back_ack : (p : ℕ) → Row L
  -- busy, and the intervention has been ignored already: the slot is free
  Write_back_busy_ack_seen : (p : ℕ) → Row L
  -- busy, and the intervention is still to come: the slot waits for it
  Write_back_busy_ack_first : (p : ℕ) → Row L
  -- ---- The mover p
  -- it asks for the block
  Send_poison_read : (p : ℕ) → Row L

-- ------------------------------------------------------------------------------ tests

abbrev pub is_busy : Entry → Bool
is_busy (BusyShared o p) = true
is_busy (BusyExclusive o p r) = true
is_busy (BusyPoison o p) = true
is_busy e = false

-- an upgrade of p that is answered by a negative acknowledgement
abbrev pub refuses_upgrade : Entry → ℕ → Bool
refuses_upgrade (SharedBy s) p = not (s p)
refuses_upgrade (Exclusive o) p = not (nat_eq o p)
refuses_upgrade (PoisonBy o) p = false
refuses_upgrade e p = true

abbrev pub is_grouped : Sharing → Bool
is_grouped Single = false
is_grouped (Grouped g) = true

-- the sharers with p, or with all of the group of p
abbrev pub with_sharer : Sharing → ℕ → (ℕ → Bool) → ℕ → Bool
with_sharer k p s q = cond (is_same k q p) true (s q)

abbrev pub has_intervention : Intervention → Bool
has_intervention NoIntervention = false
has_intervention i = true

abbrev pub is_upgrading : Want → Bool
is_upgrading Upgrading = true
is_upgrading w = false

-- a read that an invalidation reaches
abbrev pub marked : Want → Want
marked (Reading m) = Reading true
marked w = w

module _ {L : Type 0} where
  abbrev pub has_exclusive : Copy L → Bool
  has_exclusive (Clean l) = true
  has_exclusive (Dirty l) = true
  has_exclusive c = false

  abbrev pub is_dirty : Copy L → Bool
  is_dirty (Dirty l) = true
  is_dirty c = false

  -- the copy may be written, and its line is l
  abbrev pub HasWritable : Copy L → L → Type 0
  HasWritable (Clean x) l = x ≡ l
  HasWritable (Dirty x) l = x ≡ l
  HasWritable c l = ⊥

  abbrev pub has_response : Response L → Bool
  has_response NoResponse = false
  has_response r = true

  -- ------------------------------------------------------------------------------ when a row may be taken

  abbrev pub guard : Row L → Block L → Type 0
  guard (Send_read p) b = (b.want p ≡ Idle) × (b.copy p ≡ NoCopy) × (b.victim p ≡ Free)
  guard (Send_read_exclusive p) b = (b.want p ≡ Idle) × (b.copy p ≡ NoCopy) × (b.victim p ≡ Free)
  guard (Send_upgrade p l) b = (b.want p ≡ Idle) × (b.copy p ≡ Shared l)
  guard (Load_shared p l) b = (b.want p ≡ Idle) × (b.copy p ≡ Shared l)
  guard (Load_clean p l) b = (b.want p ≡ Idle) × (b.copy p ≡ Clean l)
  guard (Load_dirty p l) b = (b.want p ≡ Idle) × (b.copy p ≡ Dirty l)
  guard (Store p v l) b = (b.want p ≡ Idle) × HasWritable (b.copy p) l
  guard (Forget p) b = (b.want p ≡ Idle) × (is_dirty (b.copy p) ≡ false)
  guard (Evict p l) b = (b.want p ≡ Idle) × (b.copy p ≡ Dirty l) × (b.victim p ≡ Free)
  guard (Read_unowned p) b = (b.ask p ≡ Read) × (b.entry ≡ Unowned)
  guard (Read_shared p s) b = (b.ask p ≡ Read) × (b.entry ≡ SharedBy s)
  guard (Read_by_owner p) b = (b.ask p ≡ Read) × (b.entry ≡ Exclusive p)
  guard (Read_owned p o) b = (b.ask p ≡ Read) × (b.entry ≡ Exclusive o) × (o ≢ p)
  guard (Read_busy p) b = (b.ask p ≡ Read) × (is_busy b.entry ≡ true)
  guard (Read_poison p o) b = (b.ask p ≡ Read) × (b.entry ≡ PoisonBy o)
  guard (Read_exclusive_unowned p) b = (b.ask p ≡ ReadExclusive) × (b.entry ≡ Unowned)
  guard (Read_exclusive_shared p s) b = (b.ask p ≡ ReadExclusive) × (b.entry ≡ SharedBy s)
  guard (Read_exclusive_by_owner p) b = (b.ask p ≡ ReadExclusive) × (b.entry ≡ Exclusive p)
  guard (Read_exclusive_owned p o) b = (b.ask p ≡ ReadExclusive) × (b.entry ≡ Exclusive o) × (o ≢ p)
  guard (Read_exclusive_busy p) b = (b.ask p ≡ ReadExclusive) × (is_busy b.entry ≡ true)
  guard (Read_exclusive_poison p o) b = (b.ask p ≡ ReadExclusive) × (b.entry ≡ PoisonBy o)
  guard (Upgrade_shared p s) b = (b.ask p ≡ Upgrade) × (b.entry ≡ SharedBy s) × (s p ≡ true) × (b.sharing ≡ Single)
  guard (Upgrade_grouped p s) b = (b.ask p ≡ Upgrade) × (b.entry ≡ SharedBy s) × (s p ≡ true) × (is_grouped b.sharing ≡ true)
  guard (Upgrade_refused p) b = (b.ask p ≡ Upgrade) × (refuses_upgrade b.entry p ≡ true)
  guard (Upgrade_poison p o) b = (b.ask p ≡ Upgrade) × (b.entry ≡ PoisonBy o)
  guard (Write_back_owner p l) b = (b.back p ≡ WriteBack l) × (b.entry ≡ Exclusive p)
  guard (Write_back_busy_shared p r l) b = (b.back p ≡ WriteBack l) × (b.entry ≡ BusyShared p r)
  guard (Write_back_busy_exclusive p r l) b = (b.back p ≡ WriteBack l) × (b.entry ≡ BusyExclusive p r false)
  guard (Write_back_requester p o l) b = (b.back p ≡ WriteBack l) × (b.entry ≡ BusyExclusive o p false) × (o ≢ p)
  guard (Write_back_busy_poison p r l) b = (b.back p ≡ WriteBack l) × (b.entry ≡ BusyPoison p r)
  guard (Revision_sharing_write_back o r l) b = (b.revision ≡ SharingWriteBack o l) × (b.entry ≡ BusyShared o r)
  guard (Revision_sharing_transfer o r) b = (b.revision ≡ SharingTransfer o) × (b.entry ≡ BusyShared o r)
  guard (Revision_dirty_transfer o r) b = (b.revision ≡ DirtyTransfer o) × (b.entry ≡ BusyExclusive o r false)
  guard (Revision_returned o r) b = (b.revision ≡ DirtyTransfer o) × (b.entry ≡ BusyExclusive o r true)
  guard (Revision_poison_back o r l) b = (b.revision ≡ PoisonBack o l) × (b.entry ≡ BusyPoison o r)
  guard (Revision_poison_clean o r) b = (b.revision ≡ PoisonClean o) × (b.entry ≡ BusyPoison o r)
  guard (Poison_read_unowned p) b = (b.ask p ≡ PoisonRead) × (b.entry ≡ Unowned)
  guard (Poison_read_shared p s) b = (b.ask p ≡ PoisonRead) × (b.entry ≡ SharedBy s)
  guard (Poison_read_owned p o) b = (b.ask p ≡ PoisonRead) × (b.entry ≡ Exclusive o) × (o ≢ p)
  guard (Poison_read_busy p) b = (b.ask p ≡ PoisonRead) × (is_busy b.entry ≡ true)
  guard (Copy_in p v) b = (b.entry ≡ PoisonBy p) × (b.want p ≡ Idle) × (b.copy p ≡ NoCopy) × (b.back p ≡ NoBack)
  guard (Fill_shared p l) b = (b.want p ≡ Reading false) × (b.ask p ≡ SharedReply l)
  guard (Again_shared p l) b = (b.want p ≡ Reading true) × (b.ask p ≡ SharedReply l)
  guard (Fill_clean p l m) b = (b.want p ≡ Reading m) × (b.ask p ≡ ExclusiveReply l 0)
  guard (Fill_shared_answered p l m) b = (b.want p ≡ Reading false) × (b.ask p ≡ SpeculativeReply m) × (b.response p ≡ SharedResponse l)
  guard (Fill_shared_speculative p m) b = (b.want p ≡ Reading false) × (b.ask p ≡ SpeculativeReply m) × (b.response p ≡ OwnerAck)
  guard (Again_speculative p m) b = (b.want p ≡ Reading true) × (b.ask p ≡ SpeculativeReply m) × (has_response (b.response p) ≡ true)
  guard (Fill_exclusive p v l d) b = (b.want p ≡ Writing) × (b.ask p ≡ ExclusiveReply l d) × (b.acks p ≡ d)
  guard (Fill_exclusive_answered p v m l) b = (b.want p ≡ Writing) × (b.ask p ≡ SpeculativeReply m) × (b.response p ≡ ExclusiveResponse l)
  guard (Fill_exclusive_speculative p v m) b = (b.want p ≡ Writing) × (b.ask p ≡ SpeculativeReply m) × (b.response p ≡ OwnerAck)
  guard (Fill_upgrade p v l d) b = (b.want p ≡ Upgrading) × (b.ask p ≡ UpgradeReply d) × (b.acks p ≡ d) × (b.copy p ≡ Shared l)
  guard (Fill_upgrade_line p v l d) b = (b.want p ≡ Upgrading) × (b.ask p ≡ ExclusiveReply l d) × (b.acks p ≡ d)
  guard (Again_refused p) b = (b.ask p ≡ NegativeAck) × (is_upgrading (b.want p) ≡ false)
  guard (Again_upgrade_refused p) b = (b.ask p ≡ NegativeAck) × (is_upgrading (b.want p) ≡ true)
  guard (Poisoned p) b = b.ask p ≡ PoisonError
  guard (Poison_collected p l d) b = (b.want p ≡ Poisoning) × (b.ask p ≡ PoisonReply l d) × (b.acks p ≡ d)
  guard (Invalidated p r) b = (b.invalidation p ≡ Invalidate r) × (has_exclusive (b.copy p) ≡ false)
  guard (Acknowledged p r) b = b.invalidation p ≡ InvalidateAck r
  guard (Intervention_victim_busy p) b = (has_intervention (b.intervention p) ≡ true) × (b.victim p ≡ Busy)
  guard (Intervention_victim_first p) b = (has_intervention (b.intervention p) ≡ true) × (b.victim p ≡ Taken)
  guard (Intervention_shared_dirty p r l) b = (b.intervention p ≡ InterveneShared r) × (b.victim p ≡ Free) × (b.want p ≡ Idle) × (b.copy p ≡ Dirty l)
  guard (Intervention_shared_clean p r l) b = (b.intervention p ≡ InterveneShared r) × (b.victim p ≡ Free) × (b.want p ≡ Idle) × (b.copy p ≡ Clean l)
  guard (Intervention_shared_none p r) b = (b.intervention p ≡ InterveneShared r) × (b.victim p ≡ Free) × (b.want p ≡ Idle) × (b.copy p ≡ NoCopy)
  guard (Intervention_exclusive_dirty p r l) b = (b.intervention p ≡ InterveneExclusive r) × (b.victim p ≡ Free) × (b.want p ≡ Idle) × (b.copy p ≡ Dirty l)
  guard (Intervention_exclusive_clean p r) b = (b.intervention p ≡ InterveneExclusive r) × (b.victim p ≡ Free) × (b.want p ≡ Idle) × (is_dirty (b.copy p) ≡ false)
  guard (Intervention_poison_dirty p r l) b = (b.intervention p ≡ IntervenePoison r) × (b.victim p ≡ Free) × (b.want p ≡ Idle) × (b.copy p ≡ Dirty l)
  guard (Intervention_poison_clean p r) b = (b.intervention p ≡ IntervenePoison r) × (b.victim p ≡ Free) × (b.want p ≡ Idle) × (is_dirty (b.copy p) ≡ false)
  guard (Write_back_ack p) b = b.back p ≡ WriteBackAck
  guard (Write_back_busy_ack_seen p) b = (b.back p ≡ WriteBackBusyAck) × (b.victim p ≡ Seen)
  guard (Write_back_busy_ack_first p) b = (b.back p ≡ WriteBackBusyAck) × (b.victim p ≡ Taken)
  guard (Send_poison_read p) b = (b.want p ≡ Idle) × (b.copy p ≡ NoCopy) × (b.victim p ≡ Free)

  -- ------------------------------------------------------------------------------ what it does, among n actors

  abbrev pub apply : ℕ → Row L → Block L → Block L
  apply n (Send_read p) b = record b { want = put b.want p (Reading false); ask = put b.ask p Read }
  apply n (Send_read_exclusive p) b = record b { want = put b.want p Writing; ask = put b.ask p ReadExclusive }
  apply n (Send_upgrade p l) b = record b { want = put b.want p Upgrading; ask = put b.ask p Upgrade }
  apply n (Load_shared p l) b = b
  apply n (Load_clean p l) b = b
  apply n (Load_dirty p l) b = b
  apply n (Store p v l) b = record b { copy = put b.copy p (Dirty v) }
  apply n (Forget p) b = record b { copy = put b.copy p NoCopy }
  apply n (Evict p l) b = record b { copy = put b.copy p NoCopy; victim = put b.victim p Taken; back = put b.back p (WriteBack l) }
  apply n (Read_unowned p) b = record b { entry = Exclusive p; ask = put b.ask p (ExclusiveReply b.line 0) }
  apply n (Read_shared p s) b = record b { entry = SharedBy (with_sharer b.sharing p s); ask = put b.ask p (SharedReply b.line) }
  apply n (Read_by_owner p) b = record b { ask = put b.ask p (ExclusiveReply b.line 0) }
  apply n (Read_owned p o) b = record b { entry = BusyShared o p; ask = put b.ask p (SpeculativeReply b.line); intervention = put b.intervention o (InterveneShared p) }
  apply n (Read_busy p) b = record b { ask = put b.ask p NegativeAck }
  apply n (Read_poison p o) b = record b { ask = put b.ask p PoisonError }
  apply n (Read_exclusive_unowned p) b = record b { entry = Exclusive p; ask = put b.ask p (ExclusiveReply b.line 0) }
  apply n (Read_exclusive_shared p s) b = record b { entry = Exclusive p; ask = put b.ask p (ExclusiveReply b.line (count n (others s p))); invalidation = λ q. cond (others s p q) (Invalidate p) (b.invalidation q) }
  apply n (Read_exclusive_by_owner p) b = record b { ask = put b.ask p (ExclusiveReply b.line 0) }
  apply n (Read_exclusive_owned p o) b = record b { entry = BusyExclusive o p false; ask = put b.ask p (SpeculativeReply b.line); intervention = put b.intervention o (InterveneExclusive p) }
  apply n (Read_exclusive_busy p) b = record b { ask = put b.ask p NegativeAck }
  apply n (Read_exclusive_poison p o) b = record b { ask = put b.ask p PoisonError }
  apply n (Upgrade_shared p s) b = record b { entry = Exclusive p; ask = put b.ask p (UpgradeReply (count n (others s p))); invalidation = λ q. cond (others s p q) (Invalidate p) (b.invalidation q) }
  apply n (Upgrade_grouped p s) b = record b { entry = Exclusive p; ask = put b.ask p (ExclusiveReply b.line (count n (others s p))); invalidation = λ q. cond (others s p q) (Invalidate p) (b.invalidation q) }
  apply n (Upgrade_refused p) b = record b { ask = put b.ask p NegativeAck }
  apply n (Upgrade_poison p o) b = record b { ask = put b.ask p PoisonError }
  apply n (Write_back_owner p l) b = record b { entry = Unowned; line = l; back = put b.back p WriteBackAck }
  apply n (Write_back_busy_shared p r l) b = record b { entry = SharedBy (λ q. is_same b.sharing q r); line = l; back = put b.back p WriteBackBusyAck; response = put b.response r (SharedResponse l) }
  apply n (Write_back_busy_exclusive p r l) b = record b { entry = Exclusive r; line = l; back = put b.back p WriteBackBusyAck; response = put b.response r (ExclusiveResponse l) }
  apply n (Write_back_requester p o l) b = record b { entry = BusyExclusive o p true; line = l; back = put b.back p WriteBackAck }
  apply n (Write_back_busy_poison p r l) b = record b { entry = PoisonBy r; line = l; back = put b.back p WriteBackBusyAck; ask = put b.ask r (PoisonReply l 0) }
  apply n (Revision_sharing_write_back o r l) b = record b { entry = SharedBy (λ q. cond (is_same b.sharing q o) true (is_same b.sharing q r)); line = l; revision = NoRevision }
  apply n (Revision_sharing_transfer o r) b = record b { entry = SharedBy (λ q. cond (is_same b.sharing q o) true (is_same b.sharing q r)); revision = NoRevision }
  apply n (Revision_dirty_transfer o r) b = record b { entry = Exclusive r; revision = NoRevision }
  apply n (Revision_returned o r) b = record b { entry = Unowned; revision = NoRevision }
  apply n (Revision_poison_back o r l) b = record b { entry = PoisonBy r; line = l; revision = NoRevision; ask = put b.ask r (PoisonReply l 0) }
  apply n (Revision_poison_clean o r) b = record b { entry = PoisonBy r; revision = NoRevision; ask = put b.ask r (PoisonReply b.line 0) }
  apply n (Poison_read_unowned p) b = record b { entry = PoisonBy p; ask = put b.ask p (PoisonReply b.line 0) }
  apply n (Poison_read_shared p s) b = record b { entry = PoisonBy p; ask = put b.ask p (PoisonReply b.line (count n (others s p))); invalidation = λ q. cond (others s p q) (Invalidate p) (b.invalidation q) }
  apply n (Poison_read_owned p o) b = record b { entry = BusyPoison o p; ask = put b.ask p PoisonWait; intervention = put b.intervention o (IntervenePoison p) }
  apply n (Poison_read_busy p) b = record b { ask = put b.ask p NegativeAck }
  apply n (Copy_in p v) b = record b { entry = Unowned; line = v }
  apply n (Fill_shared p l) b = record b { want = put b.want p Idle; ask = put b.ask p NoAsk; copy = put b.copy p (Shared l) }
  apply n (Again_shared p l) b = record b { want = put b.want p Idle; ask = put b.ask p NoAsk }
  apply n (Fill_clean p l m) b = record b { want = put b.want p Idle; ask = put b.ask p NoAsk; copy = put b.copy p (Clean l) }
  apply n (Fill_shared_answered p l m) b = record b { want = put b.want p Idle; ask = put b.ask p NoAsk; response = put b.response p NoResponse; copy = put b.copy p (Shared l) }
  apply n (Fill_shared_speculative p m) b = record b { want = put b.want p Idle; ask = put b.ask p NoAsk; response = put b.response p NoResponse; copy = put b.copy p (Shared m) }
  apply n (Again_speculative p m) b = record b { want = put b.want p Idle; ask = put b.ask p NoAsk; response = put b.response p NoResponse }
  apply n (Fill_exclusive p v l d) b = record b { want = put b.want p Idle; ask = put b.ask p NoAsk; acks = put b.acks p 0; copy = put b.copy p (Dirty v) }
  apply n (Fill_exclusive_answered p v m l) b = record b { want = put b.want p Idle; ask = put b.ask p NoAsk; response = put b.response p NoResponse; copy = put b.copy p (Dirty v) }
  apply n (Fill_exclusive_speculative p v m) b = record b { want = put b.want p Idle; ask = put b.ask p NoAsk; response = put b.response p NoResponse; copy = put b.copy p (Dirty v) }
  apply n (Fill_upgrade p v l d) b = record b { want = put b.want p Idle; ask = put b.ask p NoAsk; acks = put b.acks p 0; copy = put b.copy p (Dirty v) }
  apply n (Fill_upgrade_line p v l d) b = record b { want = put b.want p Idle; ask = put b.ask p NoAsk; acks = put b.acks p 0; copy = put b.copy p (Dirty v) }
  apply n (Again_refused p) b = record b { want = put b.want p Idle; ask = put b.ask p NoAsk }
  apply n (Again_upgrade_refused p) b = record b { want = put b.want p Idle; ask = put b.ask p NoAsk; copy = put b.copy p NoCopy }
  apply n (Poisoned p) b = record b { want = put b.want p Idle; ask = put b.ask p NoAsk }
  apply n (Poison_collected p l d) b = record b { want = put b.want p Idle; ask = put b.ask p NoAsk; acks = put b.acks p 0 }
  apply n (Invalidated p r) b = record b { invalidation = put b.invalidation p (InvalidateAck r); copy = put b.copy p NoCopy; want = put b.want p (marked (b.want p)) }
  apply n (Acknowledged p r) b = record b { invalidation = put b.invalidation p NoInvalidation; acks = put b.acks r (b.acks r + 1) }
  apply n (Intervention_victim_busy p) b = record b { intervention = put b.intervention p NoIntervention; victim = put b.victim p Free }
  apply n (Intervention_victim_first p) b = record b { intervention = put b.intervention p NoIntervention; victim = put b.victim p Seen }
  apply n (Intervention_shared_dirty p r l) b = record b { intervention = put b.intervention p NoIntervention; revision = SharingWriteBack p l; response = put b.response r (SharedResponse l); copy = put b.copy p (Shared l) }
  apply n (Intervention_shared_clean p r l) b = record b { intervention = put b.intervention p NoIntervention; revision = SharingTransfer p; response = put b.response r OwnerAck; copy = put b.copy p (Shared l) }
  apply n (Intervention_shared_none p r) b = record b { intervention = put b.intervention p NoIntervention; revision = SharingTransfer p; response = put b.response r OwnerAck }
  apply n (Intervention_exclusive_dirty p r l) b = record b { intervention = put b.intervention p NoIntervention; revision = DirtyTransfer p; response = put b.response r (ExclusiveResponse l); copy = put b.copy p NoCopy }
  apply n (Intervention_exclusive_clean p r) b = record b { intervention = put b.intervention p NoIntervention; revision = DirtyTransfer p; response = put b.response r OwnerAck; copy = put b.copy p NoCopy }
  apply n (Intervention_poison_dirty p r l) b = record b { intervention = put b.intervention p NoIntervention; revision = PoisonBack p l; copy = put b.copy p NoCopy }
  apply n (Intervention_poison_clean p r) b = record b { intervention = put b.intervention p NoIntervention; revision = PoisonClean p; copy = put b.copy p NoCopy }
  apply n (Write_back_ack p) b = record b { back = put b.back p NoBack; victim = put b.victim p Free }
  apply n (Write_back_busy_ack_seen p) b = record b { back = put b.back p NoBack; victim = put b.victim p Free }
  apply n (Write_back_busy_ack_first p) b = record b { back = put b.back p NoBack; victim = put b.victim p Busy }
  apply n (Send_poison_read p) b = record b { want = put b.want p Poisoning; ask = put b.ask p PoisonRead }

  -- the actor that acts, or whose message is served
  abbrev pub actor_of : Row L → ℕ
  actor_of (Send_read p) = p
  actor_of (Send_read_exclusive p) = p
  actor_of (Send_upgrade p l) = p
  actor_of (Load_shared p l) = p
  actor_of (Load_clean p l) = p
  actor_of (Load_dirty p l) = p
  actor_of (Store p v l) = p
  actor_of (Forget p) = p
  actor_of (Evict p l) = p
  actor_of (Read_unowned p) = p
  actor_of (Read_shared p s) = p
  actor_of (Read_by_owner p) = p
  actor_of (Read_owned p o) = p
  actor_of (Read_busy p) = p
  actor_of (Read_poison p o) = p
  actor_of (Read_exclusive_unowned p) = p
  actor_of (Read_exclusive_shared p s) = p
  actor_of (Read_exclusive_by_owner p) = p
  actor_of (Read_exclusive_owned p o) = p
  actor_of (Read_exclusive_busy p) = p
  actor_of (Read_exclusive_poison p o) = p
  actor_of (Upgrade_shared p s) = p
  actor_of (Upgrade_grouped p s) = p
  actor_of (Upgrade_refused p) = p
  actor_of (Upgrade_poison p o) = p
  actor_of (Write_back_owner p l) = p
  actor_of (Write_back_busy_shared p r l) = p
  actor_of (Write_back_busy_exclusive p r l) = p
  actor_of (Write_back_requester p o l) = p
  actor_of (Write_back_busy_poison p r l) = p
  actor_of (Revision_sharing_write_back o r l) = o
  actor_of (Revision_sharing_transfer o r) = o
  actor_of (Revision_dirty_transfer o r) = o
  actor_of (Revision_returned o r) = o
  actor_of (Revision_poison_back o r l) = o
  actor_of (Revision_poison_clean o r) = o
  actor_of (Poison_read_unowned p) = p
  actor_of (Poison_read_shared p s) = p
  actor_of (Poison_read_owned p o) = p
  actor_of (Poison_read_busy p) = p
  actor_of (Copy_in p v) = p
  actor_of (Fill_shared p l) = p
  actor_of (Again_shared p l) = p
  actor_of (Fill_clean p l m) = p
  actor_of (Fill_shared_answered p l m) = p
  actor_of (Fill_shared_speculative p m) = p
  actor_of (Again_speculative p m) = p
  actor_of (Fill_exclusive p v l d) = p
  actor_of (Fill_exclusive_answered p v m l) = p
  actor_of (Fill_exclusive_speculative p v m) = p
  actor_of (Fill_upgrade p v l d) = p
  actor_of (Fill_upgrade_line p v l d) = p
  actor_of (Again_refused p) = p
  actor_of (Again_upgrade_refused p) = p
  actor_of (Poisoned p) = p
  actor_of (Poison_collected p l d) = p
  actor_of (Invalidated p r) = p
  actor_of (Acknowledged p r) = p
  actor_of (Intervention_victim_busy p) = p
  actor_of (Intervention_victim_first p) = p
  actor_of (Intervention_shared_dirty p r l) = p
  actor_of (Intervention_shared_clean p r l) = p
  actor_of (Intervention_shared_none p r) = p
  actor_of (Intervention_exclusive_dirty p r l) = p
  actor_of (Intervention_exclusive_clean p r) = p
  actor_of (Intervention_poison_dirty p r l) = p
  actor_of (Intervention_poison_clean p r) = p
  actor_of (Write_back_ack p) = p
  actor_of (Write_back_busy_ack_seen p) = p
  actor_of (Write_back_busy_ack_first p) = p
  actor_of (Send_poison_read p) = p
