-- How the races stand: what holds while a block is between two states.
use Rattle.std.specs.Prelude.{◌≡◌, ℕ, ◌<◌, Bool, true, false, cond, nat_eq, ◌⊎◌}
use Rattle.og_block.specs.State.{Copy, NoCopy, Shared, Want, Reading, Ask, Upgrade, SharedReply, SpeculativeReply, ExclusiveReply, UpgradeReply, Response, Back, Taken, Busy, Seen, Entry, SharedBy, Exclusive, BusyShared, BusyExclusive, BusyPoison, PoisonBy, Revision, NoRevision, DirtyTransfer, Single, Block}
use Rattle.og_block.specs.Rows.{has_exclusive, has_intervention, is_dirty}
use Rattle.og_block.specs.Views.{is_write_back, was_given, waits_exclusive, grants, is_for}
use Rattle.og_block.specs.Balance.{is_ack, is_busy_ack}

-- the entry names r as its owner, or the mover r as the one that poisons
abbrev pub names : Entry → ℕ → Bool
names (Exclusive o) r = nat_eq o r
names (BusyShared o p) r = nat_eq o r
names (BusyExclusive o p w) r = nat_eq o r
names (BusyPoison o p) r = nat_eq o r
names (PoisonBy p) r = nat_eq p r
names e r = false

module _ {L : Type 0} where
  -- the requester of an entry whose owner has given the block to it
  abbrev pub gets : Entry → Revision L → ℕ → Bool
  gets (BusyExclusive o p false) NoRevision q = false
  gets (BusyExclusive o p false) v q = nat_eq p q
  gets e v q = false

  -- it was given the block, or has it dirty, or has thrown it out already
  abbrev pub is_handed : Copy L → Want → Ask L → Response L → Back L → Bool
  is_handed c w a r k = cond (was_given w a r) true (cond (is_dirty c) true (is_write_back k))

  abbrev pub Handed : Block L → ℕ → Type 0
  Handed b q = gets b.entry b.revision q ≡ true → is_handed (b.copy q) (b.want q) (b.ask q) (b.response q) (b.back q) ≡ true

  -- the home has replied that it grants the block
  abbrev pub is_granted : Ask L → Bool
  is_granted (SharedReply l) = true
  is_granted (SpeculativeReply l) = true
  is_granted (ExclusiveReply l d) = true
  is_granted (UpgradeReply d) = true
  is_granted a = false

  -- o is asked to give the block to p, which waits, and hasn't answered: it has the intervention, or wrote the block back
  pub record Unheard (b : Block L) (o p : ℕ) : Type 0 where
    pub silent : b.revision ≡ NoRevision
    pub waits : waits_exclusive (b.want p) (b.ask p) (b.response p) ≡ true
    pub asked : (has_intervention (b.intervention o) ≡ true) ⊎ (is_write_back (b.back o) ≡ true)

  -- f is the line of the memory cell
  pub record Races (n : ℕ) (f : L) (b : Block L) : Type 0 where
    -- given to p by o. Either o isn't heard of, and p waits: then the intervention is with o or on its way, or o's write-back
    -- is. Or o's word is on its way: then p has the response, or a dirty copy, or writes back
    pub given : (o p : ℕ) → o < n → b.entry ≡ BusyExclusive o p false → Unheard b o p ⊎ ((b.revision ≡ DirtyTransfer o) × (is_handed (b.copy p) (b.want p) (b.ask p) (b.response p) (b.back p) ≡ true))
    -- given to p, and written back by it before o is heard of: nobody has a copy, the home has the line, and who has been
    -- granted the block and waits still, waits with a marked read
    pub returned : (o p : ℕ) → b.entry ≡ BusyExclusive o p true → (b.revision ≡ DirtyTransfer o) × ((q : ℕ) → q < n → b.copy q ≡ NoCopy) × (b.line ≡ f) × ((q : ℕ) → q < n → is_granted (b.ask q) ≡ true → b.want q ≡ Reading true)
    -- an invalidation of q, or its acknowledgement: its requester waits for it, and is the one that the entry names; q has
    -- no copy that it may write, and none is on its way
    pub invalidated : (q r : ℕ) → q < n → is_for r (b.invalidation q) ≡ true → (grants (b.ask r) ≡ true) × (names b.entry r ≡ true) × (has_exclusive (b.copy q) ≡ false) × (grants (b.ask q) ≡ false) × (was_given (b.want q) (b.ask q) (b.response q) ≡ false)
    -- an upgrade of a sharer has its copy, which is the home's line, where a bit names one node
    pub upgrading : (q : ℕ) (s : ℕ → Bool) → q < n → b.sharing ≡ Single → b.entry ≡ SharedBy s → s q ≡ true → b.ask q ≡ Upgrade → b.copy q ≡ Shared b.line
    -- a victim slot that is busy has an intervention for its block; one that has seen it has its write-back or the busy
    -- acknowledgement; any other has its write-back or one of the acknowledgements
    pub busy : (q : ℕ) → q < n → b.victim q ≡ Busy → has_intervention (b.intervention q) ≡ true
    pub seen : (q : ℕ) → q < n → b.victim q ≡ Seen → (is_write_back (b.back q) ≡ true) ⊎ (is_busy_ack (b.back q) ≡ true)
    pub taken : (q : ℕ) → q < n → b.victim q ≡ Taken → (is_write_back (b.back q) ≡ true) ⊎ ((is_ack (b.back q) ≡ true) ⊎ (is_busy_ack (b.back q) ≡ true))
