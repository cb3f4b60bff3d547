-- What the home's side says of a node, and what a node says of itself: the words in which the invariant is stated.
use Rattle.std.specs.Prelude.{ℕ, Bool, true, false, cond, nat_eq}
use Rattle.og_block.specs.State.{Copy, Shared, Want, Reading, Writing, Upgrading, Ask, Upgrade, SharedReply, SpeculativeReply, ExclusiveReply, UpgradeReply, PoisonWait, PoisonReply, Response, NoResponse, ExclusiveResponse, Back, WriteBack, Victim, Free, Invalidation, NoInvalidation, Invalidate, InvalidateAck, Entry, SharedBy, Exclusive, BusyShared, BusyExclusive, BusyPoison, PoisonBy, Revision, NoRevision, Block, count}
use Rattle.og_block.specs.Rows.{has_exclusive, is_dirty, has_response}

-- ---- the home

-- the requester of an entry that is busy for the mover
abbrev pub awaits_poison : Entry → ℕ → Bool
awaits_poison (BusyPoison o p) q = nat_eq p q
awaits_poison e q = false

module _ {L : Type 0} where
  -- the holder: the node that has the only copy, will have it, or is giving it back; there is one at most
  abbrev pub is_holder : Entry → Revision L → ℕ → Bool
  is_holder (Exclusive o) v q = nat_eq o q
  is_holder (BusyShared o p) NoRevision q = nat_eq o q
  is_holder (BusyExclusive o p false) NoRevision q = nat_eq o q
  is_holder (BusyExclusive o p false) v q = nat_eq p q
  is_holder (BusyPoison o p) NoRevision q = nat_eq o q
  is_holder (PoisonBy p) v q = nat_eq p q
  is_holder e v q = false

  abbrev pub is_sharer : Entry → Revision L → ℕ → Bool
  is_sharer (SharedBy s) v q = s q
  is_sharer (BusyShared o p) NoRevision q = false
  is_sharer (BusyShared o p) v q = cond (nat_eq o q) true (nat_eq p q)
  is_sharer e v q = false

  -- the owner of a busy entry that hasn't answered
  abbrev pub is_asked : Entry → Revision L → ℕ → Bool
  is_asked (BusyShared o p) NoRevision q = nat_eq o q
  is_asked (BusyExclusive o p false) NoRevision q = nat_eq o q
  is_asked (BusyPoison o p) NoRevision q = nat_eq o q
  is_asked e v q = false

  -- the requester of such an entry
  abbrev pub awaits_shared : Entry → Revision L → ℕ → Bool
  awaits_shared (BusyShared o p) NoRevision q = nat_eq p q
  awaits_shared e v q = false

  abbrev pub awaits_exclusive : Entry → Revision L → ℕ → Bool
  awaits_exclusive (BusyExclusive o p false) NoRevision q = nat_eq p q
  awaits_exclusive e v q = false

-- ---- a node

abbrev pub is_invalidate : Invalidation → Bool
is_invalidate (Invalidate r) = true
is_invalidate i = false

-- an invalidation of which p waits to hear
abbrev pub is_for : ℕ → Invalidation → Bool
is_for p NoInvalidation = false
is_for p (Invalidate r) = nat_eq r p
is_for p (InvalidateAck r) = nat_eq r p

module _ {L : Type 0} where
  abbrev pub waits_poison : Ask L → Bool
  waits_poison PoisonWait = true
  waits_poison a = false

  abbrev pub waits_shared : Want → Ask L → Response L → Bool
  waits_shared (Reading m) (SpeculativeReply l) NoResponse = true
  waits_shared w a r = false

  abbrev pub waits_exclusive : Want → Ask L → Response L → Bool
  waits_exclusive Writing (SpeculativeReply l) NoResponse = true
  waits_exclusive w a r = false

  -- the home's reply makes it the holder
  abbrev pub grants : Ask L → Bool
  grants (ExclusiveReply l d) = true
  grants (UpgradeReply d) = true
  grants (PoisonReply l d) = true
  grants a = false

  -- so does the old owner's answer
  abbrev pub was_given : Want → Ask L → Response L → Bool
  was_given Writing (SpeculativeReply m) r = has_response r
  was_given w a r = false

  abbrev pub is_write_back : Back L → Bool
  is_write_back (WriteBack l) = true
  is_write_back k = false

  -- it has the only copy, will have it, or is giving it back
  abbrev pub owns : Copy L → Want → Ask L → Response L → Back L → Bool
  owns c w a r k = cond (has_exclusive c) true (cond (grants a) true (cond (is_write_back k) true (was_given w a r)))

  -- the owner's line is on its way to it, or there
  abbrev pub given_line : Want → Ask L → Response L → Bool
  given_line Writing (SpeculativeReply m) (ExclusiveResponse l) = true
  given_line w a r = false

  -- the memory line may be old, since this node has the newest or writes it
  abbrev pub covers_memory : Copy L → Want → Ask L → Response L → Back L → Bool
  covers_memory c w a r k = cond (is_dirty c) true (cond (is_write_back k) true (given_line w a r))

  abbrev pub will_fill : Want → Ask L → Response L → Bool
  will_fill (Reading false) (SharedReply l) r = true
  will_fill (Reading false) (SpeculativeReply m) r = has_response r
  will_fill w a r = false

  -- a load may answer from its shared copy, now or after a fill
  abbrev pub trusts : Copy L → Want → Ask L → Response L → Bool
  trusts (Shared l) w a r = true
  trusts c w a r = will_fill w a r

  abbrev pub trusts_at : Block L → ℕ → Bool
  trusts_at b q = trusts (b.copy q) (b.want q) (b.ask q) (b.response q)

  abbrev pub is_shared : Copy L → Bool
  is_shared (Shared l) = true
  is_shared c = false

  abbrev pub is_upgrade : Ask L → Bool
  is_upgrade Upgrade = true
  is_upgrade a = false

  abbrev pub is_upgrade_reply : Ask L → Bool
  is_upgrade_reply (UpgradeReply d) = true
  is_upgrade_reply a = false

  -- an upgrade that was granted, with the line or without
  abbrev pub grants_upgrade : Want → Ask L → Bool
  grants_upgrade w (UpgradeReply d) = true
  grants_upgrade Upgrading (ExclusiveReply l d) = true
  grants_upgrade w a = false

  -- a victim that was written back has no stake any more
  abbrev pub is_spent : Victim → Back L → Bool
  is_spent Free k = false
  is_spent v (WriteBack l) = false
  is_spent v k = true

  -- the invalidations and acknowledgements in flight of which q waits to hear
  abbrev pub pending : ℕ → Block L → ℕ → ℕ
  pending n b q = count n (λ k. is_for q (b.invalidation k))
