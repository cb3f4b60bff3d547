-- The invariant of one block, part by part: fourteen of one node, three of the home alone. Each has a sentence that says
-- what it means, and which race it settles. `n` is the number of actors, `f` the line of the one memory cell.
use Rattle.std.specs.Prelude.{◌≡◌, ℕ, ◌+◌, ◌<◌, true, false, ◌≢◌, ◌⊎◌}
use Rattle.og_block.specs.State.{Copy, NoCopy, Shared, Clean, Dirty, Want, Idle, Reading, Writing, Upgrading, Poisoning, Ask, NoAsk, Read, ReadExclusive, Upgrade, SharedReply, SpeculativeReply, ExclusiveReply, UpgradeReply, NegativeAck, PoisonError, PoisonRead, PoisonWait, PoisonReply, Response, NoResponse, SharedResponse, ExclusiveResponse, OwnerAck, Back, NoBack, WriteBack, WriteBackAck, WriteBackBusyAck, Victim, Free, Taken, Busy, Seen, Intervention, NoIntervention, InterveneShared, InterveneExclusive, IntervenePoison, Invalidation, NoInvalidation, Invalidate, InvalidateAck, Entry, Unowned, SharedBy, Exclusive, BusyShared, BusyExclusive, BusyPoison, PoisonBy, Revision, NoRevision, SharingWriteBack, SharingTransfer, DirtyTransfer, PoisonBack, PoisonClean, Single, Block}
use Rattle.og_block.specs.Rows.{has_intervention}
pub use Rattle.og_block.specs.Views.{is_holder, is_sharer, is_asked, awaits_shared, awaits_exclusive, awaits_poison, waits_poison, waits_shared, waits_exclusive, grants, was_given, is_write_back, owns, given_line, covers_memory, will_fill, trusts, trusts_at, is_invalidate, is_for, is_shared, is_upgrade, is_upgrade_reply, grants_upgrade, is_spent, pending}

-- every number in the entry is an actor's, and a busy entry's requester isn't its owner
abbrev pub Inside : ℕ → Entry → Type 0
Inside n (Exclusive o) = o < n
Inside n (BusyShared o p) = (o < n) × (p < n) × (o ≢ p)
Inside n (BusyExclusive o p r) = (o < n) × (p < n) × (o ≢ p)
Inside n (BusyPoison o p) = (o < n) × (p < n) × (o ≢ p)
Inside n (PoisonBy p) = p < n
Inside n e = Unit {0}

module _ {L : Type 0} where
  abbrev pub Fits_ask : Want → Ask L → Response L → ℕ → Type 0
  Fits_ask Idle NoAsk NoResponse k = k ≡ 0
  Fits_ask (Reading m) Read NoResponse k = k ≡ 0
  Fits_ask (Reading m) NegativeAck NoResponse k = k ≡ 0
  Fits_ask (Reading m) PoisonError NoResponse k = k ≡ 0
  Fits_ask (Reading m) (SharedReply l) NoResponse k = k ≡ 0
  Fits_ask (Reading m) (ExclusiveReply l d) NoResponse k = (k ≡ 0) × (d ≡ 0)
  Fits_ask (Reading m) (SpeculativeReply l) NoResponse k = k ≡ 0
  Fits_ask (Reading m) (SpeculativeReply l) (SharedResponse v) k = k ≡ 0
  Fits_ask (Reading m) (SpeculativeReply l) OwnerAck k = k ≡ 0
  Fits_ask Writing ReadExclusive NoResponse k = k ≡ 0
  Fits_ask Writing NegativeAck NoResponse k = k ≡ 0
  Fits_ask Writing PoisonError NoResponse k = k ≡ 0
  Fits_ask Writing (ExclusiveReply l d) NoResponse k = Unit {0}
  Fits_ask Writing (SpeculativeReply l) NoResponse k = k ≡ 0
  Fits_ask Writing (SpeculativeReply l) (ExclusiveResponse m) k = k ≡ 0
  Fits_ask Writing (SpeculativeReply l) OwnerAck k = k ≡ 0
  Fits_ask Upgrading Upgrade NoResponse k = k ≡ 0
  Fits_ask Upgrading NegativeAck NoResponse k = k ≡ 0
  Fits_ask Upgrading PoisonError NoResponse k = k ≡ 0
  Fits_ask Upgrading (UpgradeReply d) NoResponse k = Unit {0}
  Fits_ask Upgrading (ExclusiveReply l d) NoResponse k = Unit {0}
  Fits_ask Poisoning PoisonRead NoResponse k = k ≡ 0
  Fits_ask Poisoning NegativeAck NoResponse k = k ≡ 0
  Fits_ask Poisoning PoisonWait NoResponse k = k ≡ 0
  Fits_ask Poisoning (PoisonReply l d) NoResponse k = Unit {0}
  Fits_ask w a r k = ⊥

  -- 1. The request, its reply, the owner's response and the acknowledgements that came belong together: so no part meets
  -- a node that waits for nothing, or for something else.
  abbrev pub Asks : Block L → ℕ → Type 0
  Asks b q = Fits_ask (b.want q) (b.ask q) (b.response q) (b.acks q)

  abbrev pub Fits_copy : Victim → Copy L → Want → Type 0
  Fits_copy Free c Idle = Unit {0}
  Fits_copy Free NoCopy w = Unit {0}
  Fits_copy Free (Shared l) Upgrading = Unit {0}
  Fits_copy Free c w = ⊥
  Fits_copy v NoCopy Idle = Unit {0}
  Fits_copy v c w = ⊥

  -- 2. A node with a request has no copy, but an upgrade may have its shared one; a node with a victim has neither copy
  -- nor request: so a fill meets an empty way, and an intervention finds copy, request or victim, and never two of them.
  abbrev pub Rests : Block L → ℕ → Type 0
  Rests b q = Fits_copy (b.victim q) (b.copy q) (b.want q)

  abbrev pub Fits_back : Victim → Back L → Intervention → Type 0
  Fits_back Free NoBack i = Unit {0}
  Fits_back Taken (WriteBack l) i = Unit {0}
  Fits_back Taken WriteBackAck i = i ≡ NoIntervention
  Fits_back Taken WriteBackBusyAck i = has_intervention i ≡ true
  Fits_back Busy NoBack i = has_intervention i ≡ true
  Fits_back Seen (WriteBack l) i = i ≡ NoIntervention
  Fits_back Seen WriteBackBusyAck i = i ≡ NoIntervention
  Fits_back v k i = ⊥

  -- 3. A victim slot is taken exactly while its write-back, its acknowledgement, or the intervention that it is to ignore
  -- is under way: so an acknowledgement meets its slot, and the slot outlives the intervention that crossed the write-back.
  abbrev pub Backs : Block L → ℕ → Type 0
  Backs b q = Fits_back (b.victim q) (b.back q) (b.intervention q)

  -- 4. Whoever has the only copy, was granted it, or gives it back is the holder that the home's side names; of which
  -- there is one at most. So there are never two writers, and a write-back meets an entry that names its sender.
  abbrev pub Owned : Block L → ℕ → Type 0
  Owned b q = owns (b.copy q) (b.want q) (b.ask q) (b.response q) (b.back q) ≡ true → is_holder b.entry b.revision q ≡ true

  -- 5. A node whose write-back has been served is not the holder, as long as its slot is taken: so a busy
  -- acknowledgement and its late intervention can't meet a block that the node has got again.
  abbrev pub Spent : Block L → ℕ → Type 0
  Spent b q = is_spent (b.victim q) (b.back q) ≡ true → is_holder b.entry b.revision q ≡ false

  -- 6. A speculative reply without the owner's response, at a read or an exclusive read, and a busy entry that names this
  -- requester and whose owner hasn't answered, are one and the same; likewise for the mover. So the response that comes is
  -- of the kind that was asked for, one comes for each speculative reply, and none without.
  abbrev pub Waits : Block L → ℕ → Type 0
  Waits b q = (waits_shared (b.want q) (b.ask q) (b.response q) ≡ awaits_shared b.entry b.revision q) × (waits_exclusive (b.want q) (b.ask q) (b.response q) ≡ awaits_exclusive b.entry b.revision q) × (waits_poison (b.ask q) ≡ awaits_poison b.entry q)

  -- 7. A node with a shared copy, or with an unmarked read that will fill one, is a sharer that the home knows, or the
  -- holder, or an invalidation is on its way to it: so no shared copy outlives a write, be it filled before the
  -- invalidation comes or after.
  abbrev pub Trusted : Block L → ℕ → Type 0
  Trusted b q = trusts_at b q ≡ true → (is_sharer b.entry b.revision q ≡ true) ⊎ ((is_holder b.entry b.revision q ≡ true) ⊎ (is_invalidate (b.invalidation q) ≡ true))

  abbrev pub Intervened_by : Block L → ℕ → Victim → Back L → Intervention → Type 0
  Intervened_by b q Busy k i = Unit {0}
  Intervened_by b q v WriteBackBusyAck i = Unit {0}
  Intervened_by b q v k NoIntervention = is_asked b.entry b.revision q ≡ true → v ≡ Seen
  Intervened_by b q v k (InterveneShared r) = (b.entry ≡ BusyShared q r) × (b.revision ≡ NoRevision)
  Intervened_by b q v k (InterveneExclusive r) = (b.entry ≡ BusyExclusive q r false) × (b.revision ≡ NoRevision)
  Intervened_by b q v k (IntervenePoison r) = (b.entry ≡ BusyPoison q r) × (b.revision ≡ NoRevision)

  -- 8. An intervention is for the owner of a busy entry that hasn't answered, of that entry's kind and for its requester,
  -- and such an owner has one, or its victim slot has seen it; but for one that a victim slot is to ignore. So an
  -- intervention is answered once, and for the right requester.
  abbrev pub Intervened : Block L → ℕ → Type 0
  Intervened b q = Intervened_by b q (b.victim q) (b.back q) (b.intervention q)

  abbrev pub Early_by : Block L → ℕ → Victim → Back L → Type 0
  Early_by b q Seen (WriteBack l) = is_asked b.entry b.revision q ≡ true
  Early_by b q v k = Unit {0}

  -- 9. A victim slot that has seen the intervention while its write-back is still on its way belongs to the owner that
  -- a busy entry waits for: so that write-back is taken for the answer, and gets the busy acknowledgement.
  abbrev pub Early : Block L → ℕ → Type 0
  Early b q = Early_by b q (b.victim q) (b.back q)

  abbrev pub Sent_by : ℕ → Block L → ℕ → Invalidation → Type 0
  Sent_by n b q NoInvalidation = Unit {0}
  Sent_by n b q (Invalidate r) = (is_holder b.entry b.revision r ≡ true) × (r ≢ q) × (r < n)
  Sent_by n b q (InvalidateAck r) = (is_holder b.entry b.revision r ≡ true) × (r ≢ q) × (r < n) × (trusts_at b q ≡ false)

  -- 10. An invalidation or its acknowledgement is for the holder, which is another node; and after the acknowledgement the
  -- sender trusts no line any more. So no invalidation meets a clean or dirty copy, and an exclusive reply to a marked
  -- read was granted after all that the mark stands for.
  abbrev pub Sent : ℕ → Block L → ℕ → Type 0
  Sent n b q = Sent_by n b q (b.invalidation q)

  abbrev pub Fresh_copy : L → Copy L → Type 0
  Fresh_copy f NoCopy = Unit {0}
  Fresh_copy f (Shared l) = l ≡ f
  Fresh_copy f (Clean l) = l ≡ f
  Fresh_copy f (Dirty l) = l ≡ f

  abbrev pub Fresh_back : L → Back L → Type 0
  Fresh_back f (WriteBack l) = l ≡ f
  Fresh_back f k = Unit {0}

  abbrev pub Fresh_ask : L → L → Want → Ask L → Response L → Type 0
  Fresh_ask f m w (ExclusiveReply l d) r = l ≡ f
  Fresh_ask f m w (PoisonReply l d) r = l ≡ f
  Fresh_ask f m (Reading false) (SharedReply l) r = l ≡ f
  Fresh_ask f m w (SpeculativeReply l) NoResponse = l ≡ m
  Fresh_ask f m (Reading false) (SpeculativeReply l) OwnerAck = l ≡ f
  Fresh_ask f m (Reading false) (SpeculativeReply l) (SharedResponse v) = v ≡ f
  Fresh_ask f m Writing (SpeculativeReply l) OwnerAck = l ≡ f
  Fresh_ask f m Writing (SpeculativeReply l) (ExclusiveResponse x) = x ≡ f
  Fresh_ask f m w a r = Unit {0}

  -- 11. Each line that an access can meet is the cell's: in a copy, in a write-back, in a reply or response that will be
  -- filled. A speculative line is the home's memory, and no more, until the owner has said which line counts.
  abbrev pub Fresh : L → Block L → ℕ → Type 0
  Fresh f b q = Fresh_copy f (b.copy q) × Fresh_back f (b.back q) × Fresh_ask f b.line (b.want q) (b.ask q) (b.response q)

  -- 12. The home's memory is the cell's line, unless the holder has a dirty copy, writes one back, or is being given one:
  -- so the owner may answer without a line where its copy is clean or gone.
  abbrev pub Covered : L → Block L → ℕ → Type 0
  Covered f b q = is_holder b.entry b.revision q ≡ true → covers_memory (b.copy q) (b.want q) (b.ask q) (b.response q) (b.back q) ≡ false → b.line ≡ f

  abbrev pub Counted_by : Ask L → ℕ → ℕ → Type 0
  Counted_by (ExclusiveReply l d) k c = c + k ≡ d
  Counted_by (UpgradeReply d) k c = c + k ≡ d
  Counted_by (PoisonReply l d) k c = c + k ≡ d
  Counted_by a k c = c ≡ 0

  -- 13. The acknowledgements that came, and the invalidations and acknowledgements in flight, are as many as the reply
  -- names; without such a reply there are none. So a fill that has them all leaves no other copy.
  abbrev pub Counted : ℕ → Block L → ℕ → Type 0
  Counted n b q = Counted_by (b.ask q) (b.acks q) (pending n b q)

  -- 14. Upgrades: granted without a line, it finds its shared copy (where a bit names one node, an upgrade that is on its way
  -- and whose node is a sharer has its copy still); a holder trusts a shared copy only with a granted upgrade; and a
  -- holder's upgrade is never on its way. So an upgrade that lost the race is refused, and never meets the home's
  -- entry as the owner's; and an intervention that is answered meets no shared copy.
  pub record Upgrades (b : Block L) (q : ℕ) : Type 0 where
    pub granted : is_upgrade_reply (b.ask q) ≡ true → is_shared (b.copy q) ≡ true
    pub asked : b.sharing ≡ Single → is_upgrade (b.ask q) ≡ true → is_sharer b.entry b.revision q ≡ true → is_shared (b.copy q) ≡ true
    pub held : is_holder b.entry b.revision q ≡ true → trusts_at b q ≡ true → grants_upgrade (b.want q) (b.ask q) ≡ true
    pub not_held : is_upgrade (b.ask q) ≡ true → is_holder b.entry b.revision q ≡ false

  pub record Local (n : ℕ) (f : L) (b : Block L) (q : ℕ) : Type 0 where
    pub asks : Asks b q
    pub rests : Rests b q
    pub backs : Backs b q
    pub owned : Owned b q
    pub spent : Spent b q
    pub waits : Waits b q
    pub trusted : Trusted b q
    pub intervened : Intervened b q
    pub early : Early b q
    pub sent : Sent n b q
    pub fresh : Fresh f b q
    pub covered : Covered f b q
    pub counted : Counted n b q
    pub upgrades : Upgrades b q

  -- ---- the home alone

  -- a revision is from the owner of a busy entry, and of its kind; an entry whose requester's write-back has come waits for one
  abbrev pub Revised : Entry → Revision L → Type 0
  Revised (BusyShared o p) NoRevision = Unit {0}
  Revised (BusyShared o p) (SharingWriteBack s l) = s ≡ o
  Revised (BusyShared o p) (SharingTransfer s) = s ≡ o
  Revised (BusyExclusive o p false) NoRevision = Unit {0}
  Revised (BusyExclusive o p r) (DirtyTransfer s) = s ≡ o
  Revised (BusyPoison o p) NoRevision = Unit {0}
  Revised (BusyPoison o p) (PoisonBack s l) = s ≡ o
  Revised (BusyPoison o p) (PoisonClean s) = s ≡ o
  Revised (BusyPoison o p) v = ⊥
  Revised (BusyShared o p) v = ⊥
  Revised (BusyExclusive o p r) v = ⊥
  Revised e NoRevision = Unit {0}
  Revised e v = ⊥

  -- where there is no holder, the cell's line is the memory's, or it is on its way to it
  abbrev pub Memory : L → L → Entry → Revision L → Type 0
  Memory f m Unowned v = m ≡ f
  Memory f m (SharedBy s) v = m ≡ f
  Memory f m (BusyShared o p) (SharingWriteBack s l) = l ≡ f
  Memory f m (BusyShared o p) (SharingTransfer s) = m ≡ f
  Memory f m (BusyExclusive o p true) v = m ≡ f
  Memory f m (BusyPoison o p) (PoisonBack s l) = l ≡ f
  Memory f m (BusyPoison o p) (PoisonClean s) = m ≡ f
  Memory f m e v = Unit {0}

  pub record Home (n : ℕ) (f : L) (b : Block L) : Type 0 where
    pub revised : Revised b.entry b.revision
    pub inside : Inside n b.entry
    pub memory : Memory f b.line b.entry b.revision

  pub record Invariant (n : ℕ) (f : L) (b : Block L) : Type 0 where
    pub each : (q : ℕ) → q < n → Local n f b q
    pub home : Home n f b
