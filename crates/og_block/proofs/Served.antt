-- No message is ever met without a row.
use Rattle.std.proofs.Common.{◌≡◌, ℕ, ◌<◌, true, false, nat_eq, arith, ◌≢◌, ◌⊎◌, inl, inr, refl}
use Rattle.std.proofs.lemmas.Bool.{cases_Bool}
use Rattle.std.proofs.lemmas.Bool.Decides.{nat_tests}
use Rattle.og_block.specs.State.{Copy, NoCopy, Clean, Dirty, Want, Idle, Read, ReadExclusive, Upgrade, PoisonRead, WriteBack, WriteBackBusyAck, Victim, Free, Taken, Busy, Seen, Intervention, NoIntervention, InterveneShared, InterveneExclusive, IntervenePoison, Invalidation, NoInvalidation, Invalidate, InvalidateAck, Entry, Unowned, SharedBy, Exclusive, BusyShared, BusyExclusive, BusyPoison, PoisonBy, Revision, NoRevision, SharingWriteBack, SharingTransfer, DirtyTransfer, PoisonBack, PoisonClean, Sharing, Single, Grouped, Block}
use Rattle.og_block.specs.Rows.{has_exclusive, has_intervention, Read_unowned, Read_shared, Read_by_owner, Read_owned, Read_busy, Read_poison, Read_exclusive_unowned, Read_exclusive_shared, Read_exclusive_by_owner, Read_exclusive_owned, Read_exclusive_busy, Read_exclusive_poison, Upgrade_shared, Upgrade_grouped, Upgrade_refused, Upgrade_poison, Write_back_owner, Write_back_busy_shared, Write_back_busy_exclusive, Write_back_requester, Write_back_busy_poison, Revision_sharing_write_back, Revision_sharing_transfer, Revision_dirty_transfer, Revision_returned, Revision_poison_back, Revision_poison_clean, Poison_read_unowned, Poison_read_shared, Poison_read_owned, Poison_read_busy, Invalidated as Invalidated_row, Acknowledged, Intervention_victim_busy, Intervention_victim_first, Intervention_shared_dirty, Intervention_shared_clean, Intervention_shared_none, Intervention_exclusive_dirty, Intervention_exclusive_clean, Intervention_poison_dirty, Intervention_poison_clean, Write_back_busy_ack_seen, Write_back_busy_ack_first}
use Rattle.og_block.specs.Invariant.{Invariant, Local, Home, is_shared, is_holder}
use Rattle.og_block.specs.Message.{Asked, Returned, Revised, Intervened, Invalidated, MeetsRow, MayWait}

module _ {L : Type 0} where
  -- ---- requests, by the entry

  pub read : (n q : ℕ) (b : Block L) (e : Entry) → b.entry ≡ e → q < n → b.ask q ≡ Read → MeetsRow n b (Asked q Read)
  read n q b Unowned e lt a = record { row = Read_unowned q; may = (a, e); inside = lt; taken = λ s. grind (arith, nat_tests) }
  read n q b (SharedBy s) e lt a = record { row = Read_shared q s; may = (a, e); inside = lt; taken = λ s. grind (arith, nat_tests) }
  read n q b (Exclusive o) e lt a = elim (cases_Bool (nat_eq o q)) [ inl same ↦ mine (grind (arith, nat_tests)) | inr other ↦ record { row = Read_owned q o; may = (a, e, grind (arith, nat_tests)); inside = lt; taken = λ s. grind (arith, nat_tests) } ]
    where
      mine : o ≡ q → MeetsRow n b (Asked q Read)
      mine same = record { row = Read_by_owner q; may = (a, cc); inside = lt; taken = λ s. grind (arith, nat_tests) }
  read n q b (BusyShared o p) e lt a = record { row = Read_busy q; may = (a, grind arith); inside = lt; taken = λ s. grind (arith, nat_tests) }
  read n q b (BusyExclusive o p w) e lt a = record { row = Read_busy q; may = (a, grind arith); inside = lt; taken = λ s. grind (arith, nat_tests) }
  read n q b (BusyPoison o p) e lt a = record { row = Read_busy q; may = (a, grind arith); inside = lt; taken = λ s. grind (arith, nat_tests) }
  read n q b (PoisonBy o) e lt a = record { row = Read_poison q o; may = (a, e); inside = lt; taken = λ s. grind (arith, nat_tests) }

  pub exclusive : (n q : ℕ) (b : Block L) (e : Entry) → b.entry ≡ e → q < n → b.ask q ≡ ReadExclusive → MeetsRow n b (Asked q ReadExclusive)
  exclusive n q b Unowned e lt a = record { row = Read_exclusive_unowned q; may = (a, e); inside = lt; taken = λ s. grind (arith, nat_tests) }
  exclusive n q b (SharedBy s) e lt a = record { row = Read_exclusive_shared q s; may = (a, e); inside = lt; taken = λ s. grind (arith, nat_tests) }
  exclusive n q b (Exclusive o) e lt a = elim (cases_Bool (nat_eq o q)) [ inl same ↦ mine (grind (arith, nat_tests)) | inr other ↦ record { row = Read_exclusive_owned q o; may = (a, e, grind (arith, nat_tests)); inside = lt; taken = λ s. grind (arith, nat_tests) } ]
    where
      mine : o ≡ q → MeetsRow n b (Asked q ReadExclusive)
      mine same = record { row = Read_exclusive_by_owner q; may = (a, cc); inside = lt; taken = λ s. grind (arith, nat_tests) }
  exclusive n q b (BusyShared o p) e lt a = record { row = Read_exclusive_busy q; may = (a, grind arith); inside = lt; taken = λ s. grind (arith, nat_tests) }
  exclusive n q b (BusyExclusive o p w) e lt a = record { row = Read_exclusive_busy q; may = (a, grind arith); inside = lt; taken = λ s. grind (arith, nat_tests) }
  exclusive n q b (BusyPoison o p) e lt a = record { row = Read_exclusive_busy q; may = (a, grind arith); inside = lt; taken = λ s. grind (arith, nat_tests) }
  exclusive n q b (PoisonBy o) e lt a = record { row = Read_exclusive_poison q o; may = (a, e); inside = lt; taken = λ s. grind (arith, nat_tests) }

  pub upgrade : (n q : ℕ) (b : Block L) (e : Entry) → b.entry ≡ e → b.entry ≢ Exclusive q → q < n → b.ask q ≡ Upgrade → MeetsRow n b (Asked q Upgrade)
  upgrade n q b (SharedBy s) e ne lt a = elim (cases_Bool (s q)) [ inl is ↦ granted is b.sharing refl | inr not ↦ record { row = Upgrade_refused q; may = (a, grind arith); inside = lt; taken = λ s. grind (arith, nat_tests) } ]
    where
      granted : s q ≡ true → (k : Sharing) → b.sharing ≡ k → MeetsRow n b (Asked q Upgrade)
      granted is Single k = record { row = Upgrade_shared q s; may = (a, e, is, k); inside = lt; taken = λ s. grind (arith, nat_tests) }
      granted is (Grouped g) k = record { row = Upgrade_grouped q s; may = (a, e, is, grind arith); inside = lt; taken = λ s. grind (arith, nat_tests) }
  upgrade n q b (PoisonBy o) e ne lt a = record { row = Upgrade_poison q o; may = (a, e); inside = lt; taken = λ s. grind (arith, nat_tests) }
  upgrade n q b x e ne lt a = record { row = Upgrade_refused q; may = (a, grind (arith, nat_tests)); inside = lt; taken = λ s. grind (arith, nat_tests) }

  pub poison : (n q : ℕ) (b : Block L) (e : Entry) → b.entry ≡ e → b.entry ≢ Exclusive q → ((o : ℕ) → b.entry ≢ PoisonBy o) → q < n → b.ask q ≡ PoisonRead → MeetsRow n b (Asked q PoisonRead)
  poison n q b Unowned e ne np lt a = record { row = Poison_read_unowned q; may = (a, e); inside = lt; taken = λ s. grind (arith, nat_tests) }
  poison n q b (SharedBy s) e ne np lt a = record { row = Poison_read_shared q s; may = (a, e); inside = lt; taken = λ s. grind (arith, nat_tests) }
  poison n q b (Exclusive o) e ne np lt a = record { row = Poison_read_owned q o; may = (a, e, λ same. ne (cc)); inside = lt; taken = λ s. grind (arith, nat_tests) }
  poison n q b (PoisonBy o) e ne np lt a = absurd (np o e)
  poison n q b x e ne np lt a = record { row = Poison_read_busy q; may = (a, grind arith); inside = lt; taken = λ s. grind (arith, nat_tests) }

  -- ---- a write-back, by the entry: the mover has none

  pub write_back : (n q m : ℕ) (l : L) (b : Block L) (e : Entry) → b.entry ≡ e → q < n → b.back q ≡ WriteBack l → is_holder b.entry b.revision q ≡ true → ((p : ℕ) → b.entry ≡ PoisonBy p → p ≢ q) → MeetsRow n b (Returned q (WriteBack l))
  write_back n q m l b (Exclusive o) e lt k h np = let same : o ≡ q = grind (arith, nat_tests) in record { row = Write_back_owner q l; may = (k, cc); inside = lt; taken = λ s. grind (arith, nat_tests) }
  write_back n q m l b (BusyShared o p) e lt k h np = let same : o ≡ q = grind (arith, nat_tests) in record { row = Write_back_busy_shared q p l; may = (k, cc); inside = lt; taken = λ s. grind (arith, nat_tests) }
  write_back n q m l b (BusyPoison o p) e lt k h np = let same : o ≡ q = grind (arith, nat_tests) in record { row = Write_back_busy_poison q p l; may = (k, cc); inside = lt; taken = λ s. grind (arith, nat_tests) }
  write_back n q m l b (PoisonBy p) e lt k h np = absurd (np p e (grind (arith, nat_tests)))
  write_back n q m l b (BusyExclusive o p false) e lt k h np = elim (cases_Bool (nat_eq o q)) [ inl same ↦ owner (grind (arith, nat_tests)) | inr other ↦ requester (grind (arith, nat_tests)) (grind (arith, nat_tests)) ]
    where
      owner : o ≡ q → MeetsRow n b (Returned q (WriteBack l))
      owner same = record { row = Write_back_busy_exclusive q p l; may = (k, cc); inside = lt; taken = λ s. grind (arith, nat_tests) }

      requester : o ≢ q → p ≡ q → MeetsRow n b (Returned q (WriteBack l))
      requester ne same = record { row = Write_back_requester q o l; may = (k, cc, ne); inside = lt; taken = λ s. grind (arith, nat_tests) }
  write_back n q m l b x e lt k h np = absurd (grind (arith, nat_tests))

  pub busy_ack : (n q : ℕ) (b : Block L) (v : Victim) → b.victim q ≡ v → (v ≡ Taken) ⊎ (v ≡ Seen) → q < n → b.back q ≡ WriteBackBusyAck → MeetsRow n b (Returned q WriteBackBusyAck)
  busy_ack n q b Taken e c lt k = record { row = Write_back_busy_ack_first q; may = (k, e); inside = lt; taken = λ s. grind (arith, nat_tests) }
  busy_ack n q b Seen e c lt k = record { row = Write_back_busy_ack_seen q; may = (k, e); inside = lt; taken = λ s. grind (arith, nat_tests) }
  busy_ack n q b x e c lt k = absurd (grind arith)

  -- ---- a revision, by the entry

  pub revision : (n : ℕ) (f : L) (b : Block L) (v : Revision L) (e : Entry) → b.revision ≡ v → b.entry ≡ e → v ≢ NoRevision → Home n f b → MeetsRow n b (Revised v)
  revision n f b (SharingWriteBack s l) (BusyShared o p) ev ee there home = let same : s ≡ o = grind arith in record { row = Revision_sharing_write_back o p l; may = (cc, ee); inside = grind arith; taken = λ s. grind (arith, nat_tests) }
  revision n f b (SharingTransfer s) (BusyShared o p) ev ee there home = let same : s ≡ o = grind arith in record { row = Revision_sharing_transfer o p; may = (cc, ee); inside = grind arith; taken = λ s. grind (arith, nat_tests) }
  revision n f b (DirtyTransfer s) (BusyExclusive o p false) ev ee there home = let same : s ≡ o = grind arith in record { row = Revision_dirty_transfer o p; may = (cc, ee); inside = grind arith; taken = λ s. grind (arith, nat_tests) }
  revision n f b (DirtyTransfer s) (BusyExclusive o p true) ev ee there home = let same : s ≡ o = grind arith in record { row = Revision_returned o p; may = (cc, ee); inside = grind arith; taken = λ s. grind (arith, nat_tests) }
  revision n f b (PoisonBack s l) (BusyPoison o p) ev ee there home = let same : s ≡ o = grind arith in record { row = Revision_poison_back o p l; may = (cc, ee); inside = grind arith; taken = λ s. grind (arith, nat_tests) }
  revision n f b (PoisonClean s) (BusyPoison o p) ev ee there home = let same : s ≡ o = grind arith in record { row = Revision_poison_clean o p; may = (cc, ee); inside = grind arith; taken = λ s. grind (arith, nat_tests) }
  revision n f b v e ev ee there home = absurd (grind arith)

  -- ---- invalidations

  pub not_writable : (n : ℕ) (f : L) (q r : ℕ) (b : Block L) → Invariant n f b → q < n → b.invalidation q ≡ Invalidate r → has_exclusive (b.copy q) ≡ false
  not_writable n f q r b inv lt e = let h : Local n f b q = inv.each q lt in grind (arith, nat_tests)

  pub invalidation : (n : ℕ) (f : L) (q : ℕ) (b : Block L) (i : Invalidation) → Invariant n f b → q < n → b.invalidation q ≡ i → i ≢ NoInvalidation → MeetsRow n b (Invalidated q i)
  invalidation n f q b NoInvalidation inv lt e there = absurd (there refl)
  invalidation n f q b (Invalidate r) inv lt e there = record { row = Invalidated_row q r; may = (e, not_writable n f q r b inv lt e); inside = lt; taken = λ s. grind (arith, nat_tests) }
  invalidation n f q b (InvalidateAck r) inv lt e there = record { row = Acknowledged q r; may = e; inside = lt; taken = λ s. grind (arith, nat_tests) }

  -- ---- interventions

  pub not_shared : (n : ℕ) (f : L) (q : ℕ) (b : Block L) → Local n f b q → has_intervention (b.intervention q) ≡ true → b.victim q ≡ Free → b.want q ≡ Idle → is_shared (b.copy q) ≡ false
  not_shared n f q b h i v w = grind (arith, nat_tests)

  by_copy : (n q : ℕ) (b : Block L) (i : Intervention) (c : Copy L) → b.intervention q ≡ i → b.copy q ≡ c → q < n → i ≢ NoIntervention → is_shared c ≡ false → b.victim q ≡ Free → b.want q ≡ Idle → MeetsRow n b (Intervened q i)
  by_copy n q b (InterveneShared r) NoCopy ei ec lt there sh v w = record { row = Intervention_shared_none q r; may = (ei, v, w, ec); inside = lt; taken = λ s. grind (arith, nat_tests) }
  by_copy n q b (InterveneShared r) (Clean l) ei ec lt there sh v w = record { row = Intervention_shared_clean q r l; may = (ei, v, w, ec); inside = lt; taken = λ s. grind (arith, nat_tests) }
  by_copy n q b (InterveneShared r) (Dirty l) ei ec lt there sh v w = record { row = Intervention_shared_dirty q r l; may = (ei, v, w, ec); inside = lt; taken = λ s. grind (arith, nat_tests) }
  by_copy n q b (InterveneExclusive r) (Dirty l) ei ec lt there sh v w = record { row = Intervention_exclusive_dirty q r l; may = (ei, v, w, ec); inside = lt; taken = λ s. grind (arith, nat_tests) }
  by_copy n q b (InterveneExclusive r) c ei ec lt there sh v w = record { row = Intervention_exclusive_clean q r; may = (ei, v, w, grind arith); inside = lt; taken = λ s. grind (arith, nat_tests) }
  by_copy n q b (IntervenePoison r) (Dirty l) ei ec lt there sh v w = record { row = Intervention_poison_dirty q r l; may = (ei, v, w, ec); inside = lt; taken = λ s. grind (arith, nat_tests) }
  by_copy n q b (IntervenePoison r) c ei ec lt there sh v w = record { row = Intervention_poison_clean q r; may = (ei, v, w, grind arith); inside = lt; taken = λ s. grind (arith, nat_tests) }
  by_copy n q b i c ei ec lt there sh v w = absurd (grind arith)

  pub intervention : (n : ℕ) (f : L) (q : ℕ) (b : Block L) (i : Intervention) (v : Victim) (w : Want) → Local n f b q → q < n → b.intervention q ≡ i → i ≢ NoIntervention → b.victim q ≡ v → b.want q ≡ w → MeetsRow n b (Intervened q i) ⊎ MayWait b (Intervened q i)
  intervention n f q b i Free Idle h lt ei there ev ew = inl (by_copy n q b i (b.copy q) ei refl lt there (not_shared n f q b h (is_there i ei there) ev ew) ev ew)
    where
      is_there : (i : Intervention) → b.intervention q ≡ i → i ≢ NoIntervention → has_intervention (b.intervention q) ≡ true
      is_there NoIntervention e there = absurd (there refl)
      is_there x e there = grind arith
  intervention n f q b i Taken Idle h lt ei there ev ew = inl (record { row = Intervention_victim_first q; may = (is_there i ei there, ev); inside = lt; taken = λ s. grind (arith, nat_tests) })
    where
      is_there : (i : Intervention) → b.intervention q ≡ i → i ≢ NoIntervention → has_intervention (b.intervention q) ≡ true
      is_there NoIntervention e there = absurd (there refl)
      is_there x e there = grind arith
  intervention n f q b i Busy Idle h lt ei there ev ew = inl (record { row = Intervention_victim_busy q; may = (is_there i ei there, ev); inside = lt; taken = λ s. grind (arith, nat_tests) })
    where
      is_there : (i : Intervention) → b.intervention q ≡ i → i ≢ NoIntervention → has_intervention (b.intervention q) ≡ true
      is_there NoIntervention e there = absurd (there refl)
      is_there x e there = grind arith
  intervention n f q b i Seen Idle h lt ei there ev ew = absurd (let k = h.backs in grind arith)
  intervention n f q b i v w h lt ei there ev ew = inr (λ idle. cc)
