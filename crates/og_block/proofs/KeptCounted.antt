-- The part `counted` is kept by each row. Each lemma takes the parts that it needs, of q and of the actor that acts.
use Rattle.std.proofs.Common.{ℕ, ◌<◌, Bool, arith}
use Rattle.std.proofs.lemmas.Bool.Decides.{nat_tests}
use Rattle.og_block.proofs.HardCounted.{counted_Acknowledged, counted_Invalidated, counted_Poison_read_shared, counted_Read_exclusive_shared, counted_Upgrade_grouped, counted_Upgrade_shared}
use Rattle.og_block.specs.State.{Block}
use Rattle.og_block.specs.Rows.{Row, guard, apply, actor_of, Send_read, Send_read_exclusive, Send_upgrade, Load_shared, Load_clean, Load_dirty, Store, Forget, Evict, Read_unowned, Read_shared, Read_by_owner, Read_owned, Read_busy, Read_poison, Read_exclusive_unowned, Read_exclusive_shared, Read_exclusive_by_owner, Read_exclusive_owned, Read_exclusive_busy, Read_exclusive_poison, Upgrade_shared, Upgrade_grouped, Upgrade_refused, Upgrade_poison, Write_back_owner, Write_back_busy_shared, Write_back_busy_exclusive, Write_back_requester, Write_back_busy_poison, Revision_sharing_write_back, Revision_sharing_transfer, Revision_dirty_transfer, Revision_returned, Revision_poison_back, Revision_poison_clean, Poison_read_unowned, Poison_read_shared, Poison_read_owned, Poison_read_busy, Copy_in, Fill_shared, Again_shared, Fill_clean, Fill_shared_answered, Fill_shared_speculative, Again_speculative, Fill_exclusive, Fill_exclusive_answered, Fill_exclusive_speculative, Fill_upgrade, Fill_upgrade_line, Again_refused, Again_upgrade_refused, Poisoned, Poison_collected, Invalidated, Acknowledged, Intervention_victim_busy, Intervention_victim_first, Intervention_shared_dirty, Intervention_shared_clean, Intervention_shared_none, Intervention_exclusive_dirty, Intervention_exclusive_clean, Intervention_poison_dirty, Intervention_poison_clean, Write_back_ack, Write_back_busy_ack_seen, Write_back_busy_ack_first, Send_poison_read}
use Rattle.og_block.specs.Invariant.{Local, Home, Invariant, Asks, Backs, Counted, Intervened, Owned, Rests, Revised, Spent, Waits}

module _ {L : Type 0} where
  counted_Send_read : (n : ℕ) (f : L) (q : ℕ) (p : ℕ) (b : Block L) → guard (Send_read p) b → Counted n b q → Asks b q → Asks b p → Counted n (apply n (Send_read p) b) q
  counted_Send_read n f q p b g h0 h1 h2 = grind (arith, nat_tests)

  counted_Send_read_exclusive : (n : ℕ) (f : L) (q : ℕ) (p : ℕ) (b : Block L) → guard (Send_read_exclusive p) b → Counted n b q → Asks b q → Asks b p → Counted n (apply n (Send_read_exclusive p) b) q
  counted_Send_read_exclusive n f q p b g h0 h1 h2 = grind (arith, nat_tests)

  counted_Send_upgrade : (n : ℕ) (f : L) (q : ℕ) (p : ℕ) (l : L) (b : Block L) → guard (Send_upgrade p l) b → Counted n b q → Asks b q → Asks b p → Counted n (apply n (Send_upgrade p l) b) q
  counted_Send_upgrade n f q p l b g h0 h1 h2 = grind (arith, nat_tests)

  counted_Read_unowned : (n : ℕ) (f : L) (q : ℕ) (p : ℕ) (b : Block L) → guard (Read_unowned p) b → Counted n b q → Asks b q → Asks b p → Counted n (apply n (Read_unowned p) b) q
  counted_Read_unowned n f q p b g h0 h1 h2 = grind (arith, nat_tests)

  counted_Read_shared : (n : ℕ) (f : L) (q : ℕ) (p : ℕ) (s : ℕ → Bool) (b : Block L) → guard (Read_shared p s) b → Counted n b q → Asks b q → Asks b p → Counted n (apply n (Read_shared p s) b) q
  counted_Read_shared n f q p s b g h0 h1 h2 = grind (arith, nat_tests)

  counted_Read_by_owner : (n : ℕ) (f : L) (q : ℕ) (p : ℕ) (b : Block L) → guard (Read_by_owner p) b → Counted n b q → Asks b q → Asks b p → Counted n (apply n (Read_by_owner p) b) q
  counted_Read_by_owner n f q p b g h0 h1 h2 = grind (arith, nat_tests)

  counted_Read_owned : (n : ℕ) (f : L) (q : ℕ) (p : ℕ) (o : ℕ) (b : Block L) → guard (Read_owned p o) b → Counted n b q → Asks b q → Asks b p → Counted n (apply n (Read_owned p o) b) q
  counted_Read_owned n f q p o b g h0 h1 h2 = grind (arith, nat_tests)

  counted_Read_busy : (n : ℕ) (f : L) (q : ℕ) (p : ℕ) (b : Block L) → guard (Read_busy p) b → Counted n b q → Asks b q → Asks b p → Counted n (apply n (Read_busy p) b) q
  counted_Read_busy n f q p b g h0 h1 h2 = grind (arith, nat_tests)

  counted_Read_poison : (n : ℕ) (f : L) (q : ℕ) (p : ℕ) (o : ℕ) (b : Block L) → guard (Read_poison p o) b → Counted n b q → Asks b q → Asks b p → Counted n (apply n (Read_poison p o) b) q
  counted_Read_poison n f q p o b g h0 h1 h2 = grind (arith, nat_tests)

  counted_Read_exclusive_unowned : (n : ℕ) (f : L) (q : ℕ) (p : ℕ) (b : Block L) → guard (Read_exclusive_unowned p) b → Counted n b q → Asks b q → Asks b p → Counted n (apply n (Read_exclusive_unowned p) b) q
  counted_Read_exclusive_unowned n f q p b g h0 h1 h2 = grind (arith, nat_tests)

  counted_Read_exclusive_by_owner : (n : ℕ) (f : L) (q : ℕ) (p : ℕ) (b : Block L) → guard (Read_exclusive_by_owner p) b → Counted n b q → Asks b q → Asks b p → Counted n (apply n (Read_exclusive_by_owner p) b) q
  counted_Read_exclusive_by_owner n f q p b g h0 h1 h2 = grind (arith, nat_tests)

  counted_Read_exclusive_owned : (n : ℕ) (f : L) (q : ℕ) (p : ℕ) (o : ℕ) (b : Block L) → guard (Read_exclusive_owned p o) b → Counted n b q → Asks b q → Asks b p → Counted n (apply n (Read_exclusive_owned p o) b) q
  counted_Read_exclusive_owned n f q p o b g h0 h1 h2 = grind (arith, nat_tests)

  counted_Read_exclusive_busy : (n : ℕ) (f : L) (q : ℕ) (p : ℕ) (b : Block L) → guard (Read_exclusive_busy p) b → Counted n b q → Asks b q → Asks b p → Counted n (apply n (Read_exclusive_busy p) b) q
  counted_Read_exclusive_busy n f q p b g h0 h1 h2 = grind (arith, nat_tests)

  counted_Read_exclusive_poison : (n : ℕ) (f : L) (q : ℕ) (p : ℕ) (o : ℕ) (b : Block L) → guard (Read_exclusive_poison p o) b → Counted n b q → Asks b q → Asks b p → Counted n (apply n (Read_exclusive_poison p o) b) q
  counted_Read_exclusive_poison n f q p o b g h0 h1 h2 = grind (arith, nat_tests)

  counted_Upgrade_refused : (n : ℕ) (f : L) (q : ℕ) (p : ℕ) (b : Block L) → guard (Upgrade_refused p) b → Counted n b q → Asks b q → Asks b p → Counted n (apply n (Upgrade_refused p) b) q
  counted_Upgrade_refused n f q p b g h0 h1 h2 = grind (arith, nat_tests)

  counted_Upgrade_poison : (n : ℕ) (f : L) (q : ℕ) (p : ℕ) (o : ℕ) (b : Block L) → guard (Upgrade_poison p o) b → Counted n b q → Asks b q → Asks b p → Counted n (apply n (Upgrade_poison p o) b) q
  counted_Upgrade_poison n f q p o b g h0 h1 h2 = grind (arith, nat_tests)

  counted_Write_back_busy_poison : (n : ℕ) (f : L) (q : ℕ) (p : ℕ) (r : ℕ) (l : L) (b : Block L) → guard (Write_back_busy_poison p r l) b → Counted n b q → Asks b q → Asks b p → Rests b q → Rests b p → Backs b q → Backs b p → Owned b q → Owned b p → Waits b q → Waits b p → Intervened b q → Intervened b p → Revised b.entry b.revision → Spent b q → Counted n (apply n (Write_back_busy_poison p r l) b) q
  counted_Write_back_busy_poison n f q p r l b g h0 h1 h2 h3 h4 h5 h6 h7 h8 h9 h10 h11 h12 h13 h14 = grind (arith, nat_tests)

  counted_Revision_poison_back : (n : ℕ) (f : L) (q : ℕ) (o : ℕ) (r : ℕ) (l : L) (b : Block L) → guard (Revision_poison_back o r l) b → Counted n b q → Asks b q → Asks b o → Rests b q → Rests b o → Backs b q → Backs b o → Owned b q → Owned b o → Waits b q → Waits b o → Intervened b q → Intervened b o → Revised b.entry b.revision → Spent b q → Counted n (apply n (Revision_poison_back o r l) b) q
  counted_Revision_poison_back n f q o r l b g h0 h1 h2 h3 h4 h5 h6 h7 h8 h9 h10 h11 h12 h13 h14 = grind (arith, nat_tests)

  counted_Revision_poison_clean : (n : ℕ) (f : L) (q : ℕ) (o : ℕ) (r : ℕ) (b : Block L) → guard (Revision_poison_clean o r) b → Counted n b q → Asks b q → Asks b o → Rests b q → Rests b o → Backs b q → Backs b o → Owned b q → Owned b o → Waits b q → Waits b o → Intervened b q → Intervened b o → Revised b.entry b.revision → Spent b q → Counted n (apply n (Revision_poison_clean o r) b) q
  counted_Revision_poison_clean n f q o r b g h0 h1 h2 h3 h4 h5 h6 h7 h8 h9 h10 h11 h12 h13 h14 = grind (arith, nat_tests)

  counted_Poison_read_unowned : (n : ℕ) (f : L) (q : ℕ) (p : ℕ) (b : Block L) → guard (Poison_read_unowned p) b → Counted n b q → Asks b q → Asks b p → Counted n (apply n (Poison_read_unowned p) b) q
  counted_Poison_read_unowned n f q p b g h0 h1 h2 = grind (arith, nat_tests)

  counted_Poison_read_owned : (n : ℕ) (f : L) (q : ℕ) (p : ℕ) (o : ℕ) (b : Block L) → guard (Poison_read_owned p o) b → Counted n b q → Asks b q → Asks b p → Counted n (apply n (Poison_read_owned p o) b) q
  counted_Poison_read_owned n f q p o b g h0 h1 h2 = grind (arith, nat_tests)

  counted_Poison_read_busy : (n : ℕ) (f : L) (q : ℕ) (p : ℕ) (b : Block L) → guard (Poison_read_busy p) b → Counted n b q → Asks b q → Asks b p → Counted n (apply n (Poison_read_busy p) b) q
  counted_Poison_read_busy n f q p b g h0 h1 h2 = grind (arith, nat_tests)

  counted_Fill_shared : (n : ℕ) (f : L) (q : ℕ) (p : ℕ) (l : L) (b : Block L) → guard (Fill_shared p l) b → Counted n b q → Asks b q → Asks b p → Counted n (apply n (Fill_shared p l) b) q
  counted_Fill_shared n f q p l b g h0 h1 h2 = grind (arith, nat_tests)

  counted_Again_shared : (n : ℕ) (f : L) (q : ℕ) (p : ℕ) (l : L) (b : Block L) → guard (Again_shared p l) b → Counted n b q → Asks b q → Asks b p → Counted n (apply n (Again_shared p l) b) q
  counted_Again_shared n f q p l b g h0 h1 h2 = grind (arith, nat_tests)

  counted_Fill_clean : (n : ℕ) (f : L) (q : ℕ) (p : ℕ) (l : L) (m : Bool) (b : Block L) → guard (Fill_clean p l m) b → Counted n b q → Asks b q → Asks b p → Counted n (apply n (Fill_clean p l m) b) q
  counted_Fill_clean n f q p l m b g h0 h1 h2 = grind (arith, nat_tests)

  counted_Fill_shared_answered : (n : ℕ) (f : L) (q : ℕ) (p : ℕ) (l : L) (m : L) (b : Block L) → guard (Fill_shared_answered p l m) b → Counted n b q → Asks b q → Asks b p → Counted n (apply n (Fill_shared_answered p l m) b) q
  counted_Fill_shared_answered n f q p l m b g h0 h1 h2 = grind (arith, nat_tests)

  counted_Fill_shared_speculative : (n : ℕ) (f : L) (q : ℕ) (p : ℕ) (m : L) (b : Block L) → guard (Fill_shared_speculative p m) b → Counted n b q → Asks b q → Asks b p → Counted n (apply n (Fill_shared_speculative p m) b) q
  counted_Fill_shared_speculative n f q p m b g h0 h1 h2 = grind (arith, nat_tests)

  counted_Again_speculative : (n : ℕ) (f : L) (q : ℕ) (p : ℕ) (m : L) (b : Block L) → guard (Again_speculative p m) b → Counted n b q → Asks b q → Asks b p → Counted n (apply n (Again_speculative p m) b) q
  counted_Again_speculative n f q p m b g h0 h1 h2 = grind (arith, nat_tests)

  counted_Fill_exclusive : (n : ℕ) (f : L) (q : ℕ) (p : ℕ) (v : L) (l : L) (d : ℕ) (b : Block L) → guard (Fill_exclusive p v l d) b → Counted n b q → Asks b q → Asks b p → Counted n (apply n (Fill_exclusive p v l d) b) q
  counted_Fill_exclusive n f q p v l d b g h0 h1 h2 = grind (arith, nat_tests)

  counted_Fill_exclusive_answered : (n : ℕ) (f : L) (q : ℕ) (p : ℕ) (v : L) (m : L) (l : L) (b : Block L) → guard (Fill_exclusive_answered p v m l) b → Counted n b q → Asks b q → Asks b p → Counted n (apply n (Fill_exclusive_answered p v m l) b) q
  counted_Fill_exclusive_answered n f q p v m l b g h0 h1 h2 = grind (arith, nat_tests)

  counted_Fill_exclusive_speculative : (n : ℕ) (f : L) (q : ℕ) (p : ℕ) (v : L) (m : L) (b : Block L) → guard (Fill_exclusive_speculative p v m) b → Counted n b q → Asks b q → Asks b p → Counted n (apply n (Fill_exclusive_speculative p v m) b) q
  counted_Fill_exclusive_speculative n f q p v m b g h0 h1 h2 = grind (arith, nat_tests)

  counted_Fill_upgrade : (n : ℕ) (f : L) (q : ℕ) (p : ℕ) (v : L) (l : L) (d : ℕ) (b : Block L) → guard (Fill_upgrade p v l d) b → Counted n b q → Asks b q → Asks b p → Counted n (apply n (Fill_upgrade p v l d) b) q
  counted_Fill_upgrade n f q p v l d b g h0 h1 h2 = grind (arith, nat_tests)

  counted_Fill_upgrade_line : (n : ℕ) (f : L) (q : ℕ) (p : ℕ) (v : L) (l : L) (d : ℕ) (b : Block L) → guard (Fill_upgrade_line p v l d) b → Counted n b q → Asks b q → Asks b p → Counted n (apply n (Fill_upgrade_line p v l d) b) q
  counted_Fill_upgrade_line n f q p v l d b g h0 h1 h2 = grind (arith, nat_tests)

  counted_Again_refused : (n : ℕ) (f : L) (q : ℕ) (p : ℕ) (b : Block L) → guard (Again_refused p) b → Counted n b q → Asks b q → Asks b p → Counted n (apply n (Again_refused p) b) q
  counted_Again_refused n f q p b g h0 h1 h2 = grind (arith, nat_tests)

  counted_Again_upgrade_refused : (n : ℕ) (f : L) (q : ℕ) (p : ℕ) (b : Block L) → guard (Again_upgrade_refused p) b → Counted n b q → Asks b q → Asks b p → Counted n (apply n (Again_upgrade_refused p) b) q
  counted_Again_upgrade_refused n f q p b g h0 h1 h2 = grind (arith, nat_tests)

  counted_Poisoned : (n : ℕ) (f : L) (q : ℕ) (p : ℕ) (b : Block L) → guard (Poisoned p) b → Counted n b q → Asks b q → Asks b p → Counted n (apply n (Poisoned p) b) q
  counted_Poisoned n f q p b g h0 h1 h2 = grind (arith, nat_tests)

  counted_Poison_collected : (n : ℕ) (f : L) (q : ℕ) (p : ℕ) (l : L) (d : ℕ) (b : Block L) → guard (Poison_collected p l d) b → Counted n b q → Asks b q → Asks b p → Counted n (apply n (Poison_collected p l d) b) q
  counted_Poison_collected n f q p l d b g h0 h1 h2 = grind (arith, nat_tests)

  counted_Send_poison_read : (n : ℕ) (f : L) (q : ℕ) (p : ℕ) (b : Block L) → guard (Send_poison_read p) b → Counted n b q → Asks b q → Asks b p → Counted n (apply n (Send_poison_read p) b) q
  counted_Send_poison_read n f q p b g h0 h1 h2 = grind (arith, nat_tests)

  pub counted_kept : (n : ℕ) (f : L) (q : ℕ) (b : Block L) (r : Row L) → guard r b → Invariant n f b → actor_of r < n → q < n → Home n f b → Local n f b (actor_of r) → Local n f b q → Counted n (apply n r b) q
  counted_kept n f q b (Send_read p) g inv lp lq home hp hq = counted_Send_read n f q p b g hq.counted hq.asks hp.asks
  counted_kept n f q b (Send_read_exclusive p) g inv lp lq home hp hq = counted_Send_read_exclusive n f q p b g hq.counted hq.asks hp.asks
  counted_kept n f q b (Send_upgrade p l) g inv lp lq home hp hq = counted_Send_upgrade n f q p l b g hq.counted hq.asks hp.asks
  counted_kept n f q b (Load_shared p l) g inv lp lq home hp hq = hq.counted
  counted_kept n f q b (Load_clean p l) g inv lp lq home hp hq = hq.counted
  counted_kept n f q b (Load_dirty p l) g inv lp lq home hp hq = hq.counted
  counted_kept n f q b (Store p v l) g inv lp lq home hp hq = hq.counted
  counted_kept n f q b (Forget p) g inv lp lq home hp hq = hq.counted
  counted_kept n f q b (Evict p l) g inv lp lq home hp hq = hq.counted
  counted_kept n f q b (Read_unowned p) g inv lp lq home hp hq = counted_Read_unowned n f q p b g hq.counted hq.asks hp.asks
  counted_kept n f q b (Read_shared p s) g inv lp lq home hp hq = counted_Read_shared n f q p s b g hq.counted hq.asks hp.asks
  counted_kept n f q b (Read_by_owner p) g inv lp lq home hp hq = counted_Read_by_owner n f q p b g hq.counted hq.asks hp.asks
  counted_kept n f q b (Read_owned p o) g inv lp lq home hp hq = counted_Read_owned n f q p o b g hq.counted hq.asks hp.asks
  counted_kept n f q b (Read_busy p) g inv lp lq home hp hq = counted_Read_busy n f q p b g hq.counted hq.asks hp.asks
  counted_kept n f q b (Read_poison p o) g inv lp lq home hp hq = counted_Read_poison n f q p o b g hq.counted hq.asks hp.asks
  counted_kept n f q b (Read_exclusive_unowned p) g inv lp lq home hp hq = counted_Read_exclusive_unowned n f q p b g hq.counted hq.asks hp.asks
  counted_kept n f q b (Read_exclusive_shared p s) g inv lp lq home hp hq = counted_Read_exclusive_shared n f q p s b g inv lp lq
  counted_kept n f q b (Read_exclusive_by_owner p) g inv lp lq home hp hq = counted_Read_exclusive_by_owner n f q p b g hq.counted hq.asks hp.asks
  counted_kept n f q b (Read_exclusive_owned p o) g inv lp lq home hp hq = counted_Read_exclusive_owned n f q p o b g hq.counted hq.asks hp.asks
  counted_kept n f q b (Read_exclusive_busy p) g inv lp lq home hp hq = counted_Read_exclusive_busy n f q p b g hq.counted hq.asks hp.asks
  counted_kept n f q b (Read_exclusive_poison p o) g inv lp lq home hp hq = counted_Read_exclusive_poison n f q p o b g hq.counted hq.asks hp.asks
  counted_kept n f q b (Upgrade_shared p s) g inv lp lq home hp hq = counted_Upgrade_shared n f q p s b g inv lp lq
  counted_kept n f q b (Upgrade_grouped p s) g inv lp lq home hp hq = counted_Upgrade_grouped n f q p s b g inv lp lq
  counted_kept n f q b (Upgrade_refused p) g inv lp lq home hp hq = counted_Upgrade_refused n f q p b g hq.counted hq.asks hp.asks
  counted_kept n f q b (Upgrade_poison p o) g inv lp lq home hp hq = counted_Upgrade_poison n f q p o b g hq.counted hq.asks hp.asks
  counted_kept n f q b (Write_back_owner p l) g inv lp lq home hp hq = hq.counted
  counted_kept n f q b (Write_back_busy_shared p r l) g inv lp lq home hp hq = hq.counted
  counted_kept n f q b (Write_back_busy_exclusive p r l) g inv lp lq home hp hq = hq.counted
  counted_kept n f q b (Write_back_requester p o l) g inv lp lq home hp hq = hq.counted
  counted_kept n f q b (Write_back_busy_poison p r l) g inv lp lq home hp hq = counted_Write_back_busy_poison n f q p r l b g hq.counted hq.asks hp.asks hq.rests hp.rests hq.backs hp.backs hq.owned hp.owned hq.waits hp.waits hq.intervened hp.intervened home.revised hq.spent
  counted_kept n f q b (Revision_sharing_write_back o r l) g inv lp lq home hp hq = hq.counted
  counted_kept n f q b (Revision_sharing_transfer o r) g inv lp lq home hp hq = hq.counted
  counted_kept n f q b (Revision_dirty_transfer o r) g inv lp lq home hp hq = hq.counted
  counted_kept n f q b (Revision_returned o r) g inv lp lq home hp hq = hq.counted
  counted_kept n f q b (Revision_poison_back o r l) g inv lp lq home hp hq = counted_Revision_poison_back n f q o r l b g hq.counted hq.asks hp.asks hq.rests hp.rests hq.backs hp.backs hq.owned hp.owned hq.waits hp.waits hq.intervened hp.intervened home.revised hq.spent
  counted_kept n f q b (Revision_poison_clean o r) g inv lp lq home hp hq = counted_Revision_poison_clean n f q o r b g hq.counted hq.asks hp.asks hq.rests hp.rests hq.backs hp.backs hq.owned hp.owned hq.waits hp.waits hq.intervened hp.intervened home.revised hq.spent
  counted_kept n f q b (Poison_read_unowned p) g inv lp lq home hp hq = counted_Poison_read_unowned n f q p b g hq.counted hq.asks hp.asks
  counted_kept n f q b (Poison_read_shared p s) g inv lp lq home hp hq = counted_Poison_read_shared n f q p s b g inv lp lq
  counted_kept n f q b (Poison_read_owned p o) g inv lp lq home hp hq = counted_Poison_read_owned n f q p o b g hq.counted hq.asks hp.asks
  counted_kept n f q b (Poison_read_busy p) g inv lp lq home hp hq = counted_Poison_read_busy n f q p b g hq.counted hq.asks hp.asks
  counted_kept n f q b (Copy_in p v) g inv lp lq home hp hq = hq.counted
  counted_kept n f q b (Fill_shared p l) g inv lp lq home hp hq = counted_Fill_shared n f q p l b g hq.counted hq.asks hp.asks
  counted_kept n f q b (Again_shared p l) g inv lp lq home hp hq = counted_Again_shared n f q p l b g hq.counted hq.asks hp.asks
  counted_kept n f q b (Fill_clean p l m) g inv lp lq home hp hq = counted_Fill_clean n f q p l m b g hq.counted hq.asks hp.asks
  counted_kept n f q b (Fill_shared_answered p l m) g inv lp lq home hp hq = counted_Fill_shared_answered n f q p l m b g hq.counted hq.asks hp.asks
  counted_kept n f q b (Fill_shared_speculative p m) g inv lp lq home hp hq = counted_Fill_shared_speculative n f q p m b g hq.counted hq.asks hp.asks
  counted_kept n f q b (Again_speculative p m) g inv lp lq home hp hq = counted_Again_speculative n f q p m b g hq.counted hq.asks hp.asks
  counted_kept n f q b (Fill_exclusive p v l d) g inv lp lq home hp hq = counted_Fill_exclusive n f q p v l d b g hq.counted hq.asks hp.asks
  counted_kept n f q b (Fill_exclusive_answered p v m l) g inv lp lq home hp hq = counted_Fill_exclusive_answered n f q p v m l b g hq.counted hq.asks hp.asks
  counted_kept n f q b (Fill_exclusive_speculative p v m) g inv lp lq home hp hq = counted_Fill_exclusive_speculative n f q p v m b g hq.counted hq.asks hp.asks
  counted_kept n f q b (Fill_upgrade p v l d) g inv lp lq home hp hq = counted_Fill_upgrade n f q p v l d b g hq.counted hq.asks hp.asks
  counted_kept n f q b (Fill_upgrade_line p v l d) g inv lp lq home hp hq = counted_Fill_upgrade_line n f q p v l d b g hq.counted hq.asks hp.asks
  counted_kept n f q b (Again_refused p) g inv lp lq home hp hq = counted_Again_refused n f q p b g hq.counted hq.asks hp.asks
  counted_kept n f q b (Again_upgrade_refused p) g inv lp lq home hp hq = counted_Again_upgrade_refused n f q p b g hq.counted hq.asks hp.asks
  counted_kept n f q b (Poisoned p) g inv lp lq home hp hq = counted_Poisoned n f q p b g hq.counted hq.asks hp.asks
  counted_kept n f q b (Poison_collected p l d) g inv lp lq home hp hq = counted_Poison_collected n f q p l d b g hq.counted hq.asks hp.asks
  counted_kept n f q b (Invalidated p r) g inv lp lq home hp hq = counted_Invalidated n f q p r b g inv lp lq
  counted_kept n f q b (Acknowledged p r) g inv lp lq home hp hq = counted_Acknowledged n f q p r b g inv lp lq
  counted_kept n f q b (Intervention_victim_busy p) g inv lp lq home hp hq = hq.counted
  counted_kept n f q b (Intervention_victim_first p) g inv lp lq home hp hq = hq.counted
  counted_kept n f q b (Intervention_shared_dirty p r l) g inv lp lq home hp hq = hq.counted
  counted_kept n f q b (Intervention_shared_clean p r l) g inv lp lq home hp hq = hq.counted
  counted_kept n f q b (Intervention_shared_none p r) g inv lp lq home hp hq = hq.counted
  counted_kept n f q b (Intervention_exclusive_dirty p r l) g inv lp lq home hp hq = hq.counted
  counted_kept n f q b (Intervention_exclusive_clean p r) g inv lp lq home hp hq = hq.counted
  counted_kept n f q b (Intervention_poison_dirty p r l) g inv lp lq home hp hq = hq.counted
  counted_kept n f q b (Intervention_poison_clean p r) g inv lp lq home hp hq = hq.counted
  counted_kept n f q b (Write_back_ack p) g inv lp lq home hp hq = hq.counted
  counted_kept n f q b (Write_back_busy_ack_seen p) g inv lp lq home hp hq = hq.counted
  counted_kept n f q b (Write_back_busy_ack_first p) g inv lp lq home hp hq = hq.counted
  counted_kept n f q b (Send_poison_read p) g inv lp lq home hp hq = counted_Send_poison_read n f q p b g hq.counted hq.asks hp.asks
