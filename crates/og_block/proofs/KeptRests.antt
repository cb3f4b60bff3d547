-- The part `rests` is kept by each row. Each lemma takes the parts that it needs, of q and of the actor that acts.
use Rattle.std.proofs.Common.{ℕ, ◌<◌, Bool, arith}
use Rattle.std.proofs.lemmas.Bool.Decides.{nat_tests}
use Rattle.og_block.specs.State.{Block}
use Rattle.og_block.specs.Rows.{Row, guard, apply, actor_of, Send_read, Send_read_exclusive, Send_upgrade, Load_shared, Load_clean, Load_dirty, Store, Forget, Evict, Read_unowned, Read_shared, Read_by_owner, Read_owned, Read_busy, Read_poison, Read_exclusive_unowned, Read_exclusive_shared, Read_exclusive_by_owner, Read_exclusive_owned, Read_exclusive_busy, Read_exclusive_poison, Upgrade_shared, Upgrade_grouped, Upgrade_refused, Upgrade_poison, Write_back_owner, Write_back_busy_shared, Write_back_busy_exclusive, Write_back_requester, Write_back_busy_poison, Revision_sharing_write_back, Revision_sharing_transfer, Revision_dirty_transfer, Revision_returned, Revision_poison_back, Revision_poison_clean, Poison_read_unowned, Poison_read_shared, Poison_read_owned, Poison_read_busy, Copy_in, Fill_shared, Again_shared, Fill_clean, Fill_shared_answered, Fill_shared_speculative, Again_speculative, Fill_exclusive, Fill_exclusive_answered, Fill_exclusive_speculative, Fill_upgrade, Fill_upgrade_line, Again_refused, Again_upgrade_refused, Poisoned, Poison_collected, Invalidated, Acknowledged, Intervention_victim_busy, Intervention_victim_first, Intervention_shared_dirty, Intervention_shared_clean, Intervention_shared_none, Intervention_exclusive_dirty, Intervention_exclusive_clean, Intervention_poison_dirty, Intervention_poison_clean, Write_back_ack, Write_back_busy_ack_seen, Write_back_busy_ack_first, Send_poison_read}
use Rattle.og_block.specs.Invariant.{Local, Home, Invariant, Asks, Rests}

module _ {L : Type 0} where
  rests_Send_read : (n : ℕ) (f : L) (q : ℕ) (p : ℕ) (b : Block L) → guard (Send_read p) b → Rests b q → Asks b q → Asks b p → Rests b p → Rests (apply n (Send_read p) b) q
  rests_Send_read n f q p b g h0 h1 h2 h3 = grind (arith, nat_tests)

  rests_Send_read_exclusive : (n : ℕ) (f : L) (q : ℕ) (p : ℕ) (b : Block L) → guard (Send_read_exclusive p) b → Rests b q → Asks b q → Asks b p → Rests b p → Rests (apply n (Send_read_exclusive p) b) q
  rests_Send_read_exclusive n f q p b g h0 h1 h2 h3 = grind (arith, nat_tests)

  rests_Send_upgrade : (n : ℕ) (f : L) (q : ℕ) (p : ℕ) (l : L) (b : Block L) → guard (Send_upgrade p l) b → Rests b q → Asks b q → Asks b p → Rests b p → Rests (apply n (Send_upgrade p l) b) q
  rests_Send_upgrade n f q p l b g h0 h1 h2 h3 = grind (arith, nat_tests)

  rests_Store : (n : ℕ) (f : L) (q : ℕ) (p : ℕ) (v : L) (l : L) (b : Block L) → guard (Store p v l) b → Rests b q → Asks b q → Asks b p → Rests b p → Rests (apply n (Store p v l) b) q
  rests_Store n f q p v l b g h0 h1 h2 h3 = grind (arith, nat_tests)

  rests_Forget : (n : ℕ) (f : L) (q : ℕ) (p : ℕ) (b : Block L) → guard (Forget p) b → Rests b q → Asks b q → Asks b p → Rests b p → Rests (apply n (Forget p) b) q
  rests_Forget n f q p b g h0 h1 h2 h3 = grind (arith, nat_tests)

  rests_Evict : (n : ℕ) (f : L) (q : ℕ) (p : ℕ) (l : L) (b : Block L) → guard (Evict p l) b → Rests b q → Asks b q → Asks b p → Rests b p → Rests (apply n (Evict p l) b) q
  rests_Evict n f q p l b g h0 h1 h2 h3 = grind (arith, nat_tests)

  rests_Fill_shared : (n : ℕ) (f : L) (q : ℕ) (p : ℕ) (l : L) (b : Block L) → guard (Fill_shared p l) b → Rests b q → Asks b q → Asks b p → Rests b p → Rests (apply n (Fill_shared p l) b) q
  rests_Fill_shared n f q p l b g h0 h1 h2 h3 = grind (arith, nat_tests)

  rests_Again_shared : (n : ℕ) (f : L) (q : ℕ) (p : ℕ) (l : L) (b : Block L) → guard (Again_shared p l) b → Rests b q → Asks b q → Asks b p → Rests b p → Rests (apply n (Again_shared p l) b) q
  rests_Again_shared n f q p l b g h0 h1 h2 h3 = grind (arith, nat_tests)

  rests_Fill_clean : (n : ℕ) (f : L) (q : ℕ) (p : ℕ) (l : L) (m : Bool) (b : Block L) → guard (Fill_clean p l m) b → Rests b q → Asks b q → Asks b p → Rests b p → Rests (apply n (Fill_clean p l m) b) q
  rests_Fill_clean n f q p l m b g h0 h1 h2 h3 = grind (arith, nat_tests)

  rests_Fill_shared_answered : (n : ℕ) (f : L) (q : ℕ) (p : ℕ) (l : L) (m : L) (b : Block L) → guard (Fill_shared_answered p l m) b → Rests b q → Asks b q → Asks b p → Rests b p → Rests (apply n (Fill_shared_answered p l m) b) q
  rests_Fill_shared_answered n f q p l m b g h0 h1 h2 h3 = grind (arith, nat_tests)

  rests_Fill_shared_speculative : (n : ℕ) (f : L) (q : ℕ) (p : ℕ) (m : L) (b : Block L) → guard (Fill_shared_speculative p m) b → Rests b q → Asks b q → Asks b p → Rests b p → Rests (apply n (Fill_shared_speculative p m) b) q
  rests_Fill_shared_speculative n f q p m b g h0 h1 h2 h3 = grind (arith, nat_tests)

  rests_Again_speculative : (n : ℕ) (f : L) (q : ℕ) (p : ℕ) (m : L) (b : Block L) → guard (Again_speculative p m) b → Rests b q → Asks b q → Asks b p → Rests b p → Rests (apply n (Again_speculative p m) b) q
  rests_Again_speculative n f q p m b g h0 h1 h2 h3 = grind (arith, nat_tests)

  rests_Fill_exclusive : (n : ℕ) (f : L) (q : ℕ) (p : ℕ) (v : L) (l : L) (d : ℕ) (b : Block L) → guard (Fill_exclusive p v l d) b → Rests b q → Asks b q → Asks b p → Rests b p → Rests (apply n (Fill_exclusive p v l d) b) q
  rests_Fill_exclusive n f q p v l d b g h0 h1 h2 h3 = grind (arith, nat_tests)

  rests_Fill_exclusive_answered : (n : ℕ) (f : L) (q : ℕ) (p : ℕ) (v : L) (m : L) (l : L) (b : Block L) → guard (Fill_exclusive_answered p v m l) b → Rests b q → Asks b q → Asks b p → Rests b p → Rests (apply n (Fill_exclusive_answered p v m l) b) q
  rests_Fill_exclusive_answered n f q p v m l b g h0 h1 h2 h3 = grind (arith, nat_tests)

  rests_Fill_exclusive_speculative : (n : ℕ) (f : L) (q : ℕ) (p : ℕ) (v : L) (m : L) (b : Block L) → guard (Fill_exclusive_speculative p v m) b → Rests b q → Asks b q → Asks b p → Rests b p → Rests (apply n (Fill_exclusive_speculative p v m) b) q
  rests_Fill_exclusive_speculative n f q p v m b g h0 h1 h2 h3 = grind (arith, nat_tests)

  rests_Fill_upgrade : (n : ℕ) (f : L) (q : ℕ) (p : ℕ) (v : L) (l : L) (d : ℕ) (b : Block L) → guard (Fill_upgrade p v l d) b → Rests b q → Asks b q → Asks b p → Rests b p → Rests (apply n (Fill_upgrade p v l d) b) q
  rests_Fill_upgrade n f q p v l d b g h0 h1 h2 h3 = grind (arith, nat_tests)

  rests_Fill_upgrade_line : (n : ℕ) (f : L) (q : ℕ) (p : ℕ) (v : L) (l : L) (d : ℕ) (b : Block L) → guard (Fill_upgrade_line p v l d) b → Rests b q → Asks b q → Asks b p → Rests b p → Rests (apply n (Fill_upgrade_line p v l d) b) q
  rests_Fill_upgrade_line n f q p v l d b g h0 h1 h2 h3 = grind (arith, nat_tests)

  rests_Again_refused : (n : ℕ) (f : L) (q : ℕ) (p : ℕ) (b : Block L) → guard (Again_refused p) b → Rests b q → Asks b q → Asks b p → Rests b p → Rests (apply n (Again_refused p) b) q
  rests_Again_refused n f q p b g h0 h1 h2 h3 = grind (arith, nat_tests)

  rests_Again_upgrade_refused : (n : ℕ) (f : L) (q : ℕ) (p : ℕ) (b : Block L) → guard (Again_upgrade_refused p) b → Rests b q → Asks b q → Asks b p → Rests b p → Rests (apply n (Again_upgrade_refused p) b) q
  rests_Again_upgrade_refused n f q p b g h0 h1 h2 h3 = grind (arith, nat_tests)

  rests_Poisoned : (n : ℕ) (f : L) (q : ℕ) (p : ℕ) (b : Block L) → guard (Poisoned p) b → Rests b q → Asks b q → Asks b p → Rests b p → Rests (apply n (Poisoned p) b) q
  rests_Poisoned n f q p b g h0 h1 h2 h3 = grind (arith, nat_tests)

  rests_Poison_collected : (n : ℕ) (f : L) (q : ℕ) (p : ℕ) (l : L) (d : ℕ) (b : Block L) → guard (Poison_collected p l d) b → Rests b q → Asks b q → Asks b p → Rests b p → Rests (apply n (Poison_collected p l d) b) q
  rests_Poison_collected n f q p l d b g h0 h1 h2 h3 = grind (arith, nat_tests)

  rests_Invalidated : (n : ℕ) (f : L) (q : ℕ) (p : ℕ) (r : ℕ) (b : Block L) → guard (Invalidated p r) b → Rests b q → Asks b q → Asks b p → Rests b p → Rests (apply n (Invalidated p r) b) q
  rests_Invalidated n f q p r b g h0 h1 h2 h3 = grind (arith, nat_tests)

  rests_Intervention_victim_busy : (n : ℕ) (f : L) (q : ℕ) (p : ℕ) (b : Block L) → guard (Intervention_victim_busy p) b → Rests b q → Asks b q → Asks b p → Rests b p → Rests (apply n (Intervention_victim_busy p) b) q
  rests_Intervention_victim_busy n f q p b g h0 h1 h2 h3 = grind (arith, nat_tests)

  rests_Intervention_victim_first : (n : ℕ) (f : L) (q : ℕ) (p : ℕ) (b : Block L) → guard (Intervention_victim_first p) b → Rests b q → Asks b q → Asks b p → Rests b p → Rests (apply n (Intervention_victim_first p) b) q
  rests_Intervention_victim_first n f q p b g h0 h1 h2 h3 = grind (arith, nat_tests)

  rests_Intervention_shared_dirty : (n : ℕ) (f : L) (q : ℕ) (p : ℕ) (r : ℕ) (l : L) (b : Block L) → guard (Intervention_shared_dirty p r l) b → Rests b q → Asks b q → Asks b p → Rests b p → Rests (apply n (Intervention_shared_dirty p r l) b) q
  rests_Intervention_shared_dirty n f q p r l b g h0 h1 h2 h3 = grind (arith, nat_tests)

  rests_Intervention_shared_clean : (n : ℕ) (f : L) (q : ℕ) (p : ℕ) (r : ℕ) (l : L) (b : Block L) → guard (Intervention_shared_clean p r l) b → Rests b q → Asks b q → Asks b p → Rests b p → Rests (apply n (Intervention_shared_clean p r l) b) q
  rests_Intervention_shared_clean n f q p r l b g h0 h1 h2 h3 = grind (arith, nat_tests)

  rests_Intervention_exclusive_dirty : (n : ℕ) (f : L) (q : ℕ) (p : ℕ) (r : ℕ) (l : L) (b : Block L) → guard (Intervention_exclusive_dirty p r l) b → Rests b q → Asks b q → Asks b p → Rests b p → Rests (apply n (Intervention_exclusive_dirty p r l) b) q
  rests_Intervention_exclusive_dirty n f q p r l b g h0 h1 h2 h3 = grind (arith, nat_tests)

  rests_Intervention_exclusive_clean : (n : ℕ) (f : L) (q : ℕ) (p : ℕ) (r : ℕ) (b : Block L) → guard (Intervention_exclusive_clean p r) b → Rests b q → Asks b q → Asks b p → Rests b p → Rests (apply n (Intervention_exclusive_clean p r) b) q
  rests_Intervention_exclusive_clean n f q p r b g h0 h1 h2 h3 = grind (arith, nat_tests)

  rests_Intervention_poison_dirty : (n : ℕ) (f : L) (q : ℕ) (p : ℕ) (r : ℕ) (l : L) (b : Block L) → guard (Intervention_poison_dirty p r l) b → Rests b q → Asks b q → Asks b p → Rests b p → Rests (apply n (Intervention_poison_dirty p r l) b) q
  rests_Intervention_poison_dirty n f q p r l b g h0 h1 h2 h3 = grind (arith, nat_tests)

  rests_Intervention_poison_clean : (n : ℕ) (f : L) (q : ℕ) (p : ℕ) (r : ℕ) (b : Block L) → guard (Intervention_poison_clean p r) b → Rests b q → Asks b q → Asks b p → Rests b p → Rests (apply n (Intervention_poison_clean p r) b) q
  rests_Intervention_poison_clean n f q p r b g h0 h1 h2 h3 = grind (arith, nat_tests)

  rests_Write_back_ack : (n : ℕ) (f : L) (q : ℕ) (p : ℕ) (b : Block L) → guard (Write_back_ack p) b → Rests b q → Asks b q → Asks b p → Rests b p → Rests (apply n (Write_back_ack p) b) q
  rests_Write_back_ack n f q p b g h0 h1 h2 h3 = grind (arith, nat_tests)

  rests_Write_back_busy_ack_seen : (n : ℕ) (f : L) (q : ℕ) (p : ℕ) (b : Block L) → guard (Write_back_busy_ack_seen p) b → Rests b q → Asks b q → Asks b p → Rests b p → Rests (apply n (Write_back_busy_ack_seen p) b) q
  rests_Write_back_busy_ack_seen n f q p b g h0 h1 h2 h3 = grind (arith, nat_tests)

  rests_Write_back_busy_ack_first : (n : ℕ) (f : L) (q : ℕ) (p : ℕ) (b : Block L) → guard (Write_back_busy_ack_first p) b → Rests b q → Asks b q → Asks b p → Rests b p → Rests (apply n (Write_back_busy_ack_first p) b) q
  rests_Write_back_busy_ack_first n f q p b g h0 h1 h2 h3 = grind (arith, nat_tests)

  rests_Send_poison_read : (n : ℕ) (f : L) (q : ℕ) (p : ℕ) (b : Block L) → guard (Send_poison_read p) b → Rests b q → Asks b q → Asks b p → Rests b p → Rests (apply n (Send_poison_read p) b) q
  rests_Send_poison_read n f q p b g h0 h1 h2 h3 = grind (arith, nat_tests)

  pub rests_kept : (n : ℕ) (f : L) (q : ℕ) (b : Block L) (r : Row L) → guard r b → Invariant n f b → actor_of r < n → q < n → Home n f b → Local n f b (actor_of r) → Local n f b q → Rests (apply n r b) q
  rests_kept n f q b (Send_read p) g inv lp lq home hp hq = rests_Send_read n f q p b g hq.rests hq.asks hp.asks hp.rests
  rests_kept n f q b (Send_read_exclusive p) g inv lp lq home hp hq = rests_Send_read_exclusive n f q p b g hq.rests hq.asks hp.asks hp.rests
  rests_kept n f q b (Send_upgrade p l) g inv lp lq home hp hq = rests_Send_upgrade n f q p l b g hq.rests hq.asks hp.asks hp.rests
  rests_kept n f q b (Load_shared p l) g inv lp lq home hp hq = hq.rests
  rests_kept n f q b (Load_clean p l) g inv lp lq home hp hq = hq.rests
  rests_kept n f q b (Load_dirty p l) g inv lp lq home hp hq = hq.rests
  rests_kept n f q b (Store p v l) g inv lp lq home hp hq = rests_Store n f q p v l b g hq.rests hq.asks hp.asks hp.rests
  rests_kept n f q b (Forget p) g inv lp lq home hp hq = rests_Forget n f q p b g hq.rests hq.asks hp.asks hp.rests
  rests_kept n f q b (Evict p l) g inv lp lq home hp hq = rests_Evict n f q p l b g hq.rests hq.asks hp.asks hp.rests
  rests_kept n f q b (Read_unowned p) g inv lp lq home hp hq = hq.rests
  rests_kept n f q b (Read_shared p s) g inv lp lq home hp hq = hq.rests
  rests_kept n f q b (Read_by_owner p) g inv lp lq home hp hq = hq.rests
  rests_kept n f q b (Read_owned p o) g inv lp lq home hp hq = hq.rests
  rests_kept n f q b (Read_busy p) g inv lp lq home hp hq = hq.rests
  rests_kept n f q b (Read_poison p o) g inv lp lq home hp hq = hq.rests
  rests_kept n f q b (Read_exclusive_unowned p) g inv lp lq home hp hq = hq.rests
  rests_kept n f q b (Read_exclusive_shared p s) g inv lp lq home hp hq = hq.rests
  rests_kept n f q b (Read_exclusive_by_owner p) g inv lp lq home hp hq = hq.rests
  rests_kept n f q b (Read_exclusive_owned p o) g inv lp lq home hp hq = hq.rests
  rests_kept n f q b (Read_exclusive_busy p) g inv lp lq home hp hq = hq.rests
  rests_kept n f q b (Read_exclusive_poison p o) g inv lp lq home hp hq = hq.rests
  rests_kept n f q b (Upgrade_shared p s) g inv lp lq home hp hq = hq.rests
  rests_kept n f q b (Upgrade_grouped p s) g inv lp lq home hp hq = hq.rests
  rests_kept n f q b (Upgrade_refused p) g inv lp lq home hp hq = hq.rests
  rests_kept n f q b (Upgrade_poison p o) g inv lp lq home hp hq = hq.rests
  rests_kept n f q b (Write_back_owner p l) g inv lp lq home hp hq = hq.rests
  rests_kept n f q b (Write_back_busy_shared p r l) g inv lp lq home hp hq = hq.rests
  rests_kept n f q b (Write_back_busy_exclusive p r l) g inv lp lq home hp hq = hq.rests
  rests_kept n f q b (Write_back_requester p o l) g inv lp lq home hp hq = hq.rests
  rests_kept n f q b (Write_back_busy_poison p r l) g inv lp lq home hp hq = hq.rests
  rests_kept n f q b (Revision_sharing_write_back o r l) g inv lp lq home hp hq = hq.rests
  rests_kept n f q b (Revision_sharing_transfer o r) g inv lp lq home hp hq = hq.rests
  rests_kept n f q b (Revision_dirty_transfer o r) g inv lp lq home hp hq = hq.rests
  rests_kept n f q b (Revision_returned o r) g inv lp lq home hp hq = hq.rests
  rests_kept n f q b (Revision_poison_back o r l) g inv lp lq home hp hq = hq.rests
  rests_kept n f q b (Revision_poison_clean o r) g inv lp lq home hp hq = hq.rests
  rests_kept n f q b (Poison_read_unowned p) g inv lp lq home hp hq = hq.rests
  rests_kept n f q b (Poison_read_shared p s) g inv lp lq home hp hq = hq.rests
  rests_kept n f q b (Poison_read_owned p o) g inv lp lq home hp hq = hq.rests
  rests_kept n f q b (Poison_read_busy p) g inv lp lq home hp hq = hq.rests
  rests_kept n f q b (Copy_in p v) g inv lp lq home hp hq = hq.rests
  rests_kept n f q b (Fill_shared p l) g inv lp lq home hp hq = rests_Fill_shared n f q p l b g hq.rests hq.asks hp.asks hp.rests
  rests_kept n f q b (Again_shared p l) g inv lp lq home hp hq = rests_Again_shared n f q p l b g hq.rests hq.asks hp.asks hp.rests
  rests_kept n f q b (Fill_clean p l m) g inv lp lq home hp hq = rests_Fill_clean n f q p l m b g hq.rests hq.asks hp.asks hp.rests
  rests_kept n f q b (Fill_shared_answered p l m) g inv lp lq home hp hq = rests_Fill_shared_answered n f q p l m b g hq.rests hq.asks hp.asks hp.rests
  rests_kept n f q b (Fill_shared_speculative p m) g inv lp lq home hp hq = rests_Fill_shared_speculative n f q p m b g hq.rests hq.asks hp.asks hp.rests
  rests_kept n f q b (Again_speculative p m) g inv lp lq home hp hq = rests_Again_speculative n f q p m b g hq.rests hq.asks hp.asks hp.rests
  rests_kept n f q b (Fill_exclusive p v l d) g inv lp lq home hp hq = rests_Fill_exclusive n f q p v l d b g hq.rests hq.asks hp.asks hp.rests
  rests_kept n f q b (Fill_exclusive_answered p v m l) g inv lp lq home hp hq = rests_Fill_exclusive_answered n f q p v m l b g hq.rests hq.asks hp.asks hp.rests
  rests_kept n f q b (Fill_exclusive_speculative p v m) g inv lp lq home hp hq = rests_Fill_exclusive_speculative n f q p v m b g hq.rests hq.asks hp.asks hp.rests
  rests_kept n f q b (Fill_upgrade p v l d) g inv lp lq home hp hq = rests_Fill_upgrade n f q p v l d b g hq.rests hq.asks hp.asks hp.rests
  rests_kept n f q b (Fill_upgrade_line p v l d) g inv lp lq home hp hq = rests_Fill_upgrade_line n f q p v l d b g hq.rests hq.asks hp.asks hp.rests
  rests_kept n f q b (Again_refused p) g inv lp lq home hp hq = rests_Again_refused n f q p b g hq.rests hq.asks hp.asks hp.rests
  rests_kept n f q b (Again_upgrade_refused p) g inv lp lq home hp hq = rests_Again_upgrade_refused n f q p b g hq.rests hq.asks hp.asks hp.rests
  rests_kept n f q b (Poisoned p) g inv lp lq home hp hq = rests_Poisoned n f q p b g hq.rests hq.asks hp.asks hp.rests
  rests_kept n f q b (Poison_collected p l d) g inv lp lq home hp hq = rests_Poison_collected n f q p l d b g hq.rests hq.asks hp.asks hp.rests
  rests_kept n f q b (Invalidated p r) g inv lp lq home hp hq = rests_Invalidated n f q p r b g hq.rests hq.asks hp.asks hp.rests
  rests_kept n f q b (Acknowledged p r) g inv lp lq home hp hq = hq.rests
  rests_kept n f q b (Intervention_victim_busy p) g inv lp lq home hp hq = rests_Intervention_victim_busy n f q p b g hq.rests hq.asks hp.asks hp.rests
  rests_kept n f q b (Intervention_victim_first p) g inv lp lq home hp hq = rests_Intervention_victim_first n f q p b g hq.rests hq.asks hp.asks hp.rests
  rests_kept n f q b (Intervention_shared_dirty p r l) g inv lp lq home hp hq = rests_Intervention_shared_dirty n f q p r l b g hq.rests hq.asks hp.asks hp.rests
  rests_kept n f q b (Intervention_shared_clean p r l) g inv lp lq home hp hq = rests_Intervention_shared_clean n f q p r l b g hq.rests hq.asks hp.asks hp.rests
  rests_kept n f q b (Intervention_shared_none p r) g inv lp lq home hp hq = hq.rests
  rests_kept n f q b (Intervention_exclusive_dirty p r l) g inv lp lq home hp hq = rests_Intervention_exclusive_dirty n f q p r l b g hq.rests hq.asks hp.asks hp.rests
  rests_kept n f q b (Intervention_exclusive_clean p r) g inv lp lq home hp hq = rests_Intervention_exclusive_clean n f q p r b g hq.rests hq.asks hp.asks hp.rests
  rests_kept n f q b (Intervention_poison_dirty p r l) g inv lp lq home hp hq = rests_Intervention_poison_dirty n f q p r l b g hq.rests hq.asks hp.asks hp.rests
  rests_kept n f q b (Intervention_poison_clean p r) g inv lp lq home hp hq = rests_Intervention_poison_clean n f q p r b g hq.rests hq.asks hp.asks hp.rests
  rests_kept n f q b (Write_back_ack p) g inv lp lq home hp hq = rests_Write_back_ack n f q p b g hq.rests hq.asks hp.asks hp.rests
  rests_kept n f q b (Write_back_busy_ack_seen p) g inv lp lq home hp hq = rests_Write_back_busy_ack_seen n f q p b g hq.rests hq.asks hp.asks hp.rests
  rests_kept n f q b (Write_back_busy_ack_first p) g inv lp lq home hp hq = rests_Write_back_busy_ack_first n f q p b g hq.rests hq.asks hp.asks hp.rests
  rests_kept n f q b (Send_poison_read p) g inv lp lq home hp hq = rests_Send_poison_read n f q p b g hq.rests hq.asks hp.asks hp.rests
