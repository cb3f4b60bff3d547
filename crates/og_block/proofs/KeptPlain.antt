-- Each row keeps that a node never poisons.
use Rattle.std.proofs.Common.{ℕ, ◌<◌, arith}
use Rattle.std.proofs.lemmas.Bool.Decides.{nat_tests}
use Rattle.og_block.specs.State.{Block}
use Rattle.og_block.specs.Rows.{Row, guard, apply, actor_of, Send_read, Send_read_exclusive, Send_upgrade, Load_shared, Load_clean, Load_dirty, Store, Forget, Evict, Read_unowned, Read_shared, Read_by_owner, Read_owned, Read_busy, Read_poison, Read_exclusive_unowned, Read_exclusive_shared, Read_exclusive_by_owner, Read_exclusive_owned, Read_exclusive_busy, Read_exclusive_poison, Upgrade_shared, Upgrade_grouped, Upgrade_refused, Upgrade_poison, Write_back_owner, Write_back_busy_shared, Write_back_busy_exclusive, Write_back_requester, Write_back_busy_poison, Revision_sharing_write_back, Revision_sharing_transfer, Revision_dirty_transfer, Revision_returned, Revision_poison_back, Revision_poison_clean, Poison_read_unowned, Poison_read_shared, Poison_read_owned, Poison_read_busy, Copy_in, Fill_shared, Again_shared, Fill_clean, Fill_shared_answered, Fill_shared_speculative, Again_speculative, Fill_exclusive, Fill_exclusive_answered, Fill_exclusive_speculative, Fill_upgrade, Fill_upgrade_line, Again_refused, Again_upgrade_refused, Poisoned, Poison_collected, Invalidated, Acknowledged, Intervention_victim_busy, Intervention_victim_first, Intervention_shared_dirty, Intervention_shared_clean, Intervention_shared_none, Intervention_exclusive_dirty, Intervention_exclusive_clean, Intervention_poison_dirty, Intervention_poison_clean, Write_back_ack, Write_back_busy_ack_seen, Write_back_busy_ack_first, Send_poison_read}
use Rattle.og_block.specs.Invariant.{Home, Local}
use Rattle.og_block.specs.Roles.{Allowed, Mover, Plain, Ends_by, Reply, OwnBit}

module _ {L : Type 0} where
  pub plain_kept : (n : ℕ) (f : L) (m : ℕ) (b : Block L) (r : Row L) → guard r b → Allowed m r b → Home n f b → Local n f b (actor_of r) → Local n f b m → Mover m b → Plain m b (actor_of r) → Ends_by m b.entry → Reply m b → OwnBit b.sharing m → (q : ℕ) → q < n → Plain m b q → Plain m (apply n r b) q
  plain_kept n f m b (Send_read p) g ok home hp hm mv pl en re bit q lq old = grind (arith, nat_tests)
  plain_kept n f m b (Send_read_exclusive p) g ok home hp hm mv pl en re bit q lq old = grind (arith, nat_tests)
  plain_kept n f m b (Send_upgrade p l) g ok home hp hm mv pl en re bit q lq old = grind (arith, nat_tests)
  plain_kept n f m b (Load_shared p l) g ok home hp hm mv pl en re bit q lq old = old
  plain_kept n f m b (Load_clean p l) g ok home hp hm mv pl en re bit q lq old = old
  plain_kept n f m b (Load_dirty p l) g ok home hp hm mv pl en re bit q lq old = old
  plain_kept n f m b (Store p v l) g ok home hp hm mv pl en re bit q lq old = old
  plain_kept n f m b (Forget p) g ok home hp hm mv pl en re bit q lq old = old
  plain_kept n f m b (Evict p l) g ok home hp hm mv pl en re bit q lq old = old
  plain_kept n f m b (Read_unowned p) g ok home hp hm mv pl en re bit q lq old = old
  plain_kept n f m b (Read_shared p s) g ok home hp hm mv pl en re bit q lq old = old
  plain_kept n f m b (Read_by_owner p) g ok home hp hm mv pl en re bit q lq old = old
  plain_kept n f m b (Read_owned p o) g ok home hp hm mv pl en re bit q lq old = old
  plain_kept n f m b (Read_busy p) g ok home hp hm mv pl en re bit q lq old = old
  plain_kept n f m b (Read_poison p o) g ok home hp hm mv pl en re bit q lq old = old
  plain_kept n f m b (Read_exclusive_unowned p) g ok home hp hm mv pl en re bit q lq old = old
  plain_kept n f m b (Read_exclusive_shared p s) g ok home hp hm mv pl en re bit q lq old = old
  plain_kept n f m b (Read_exclusive_by_owner p) g ok home hp hm mv pl en re bit q lq old = old
  plain_kept n f m b (Read_exclusive_owned p o) g ok home hp hm mv pl en re bit q lq old = old
  plain_kept n f m b (Read_exclusive_busy p) g ok home hp hm mv pl en re bit q lq old = old
  plain_kept n f m b (Read_exclusive_poison p o) g ok home hp hm mv pl en re bit q lq old = old
  plain_kept n f m b (Upgrade_shared p s) g ok home hp hm mv pl en re bit q lq old = old
  plain_kept n f m b (Upgrade_grouped p s) g ok home hp hm mv pl en re bit q lq old = old
  plain_kept n f m b (Upgrade_refused p) g ok home hp hm mv pl en re bit q lq old = old
  plain_kept n f m b (Upgrade_poison p o) g ok home hp hm mv pl en re bit q lq old = old
  plain_kept n f m b (Write_back_owner p l) g ok home hp hm mv pl en re bit q lq old = old
  plain_kept n f m b (Write_back_busy_shared p r l) g ok home hp hm mv pl en re bit q lq old = old
  plain_kept n f m b (Write_back_busy_exclusive p r l) g ok home hp hm mv pl en re bit q lq old = old
  plain_kept n f m b (Write_back_requester p o l) g ok home hp hm mv pl en re bit q lq old = old
  plain_kept n f m b (Write_back_busy_poison p r l) g ok home hp hm mv pl en re bit q lq old = old
  plain_kept n f m b (Revision_sharing_write_back o r l) g ok home hp hm mv pl en re bit q lq old = old
  plain_kept n f m b (Revision_sharing_transfer o r) g ok home hp hm mv pl en re bit q lq old = old
  plain_kept n f m b (Revision_dirty_transfer o r) g ok home hp hm mv pl en re bit q lq old = old
  plain_kept n f m b (Revision_returned o r) g ok home hp hm mv pl en re bit q lq old = old
  plain_kept n f m b (Revision_poison_back o r l) g ok home hp hm mv pl en re bit q lq old = old
  plain_kept n f m b (Revision_poison_clean o r) g ok home hp hm mv pl en re bit q lq old = old
  plain_kept n f m b (Poison_read_unowned p) g ok home hp hm mv pl en re bit q lq old = old
  plain_kept n f m b (Poison_read_shared p s) g ok home hp hm mv pl en re bit q lq old = old
  plain_kept n f m b (Poison_read_owned p o) g ok home hp hm mv pl en re bit q lq old = old
  plain_kept n f m b (Poison_read_busy p) g ok home hp hm mv pl en re bit q lq old = old
  plain_kept n f m b (Copy_in p v) g ok home hp hm mv pl en re bit q lq old = old
  plain_kept n f m b (Fill_shared p l) g ok home hp hm mv pl en re bit q lq old = grind (arith, nat_tests)
  plain_kept n f m b (Again_shared p l) g ok home hp hm mv pl en re bit q lq old = grind (arith, nat_tests)
  plain_kept n f m b (Fill_clean p l m_) g ok home hp hm mv pl en re bit q lq old = grind (arith, nat_tests)
  plain_kept n f m b (Fill_shared_answered p l m_) g ok home hp hm mv pl en re bit q lq old = grind (arith, nat_tests)
  plain_kept n f m b (Fill_shared_speculative p m_) g ok home hp hm mv pl en re bit q lq old = grind (arith, nat_tests)
  plain_kept n f m b (Again_speculative p m_) g ok home hp hm mv pl en re bit q lq old = grind (arith, nat_tests)
  plain_kept n f m b (Fill_exclusive p v l d) g ok home hp hm mv pl en re bit q lq old = grind (arith, nat_tests)
  plain_kept n f m b (Fill_exclusive_answered p v m_ l) g ok home hp hm mv pl en re bit q lq old = grind (arith, nat_tests)
  plain_kept n f m b (Fill_exclusive_speculative p v m_) g ok home hp hm mv pl en re bit q lq old = grind (arith, nat_tests)
  plain_kept n f m b (Fill_upgrade p v l d) g ok home hp hm mv pl en re bit q lq old = grind (arith, nat_tests)
  plain_kept n f m b (Fill_upgrade_line p v l d) g ok home hp hm mv pl en re bit q lq old = grind (arith, nat_tests)
  plain_kept n f m b (Again_refused p) g ok home hp hm mv pl en re bit q lq old = grind (arith, nat_tests)
  plain_kept n f m b (Again_upgrade_refused p) g ok home hp hm mv pl en re bit q lq old = grind (arith, nat_tests)
  plain_kept n f m b (Poisoned p) g ok home hp hm mv pl en re bit q lq old = grind (arith, nat_tests)
  plain_kept n f m b (Poison_collected p l d) g ok home hp hm mv pl en re bit q lq old = grind (arith, nat_tests)
  plain_kept n f m b (Invalidated p r) g ok home hp hm mv pl en re bit q lq old = grind (arith, nat_tests)
  plain_kept n f m b (Acknowledged p r) g ok home hp hm mv pl en re bit q lq old = old
  plain_kept n f m b (Intervention_victim_busy p) g ok home hp hm mv pl en re bit q lq old = old
  plain_kept n f m b (Intervention_victim_first p) g ok home hp hm mv pl en re bit q lq old = old
  plain_kept n f m b (Intervention_shared_dirty p r l) g ok home hp hm mv pl en re bit q lq old = old
  plain_kept n f m b (Intervention_shared_clean p r l) g ok home hp hm mv pl en re bit q lq old = old
  plain_kept n f m b (Intervention_shared_none p r) g ok home hp hm mv pl en re bit q lq old = old
  plain_kept n f m b (Intervention_exclusive_dirty p r l) g ok home hp hm mv pl en re bit q lq old = old
  plain_kept n f m b (Intervention_exclusive_clean p r) g ok home hp hm mv pl en re bit q lq old = old
  plain_kept n f m b (Intervention_poison_dirty p r l) g ok home hp hm mv pl en re bit q lq old = old
  plain_kept n f m b (Intervention_poison_clean p r) g ok home hp hm mv pl en re bit q lq old = old
  plain_kept n f m b (Write_back_ack p) g ok home hp hm mv pl en re bit q lq old = old
  plain_kept n f m b (Write_back_busy_ack_seen p) g ok home hp hm mv pl en re bit q lq old = old
  plain_kept n f m b (Write_back_busy_ack_first p) g ok home hp hm mv pl en re bit q lq old = old
  plain_kept n f m b (Send_poison_read p) g ok home hp hm mv pl en re bit q lq old = grind (arith, nat_tests)
