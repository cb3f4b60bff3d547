-- A row that ends a request, fills or collects is of an actor that has something outstanding for the block; and a row that is
-- an act, and takes no message, leaves every message of the block where it stands.
use Rattle.std.proofs.Common.{◌≡◌, ℕ, ◌<◌, true, false, arith}
use Rattle.std.proofs.lemmas.Bool.Decides.{nat_tests}
use Rattle.og_block.specs.State.{Block}
use Rattle.og_block.specs.Rows.{Row, guard, apply, actor_of, Send_read, Send_read_exclusive, Send_upgrade, Load_shared, Load_clean, Load_dirty, Store, Forget, Evict, Read_unowned, Read_shared, Read_by_owner, Read_owned, Read_busy, Read_poison, Read_exclusive_unowned, Read_exclusive_shared, Read_exclusive_by_owner, Read_exclusive_owned, Read_exclusive_busy, Read_exclusive_poison, Upgrade_shared, Upgrade_grouped, Upgrade_refused, Upgrade_poison, Write_back_owner, Write_back_busy_shared, Write_back_busy_exclusive, Write_back_requester, Write_back_busy_poison, Revision_sharing_write_back, Revision_sharing_transfer, Revision_dirty_transfer, Revision_returned, Revision_poison_back, Revision_poison_clean, Poison_read_unowned, Poison_read_shared, Poison_read_owned, Poison_read_busy, Copy_in, Fill_shared, Again_shared, Fill_clean, Fill_shared_answered, Fill_shared_speculative, Again_speculative, Fill_exclusive, Fill_exclusive_answered, Fill_exclusive_speculative, Fill_upgrade, Fill_upgrade_line, Again_refused, Again_upgrade_refused, Poisoned, Poison_collected, Invalidated, Acknowledged, Intervention_victim_busy, Intervention_victim_first, Intervention_shared_dirty, Intervention_shared_clean, Intervention_shared_none, Intervention_exclusive_dirty, Intervention_exclusive_clean, Intervention_poison_dirty, Intervention_poison_clean, Write_back_ack, Write_back_busy_ack_seen, Write_back_busy_ack_first, Send_poison_read}
use Rattle.og_block.specs.Invariant.{Local}
use Rattle.og_block.specs.Message.{Message, Asked, Answered, Returned, Revised, Intervened, Invalidated, Stands}
use Rattle.og_whole.specs.Kind.{Kind, Fills, Fills_store, Ends, Collects, kind, is_idle, is_act}

abbrev pub IsOutstanding : {L : Type 0} → (actors : ℕ) → Kind L → Block L → Type 0
IsOutstanding actors (Fills p) b = (p < actors) × (is_idle (b.want p) ≡ false)
IsOutstanding actors (Fills_store p line) b = (p < actors) × (is_idle (b.want p) ≡ false)
IsOutstanding actors (Ends p) b = (p < actors) × (is_idle (b.want p) ≡ false)
IsOutstanding actors (Collects p line) b = (p < actors) × (is_idle (b.want p) ≡ false)
IsOutstanding actors d b = Unit {0}

pub outstanding : {L : Type 0} → (actors : ℕ) (newest : L) (b : Block L) (r : Row L) → guard r b → actor_of r < actors → Local actors newest b (actor_of r) → IsOutstanding actors (kind r) b
outstanding actors newest b (Send_read p) may inside at_actor = grind arith
outstanding actors newest b (Send_read_exclusive p) may inside at_actor = grind arith
outstanding actors newest b (Send_upgrade p l) may inside at_actor = grind arith
outstanding actors newest b (Load_shared p l) may inside at_actor = grind arith
outstanding actors newest b (Load_clean p l) may inside at_actor = grind arith
outstanding actors newest b (Load_dirty p l) may inside at_actor = grind arith
outstanding actors newest b (Store p v l) may inside at_actor = grind arith
outstanding actors newest b (Forget p) may inside at_actor = grind arith
outstanding actors newest b (Evict p l) may inside at_actor = grind arith
outstanding actors newest b (Read_unowned p) may inside at_actor = grind arith
outstanding actors newest b (Read_shared p s) may inside at_actor = grind arith
outstanding actors newest b (Read_by_owner p) may inside at_actor = grind arith
outstanding actors newest b (Read_owned p o) may inside at_actor = grind arith
outstanding actors newest b (Read_busy p) may inside at_actor = grind arith
outstanding actors newest b (Read_poison p o) may inside at_actor = grind arith
outstanding actors newest b (Read_exclusive_unowned p) may inside at_actor = grind arith
outstanding actors newest b (Read_exclusive_shared p s) may inside at_actor = grind arith
outstanding actors newest b (Read_exclusive_by_owner p) may inside at_actor = grind arith
outstanding actors newest b (Read_exclusive_owned p o) may inside at_actor = grind arith
outstanding actors newest b (Read_exclusive_busy p) may inside at_actor = grind arith
outstanding actors newest b (Read_exclusive_poison p o) may inside at_actor = grind arith
outstanding actors newest b (Upgrade_shared p s) may inside at_actor = grind arith
outstanding actors newest b (Upgrade_grouped p s) may inside at_actor = grind arith
outstanding actors newest b (Upgrade_refused p) may inside at_actor = grind arith
outstanding actors newest b (Upgrade_poison p o) may inside at_actor = grind arith
outstanding actors newest b (Write_back_owner p l) may inside at_actor = grind arith
outstanding actors newest b (Write_back_busy_shared p r l) may inside at_actor = grind arith
outstanding actors newest b (Write_back_busy_exclusive p r l) may inside at_actor = grind arith
outstanding actors newest b (Write_back_requester p o l) may inside at_actor = grind arith
outstanding actors newest b (Write_back_busy_poison p r l) may inside at_actor = grind arith
outstanding actors newest b (Revision_sharing_write_back o r l) may inside at_actor = grind arith
outstanding actors newest b (Revision_sharing_transfer o r) may inside at_actor = grind arith
outstanding actors newest b (Revision_dirty_transfer o r) may inside at_actor = grind arith
outstanding actors newest b (Revision_returned o r) may inside at_actor = grind arith
outstanding actors newest b (Revision_poison_back o r l) may inside at_actor = grind arith
outstanding actors newest b (Revision_poison_clean o r) may inside at_actor = grind arith
outstanding actors newest b (Poison_read_unowned p) may inside at_actor = grind arith
outstanding actors newest b (Poison_read_shared p s) may inside at_actor = grind arith
outstanding actors newest b (Poison_read_owned p o) may inside at_actor = grind arith
outstanding actors newest b (Poison_read_busy p) may inside at_actor = grind arith
outstanding actors newest b (Copy_in p v) may inside at_actor = grind arith
outstanding actors newest b (Fill_shared p l) may inside at_actor = grind arith
outstanding actors newest b (Again_shared p l) may inside at_actor = grind arith
outstanding actors newest b (Fill_clean p l m) may inside at_actor = grind arith
outstanding actors newest b (Fill_shared_answered p l m) may inside at_actor = grind arith
outstanding actors newest b (Fill_shared_speculative p m) may inside at_actor = grind arith
outstanding actors newest b (Again_speculative p m) may inside at_actor = grind arith
outstanding actors newest b (Fill_exclusive p v l d) may inside at_actor = grind arith
outstanding actors newest b (Fill_exclusive_answered p v m l) may inside at_actor = grind arith
outstanding actors newest b (Fill_exclusive_speculative p v m) may inside at_actor = grind arith
outstanding actors newest b (Fill_upgrade p v l d) may inside at_actor = grind arith
outstanding actors newest b (Fill_upgrade_line p v l d) may inside at_actor = grind arith
outstanding actors newest b (Again_refused p) may inside at_actor = grind arith
outstanding actors newest b (Again_upgrade_refused p) may inside at_actor = grind arith
outstanding actors newest b (Poisoned p) may inside at_actor = grind arith
outstanding actors newest b (Poison_collected p l d) may inside at_actor = grind arith
outstanding actors newest b (Invalidated p r) may inside at_actor = grind arith
outstanding actors newest b (Acknowledged p r) may inside at_actor = grind arith
outstanding actors newest b (Intervention_victim_busy p) may inside at_actor = grind arith
outstanding actors newest b (Intervention_victim_first p) may inside at_actor = grind arith
outstanding actors newest b (Intervention_shared_dirty p r l) may inside at_actor = grind arith
outstanding actors newest b (Intervention_shared_clean p r l) may inside at_actor = grind arith
outstanding actors newest b (Intervention_shared_none p r) may inside at_actor = grind arith
outstanding actors newest b (Intervention_exclusive_dirty p r l) may inside at_actor = grind arith
outstanding actors newest b (Intervention_exclusive_clean p r) may inside at_actor = grind arith
outstanding actors newest b (Intervention_poison_dirty p r l) may inside at_actor = grind arith
outstanding actors newest b (Intervention_poison_clean p r) may inside at_actor = grind arith
outstanding actors newest b (Write_back_ack p) may inside at_actor = grind arith
outstanding actors newest b (Write_back_busy_ack_seen p) may inside at_actor = grind arith
outstanding actors newest b (Write_back_busy_ack_first p) may inside at_actor = grind arith
outstanding actors newest b (Send_poison_read p) may inside at_actor = grind arith

pub act_leaves : {L : Type 0} → (actors : ℕ) (newest : L) (b : Block L) (r : Row L) (m : Message L) → guard r b → Local actors newest b (actor_of r) → is_act (kind r) ≡ true → Stands actors b m → Stands actors (apply actors r b) m
act_leaves actors newest b (Send_read p) (Asked q c) may at_actor act s = grind (arith, nat_tests)
act_leaves actors newest b (Send_read p) (Answered q c) may at_actor act s = s
act_leaves actors newest b (Send_read p) (Returned q c) may at_actor act s = s
act_leaves actors newest b (Send_read p) (Revised c) may at_actor act s = s
act_leaves actors newest b (Send_read p) (Intervened q c) may at_actor act s = s
act_leaves actors newest b (Send_read p) (Invalidated q c) may at_actor act s = s
act_leaves actors newest b (Send_read_exclusive p) (Asked q c) may at_actor act s = grind (arith, nat_tests)
act_leaves actors newest b (Send_read_exclusive p) (Answered q c) may at_actor act s = s
act_leaves actors newest b (Send_read_exclusive p) (Returned q c) may at_actor act s = s
act_leaves actors newest b (Send_read_exclusive p) (Revised c) may at_actor act s = s
act_leaves actors newest b (Send_read_exclusive p) (Intervened q c) may at_actor act s = s
act_leaves actors newest b (Send_read_exclusive p) (Invalidated q c) may at_actor act s = s
act_leaves actors newest b (Send_upgrade p l) (Asked q c) may at_actor act s = grind (arith, nat_tests)
act_leaves actors newest b (Send_upgrade p l) (Answered q c) may at_actor act s = s
act_leaves actors newest b (Send_upgrade p l) (Returned q c) may at_actor act s = s
act_leaves actors newest b (Send_upgrade p l) (Revised c) may at_actor act s = s
act_leaves actors newest b (Send_upgrade p l) (Intervened q c) may at_actor act s = s
act_leaves actors newest b (Send_upgrade p l) (Invalidated q c) may at_actor act s = s
act_leaves actors newest b (Load_shared p l) m may at_actor act s = s
act_leaves actors newest b (Load_clean p l) m may at_actor act s = s
act_leaves actors newest b (Load_dirty p l) m may at_actor act s = s
act_leaves actors newest b (Store p v l) (Asked q c) may at_actor act s = s
act_leaves actors newest b (Store p v l) (Answered q c) may at_actor act s = s
act_leaves actors newest b (Store p v l) (Returned q c) may at_actor act s = s
act_leaves actors newest b (Store p v l) (Revised c) may at_actor act s = s
act_leaves actors newest b (Store p v l) (Intervened q c) may at_actor act s = s
act_leaves actors newest b (Store p v l) (Invalidated q c) may at_actor act s = s
act_leaves actors newest b (Evict p l) (Asked q c) may at_actor act s = s
act_leaves actors newest b (Evict p l) (Answered q c) may at_actor act s = s
act_leaves actors newest b (Evict p l) (Returned q c) may at_actor act s = grind (arith, nat_tests)
act_leaves actors newest b (Evict p l) (Revised c) may at_actor act s = s
act_leaves actors newest b (Evict p l) (Intervened q c) may at_actor act s = s
act_leaves actors newest b (Evict p l) (Invalidated q c) may at_actor act s = s
act_leaves actors newest b (Copy_in p v) (Asked q c) may at_actor act s = s
act_leaves actors newest b (Copy_in p v) (Answered q c) may at_actor act s = s
act_leaves actors newest b (Copy_in p v) (Returned q c) may at_actor act s = s
act_leaves actors newest b (Copy_in p v) (Revised c) may at_actor act s = s
act_leaves actors newest b (Copy_in p v) (Intervened q c) may at_actor act s = s
act_leaves actors newest b (Copy_in p v) (Invalidated q c) may at_actor act s = s
act_leaves actors newest b (Send_poison_read p) (Asked q c) may at_actor act s = grind (arith, nat_tests)
act_leaves actors newest b (Send_poison_read p) (Answered q c) may at_actor act s = s
act_leaves actors newest b (Send_poison_read p) (Returned q c) may at_actor act s = s
act_leaves actors newest b (Send_poison_read p) (Revised c) may at_actor act s = s
act_leaves actors newest b (Send_poison_read p) (Intervened q c) may at_actor act s = s
act_leaves actors newest b (Send_poison_read p) (Invalidated q c) may at_actor act s = s
act_leaves actors newest b r m may at_actor act s = absurd (cc)
