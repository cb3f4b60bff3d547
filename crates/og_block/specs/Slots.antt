-- Which slots of a block a row writes, and from which it takes a message. A slot that is written and not taken from is sent
-- into. What a row takes from it has found there; to the mover's ask it may send where the home only waits for the owner.
use Rattle.std.specs.Prelude.{ℕ, Bool, true, false, nat_eq}
use Rattle.og_block.specs.State.{others}
use Rattle.og_block.specs.Rows.{Row, Send_read, Send_read_exclusive, Send_upgrade, Load_shared, Load_clean, Load_dirty, Store, Forget, Evict, Read_unowned, Read_shared, Read_by_owner, Read_owned, Read_busy, Read_poison, Read_exclusive_unowned, Read_exclusive_shared, Read_exclusive_by_owner, Read_exclusive_owned, Read_exclusive_busy, Read_exclusive_poison, Upgrade_shared, Upgrade_grouped, Upgrade_refused, Upgrade_poison, Write_back_owner, Write_back_busy_shared, Write_back_busy_exclusive, Write_back_requester, Write_back_busy_poison, Revision_sharing_write_back, Revision_sharing_transfer, Revision_dirty_transfer, Revision_returned, Revision_poison_back, Revision_poison_clean, Poison_read_unowned, Poison_read_shared, Poison_read_owned, Poison_read_busy, Copy_in, Fill_shared, Again_shared, Fill_clean, Fill_shared_answered, Fill_shared_speculative, Again_speculative, Fill_exclusive, Fill_exclusive_answered, Fill_exclusive_speculative, Fill_upgrade, Fill_upgrade_line, Again_refused, Again_upgrade_refused, Poisoned, Poison_collected, Invalidated, Acknowledged, Intervention_victim_busy, Intervention_victim_first, Intervention_shared_dirty, Intervention_shared_clean, Intervention_shared_none, Intervention_exclusive_dirty, Intervention_exclusive_clean, Intervention_poison_dirty, Intervention_poison_clean, Write_back_ack, Write_back_busy_ack_seen, Write_back_busy_ack_first, Send_poison_read}
use Rattle.og_block.specs.Message.{Message, Asked, Answered, Returned, Revised, Intervened, Invalidated}

-- a set of slots, by field and actor
pub record Slots : Type 0 where
  pub ask : ℕ → Bool
  pub response : ℕ → Bool
  pub back : ℕ → Bool
  pub intervention : ℕ → Bool
  pub revision : Bool
  pub invalidation : ℕ → Bool

abbrev pub none : Slots
none = record { ask = λ q. false; response = λ q. false; back = λ q. false; intervention = λ q. false; revision = false; invalidation = λ q. false }

module _ {L : Type 0} where
  -- the message stands in one of these slots
  abbrev pub is_in : Slots → Message L → Bool
  is_in t (Asked q a) = t.ask q
  is_in t (Answered q r) = t.response q
  is_in t (Returned q k) = t.back q
  is_in t (Revised v) = t.revision
  is_in t (Intervened q i) = t.intervention q
  is_in t (Invalidated q i) = t.invalidation q

  -- the slots that a row may change
  abbrev pub writes : Row L → Slots
  writes (Send_read p) = record none { ask = λ q. nat_eq q p }
  writes (Send_read_exclusive p) = record none { ask = λ q. nat_eq q p }
  writes (Send_upgrade p l) = record none { ask = λ q. nat_eq q p }
  writes (Load_shared p l) = none
  writes (Load_clean p l) = none
  writes (Load_dirty p l) = none
  writes (Store p v l) = none
  writes (Forget p) = none
  writes (Evict p l) = record none { back = λ q. nat_eq q p }
  writes (Read_unowned p) = record none { ask = λ q. nat_eq q p }
  writes (Read_shared p s) = record none { ask = λ q. nat_eq q p }
  writes (Read_by_owner p) = record none { ask = λ q. nat_eq q p }
  writes (Read_owned p o) = record none { ask = λ q. nat_eq q p; intervention = λ q. nat_eq q o }
  writes (Read_busy p) = record none { ask = λ q. nat_eq q p }
  writes (Read_poison p o) = record none { ask = λ q. nat_eq q p }
  writes (Read_exclusive_unowned p) = record none { ask = λ q. nat_eq q p }
  writes (Read_exclusive_shared p s) = record none { ask = λ q. nat_eq q p; invalidation = λ q. others s p q }
  writes (Read_exclusive_by_owner p) = record none { ask = λ q. nat_eq q p }
  writes (Read_exclusive_owned p o) = record none { ask = λ q. nat_eq q p; intervention = λ q. nat_eq q o }
  writes (Read_exclusive_busy p) = record none { ask = λ q. nat_eq q p }
  writes (Read_exclusive_poison p o) = record none { ask = λ q. nat_eq q p }
  writes (Upgrade_shared p s) = record none { ask = λ q. nat_eq q p; invalidation = λ q. others s p q }
  writes (Upgrade_grouped p s) = record none { ask = λ q. nat_eq q p; invalidation = λ q. others s p q }
  writes (Upgrade_refused p) = record none { ask = λ q. nat_eq q p }
  writes (Upgrade_poison p o) = record none { ask = λ q. nat_eq q p }
  writes (Write_back_owner p l) = record none { back = λ q. nat_eq q p }
  writes (Write_back_busy_shared p r l) = record none { response = λ q. nat_eq q r; back = λ q. nat_eq q p }
  writes (Write_back_busy_exclusive p r l) = record none { response = λ q. nat_eq q r; back = λ q. nat_eq q p }
  writes (Write_back_requester p o l) = record none { back = λ q. nat_eq q p }
  writes (Write_back_busy_poison p r l) = record none { ask = λ q. nat_eq q r; back = λ q. nat_eq q p }
  writes (Revision_sharing_write_back o r l) = record none { revision = true }
  writes (Revision_sharing_transfer o r) = record none { revision = true }
  writes (Revision_dirty_transfer o r) = record none { revision = true }
  writes (Revision_returned o r) = record none { revision = true }
  writes (Revision_poison_back o r l) = record none { ask = λ q. nat_eq q r; revision = true }
  writes (Revision_poison_clean o r) = record none { ask = λ q. nat_eq q r; revision = true }
  writes (Poison_read_unowned p) = record none { ask = λ q. nat_eq q p }
  writes (Poison_read_shared p s) = record none { ask = λ q. nat_eq q p; invalidation = λ q. others s p q }
  writes (Poison_read_owned p o) = record none { ask = λ q. nat_eq q p; intervention = λ q. nat_eq q o }
  writes (Poison_read_busy p) = record none { ask = λ q. nat_eq q p }
  writes (Copy_in p v) = none
  writes (Fill_shared p l) = record none { ask = λ q. nat_eq q p }
  writes (Again_shared p l) = record none { ask = λ q. nat_eq q p }
  writes (Fill_clean p l m) = record none { ask = λ q. nat_eq q p }
  writes (Fill_shared_answered p l m) = record none { ask = λ q. nat_eq q p; response = λ q. nat_eq q p }
  writes (Fill_shared_speculative p m) = record none { ask = λ q. nat_eq q p; response = λ q. nat_eq q p }
  writes (Again_speculative p m) = record none { ask = λ q. nat_eq q p; response = λ q. nat_eq q p }
  writes (Fill_exclusive p v l d) = record none { ask = λ q. nat_eq q p }
  writes (Fill_exclusive_answered p v m l) = record none { ask = λ q. nat_eq q p; response = λ q. nat_eq q p }
  writes (Fill_exclusive_speculative p v m) = record none { ask = λ q. nat_eq q p; response = λ q. nat_eq q p }
  writes (Fill_upgrade p v l d) = record none { ask = λ q. nat_eq q p }
  writes (Fill_upgrade_line p v l d) = record none { ask = λ q. nat_eq q p }
  writes (Again_refused p) = record none { ask = λ q. nat_eq q p }
  writes (Again_upgrade_refused p) = record none { ask = λ q. nat_eq q p }
  writes (Poisoned p) = record none { ask = λ q. nat_eq q p }
  writes (Poison_collected p l d) = record none { ask = λ q. nat_eq q p }
  writes (Invalidated p r) = record none { invalidation = λ q. nat_eq q p }
  writes (Acknowledged p r) = record none { invalidation = λ q. nat_eq q p }
  writes (Intervention_victim_busy p) = record none { intervention = λ q. nat_eq q p }
  writes (Intervention_victim_first p) = record none { intervention = λ q. nat_eq q p }
  writes (Intervention_shared_dirty p r l) = record none { response = λ q. nat_eq q r; intervention = λ q. nat_eq q p; revision = true }
  writes (Intervention_shared_clean p r l) = record none { response = λ q. nat_eq q r; intervention = λ q. nat_eq q p; revision = true }
  writes (Intervention_shared_none p r) = record none { response = λ q. nat_eq q r; intervention = λ q. nat_eq q p; revision = true }
  writes (Intervention_exclusive_dirty p r l) = record none { response = λ q. nat_eq q r; intervention = λ q. nat_eq q p; revision = true }
  writes (Intervention_exclusive_clean p r) = record none { response = λ q. nat_eq q r; intervention = λ q. nat_eq q p; revision = true }
  writes (Intervention_poison_dirty p r l) = record none { intervention = λ q. nat_eq q p; revision = true }
  writes (Intervention_poison_clean p r) = record none { intervention = λ q. nat_eq q p; revision = true }
  writes (Write_back_ack p) = record none { back = λ q. nat_eq q p }
  writes (Write_back_busy_ack_seen p) = record none { back = λ q. nat_eq q p }
  writes (Write_back_busy_ack_first p) = record none { back = λ q. nat_eq q p }
  writes (Send_poison_read p) = record none { ask = λ q. nat_eq q p }

  -- the slots from which it takes what stands there: a row that ends a request takes all parts of its answer
  abbrev pub takes : Row L → Slots
  takes (Send_read p) = none
  takes (Send_read_exclusive p) = none
  takes (Send_upgrade p l) = none
  takes (Load_shared p l) = none
  takes (Load_clean p l) = none
  takes (Load_dirty p l) = none
  takes (Store p v l) = none
  takes (Forget p) = none
  takes (Evict p l) = none
  takes (Read_unowned p) = record none { ask = λ q. nat_eq q p }
  takes (Read_shared p s) = record none { ask = λ q. nat_eq q p }
  takes (Read_by_owner p) = record none { ask = λ q. nat_eq q p }
  takes (Read_owned p o) = record none { ask = λ q. nat_eq q p }
  takes (Read_busy p) = record none { ask = λ q. nat_eq q p }
  takes (Read_poison p o) = record none { ask = λ q. nat_eq q p }
  takes (Read_exclusive_unowned p) = record none { ask = λ q. nat_eq q p }
  takes (Read_exclusive_shared p s) = record none { ask = λ q. nat_eq q p }
  takes (Read_exclusive_by_owner p) = record none { ask = λ q. nat_eq q p }
  takes (Read_exclusive_owned p o) = record none { ask = λ q. nat_eq q p }
  takes (Read_exclusive_busy p) = record none { ask = λ q. nat_eq q p }
  takes (Read_exclusive_poison p o) = record none { ask = λ q. nat_eq q p }
  takes (Upgrade_shared p s) = record none { ask = λ q. nat_eq q p }
  takes (Upgrade_grouped p s) = record none { ask = λ q. nat_eq q p }
  takes (Upgrade_refused p) = record none { ask = λ q. nat_eq q p }
  takes (Upgrade_poison p o) = record none { ask = λ q. nat_eq q p }
  takes (Write_back_owner p l) = record none { back = λ q. nat_eq q p }
  takes (Write_back_busy_shared p r l) = record none { back = λ q. nat_eq q p }
  takes (Write_back_busy_exclusive p r l) = record none { back = λ q. nat_eq q p }
  takes (Write_back_requester p o l) = record none { back = λ q. nat_eq q p }
  takes (Write_back_busy_poison p r l) = record none { back = λ q. nat_eq q p }
  takes (Revision_sharing_write_back o r l) = record none { revision = true }
  takes (Revision_sharing_transfer o r) = record none { revision = true }
  takes (Revision_dirty_transfer o r) = record none { revision = true }
  takes (Revision_returned o r) = record none { revision = true }
  takes (Revision_poison_back o r l) = record none { revision = true }
  takes (Revision_poison_clean o r) = record none { revision = true }
  takes (Poison_read_unowned p) = record none { ask = λ q. nat_eq q p }
  takes (Poison_read_shared p s) = record none { ask = λ q. nat_eq q p }
  takes (Poison_read_owned p o) = record none { ask = λ q. nat_eq q p }
  takes (Poison_read_busy p) = record none { ask = λ q. nat_eq q p }
  takes (Copy_in p v) = none
  takes (Fill_shared p l) = record none { ask = λ q. nat_eq q p; response = λ q. nat_eq q p }
  takes (Again_shared p l) = record none { ask = λ q. nat_eq q p; response = λ q. nat_eq q p }
  takes (Fill_clean p l m) = record none { ask = λ q. nat_eq q p; response = λ q. nat_eq q p }
  takes (Fill_shared_answered p l m) = record none { ask = λ q. nat_eq q p; response = λ q. nat_eq q p }
  takes (Fill_shared_speculative p m) = record none { ask = λ q. nat_eq q p; response = λ q. nat_eq q p }
  takes (Again_speculative p m) = record none { ask = λ q. nat_eq q p; response = λ q. nat_eq q p }
  takes (Fill_exclusive p v l d) = record none { ask = λ q. nat_eq q p; response = λ q. nat_eq q p }
  takes (Fill_exclusive_answered p v m l) = record none { ask = λ q. nat_eq q p; response = λ q. nat_eq q p }
  takes (Fill_exclusive_speculative p v m) = record none { ask = λ q. nat_eq q p; response = λ q. nat_eq q p }
  takes (Fill_upgrade p v l d) = record none { ask = λ q. nat_eq q p; response = λ q. nat_eq q p }
  takes (Fill_upgrade_line p v l d) = record none { ask = λ q. nat_eq q p; response = λ q. nat_eq q p }
  takes (Again_refused p) = record none { ask = λ q. nat_eq q p; response = λ q. nat_eq q p }
  takes (Again_upgrade_refused p) = record none { ask = λ q. nat_eq q p; response = λ q. nat_eq q p }
  takes (Poisoned p) = record none { ask = λ q. nat_eq q p; response = λ q. nat_eq q p }
  takes (Poison_collected p l d) = record none { ask = λ q. nat_eq q p; response = λ q. nat_eq q p }
  takes (Invalidated p r) = record none { invalidation = λ q. nat_eq q p }
  takes (Acknowledged p r) = record none { invalidation = λ q. nat_eq q p }
  takes (Intervention_victim_busy p) = record none { intervention = λ q. nat_eq q p }
  takes (Intervention_victim_first p) = record none { intervention = λ q. nat_eq q p }
  takes (Intervention_shared_dirty p r l) = record none { intervention = λ q. nat_eq q p }
  takes (Intervention_shared_clean p r l) = record none { intervention = λ q. nat_eq q p }
  takes (Intervention_shared_none p r) = record none { intervention = λ q. nat_eq q p }
  takes (Intervention_exclusive_dirty p r l) = record none { intervention = λ q. nat_eq q p }
  takes (Intervention_exclusive_clean p r) = record none { intervention = λ q. nat_eq q p }
  takes (Intervention_poison_dirty p r l) = record none { intervention = λ q. nat_eq q p }
  takes (Intervention_poison_clean p r) = record none { intervention = λ q. nat_eq q p }
  takes (Write_back_ack p) = record none { back = λ q. nat_eq q p }
  takes (Write_back_busy_ack_seen p) = record none { back = λ q. nat_eq q p }
  takes (Write_back_busy_ack_first p) = record none { back = λ q. nat_eq q p }
  takes (Send_poison_read p) = none
