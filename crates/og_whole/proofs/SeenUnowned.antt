-- An unowned block stays so, but where the home grants a request for it; and a copy makes a block unowned.
use Rattle.std.proofs.Common.{◌≡◌, ℕ, Bool, true, false, arith, refl}
use Rattle.std.proofs.lemmas.Bool.Decides.{nat_tests}
use Rattle.og_block.specs.State.{Block, Unowned}
use Rattle.og_block.specs.Rows.{Row, guard, apply, actor_of, Send_read, Send_read_exclusive, Send_upgrade, Load_shared, Load_clean, Load_dirty, Store, Forget, Evict, Read_unowned, Read_shared, Read_by_owner, Read_owned, Read_busy, Read_poison, Read_exclusive_unowned, Read_exclusive_shared, Read_exclusive_by_owner, Read_exclusive_owned, Read_exclusive_busy, Read_exclusive_poison, Upgrade_shared, Upgrade_grouped, Upgrade_refused, Upgrade_poison, Write_back_owner, Write_back_busy_shared, Write_back_busy_exclusive, Write_back_requester, Write_back_busy_poison, Revision_sharing_write_back, Revision_sharing_transfer, Revision_dirty_transfer, Revision_returned, Revision_poison_back, Revision_poison_clean, Poison_read_unowned, Poison_read_shared, Poison_read_owned, Poison_read_busy, Copy_in, Fill_shared, Again_shared, Fill_clean, Fill_shared_answered, Fill_shared_speculative, Again_speculative, Fill_exclusive, Fill_exclusive_answered, Fill_exclusive_speculative, Fill_upgrade, Fill_upgrade_line, Again_refused, Again_upgrade_refused, Poisoned, Poison_collected, Invalidated, Acknowledged, Intervention_victim_busy, Intervention_victim_first, Intervention_shared_dirty, Intervention_shared_clean, Intervention_shared_none, Intervention_exclusive_dirty, Intervention_exclusive_clean, Intervention_poison_dirty, Intervention_poison_clean, Write_back_ack, Write_back_busy_ack_seen, Write_back_busy_ack_first, Send_poison_read}
use Rattle.og_block.specs.Invariant.{Local}
use Rattle.og_whole.specs.Kind.{Kind, Copies, kind, is_idle}

-- the home grants a request for an unowned block
abbrev pub takes : {L : Type 0} → Row L → Bool
takes (Read_unowned p) = true
takes (Read_exclusive_unowned p) = true
takes (Poison_read_unowned p) = true
takes r = false

abbrev pub is_copies : {L : Type 0} → Kind L → Bool
is_copies (Copies p line) = true
is_copies d = false

pub unowned_kept : {L : Type 0} → (actors : ℕ) (b : Block L) (r : Row L) → guard r b → takes r ≡ false → b.entry ≡ Unowned → (apply actors r b).entry ≡ Unowned
unowned_kept actors b (Send_read p) may other e = grind (arith, nat_tests)
unowned_kept actors b (Send_read_exclusive p) may other e = grind (arith, nat_tests)
unowned_kept actors b (Send_upgrade p l) may other e = grind (arith, nat_tests)
unowned_kept actors b (Load_shared p l) may other e = grind (arith, nat_tests)
unowned_kept actors b (Load_clean p l) may other e = grind (arith, nat_tests)
unowned_kept actors b (Load_dirty p l) may other e = grind (arith, nat_tests)
unowned_kept actors b (Store p v l) may other e = grind (arith, nat_tests)
unowned_kept actors b (Forget p) may other e = grind (arith, nat_tests)
unowned_kept actors b (Evict p l) may other e = grind (arith, nat_tests)
unowned_kept actors b (Read_unowned p) may other e = absurd (cc)
unowned_kept actors b (Read_shared p s) may other e = grind (arith, nat_tests)
unowned_kept actors b (Read_by_owner p) may other e = grind (arith, nat_tests)
unowned_kept actors b (Read_owned p o) may other e = grind (arith, nat_tests)
unowned_kept actors b (Read_busy p) may other e = grind (arith, nat_tests)
unowned_kept actors b (Read_poison p o) may other e = grind (arith, nat_tests)
unowned_kept actors b (Read_exclusive_unowned p) may other e = absurd (cc)
unowned_kept actors b (Read_exclusive_shared p s) may other e = grind (arith, nat_tests)
unowned_kept actors b (Read_exclusive_by_owner p) may other e = grind (arith, nat_tests)
unowned_kept actors b (Read_exclusive_owned p o) may other e = grind (arith, nat_tests)
unowned_kept actors b (Read_exclusive_busy p) may other e = grind (arith, nat_tests)
unowned_kept actors b (Read_exclusive_poison p o) may other e = grind (arith, nat_tests)
unowned_kept actors b (Upgrade_shared p s) may other e = grind (arith, nat_tests)
unowned_kept actors b (Upgrade_grouped p s) may other e = grind (arith, nat_tests)
unowned_kept actors b (Upgrade_refused p) may other e = grind (arith, nat_tests)
unowned_kept actors b (Upgrade_poison p o) may other e = grind (arith, nat_tests)
unowned_kept actors b (Write_back_owner p l) may other e = grind (arith, nat_tests)
unowned_kept actors b (Write_back_busy_shared p r l) may other e = grind (arith, nat_tests)
unowned_kept actors b (Write_back_busy_exclusive p r l) may other e = grind (arith, nat_tests)
unowned_kept actors b (Write_back_requester p o l) may other e = grind (arith, nat_tests)
unowned_kept actors b (Write_back_busy_poison p r l) may other e = grind (arith, nat_tests)
unowned_kept actors b (Revision_sharing_write_back o r l) may other e = grind (arith, nat_tests)
unowned_kept actors b (Revision_sharing_transfer o r) may other e = grind (arith, nat_tests)
unowned_kept actors b (Revision_dirty_transfer o r) may other e = grind (arith, nat_tests)
unowned_kept actors b (Revision_returned o r) may other e = grind (arith, nat_tests)
unowned_kept actors b (Revision_poison_back o r l) may other e = grind (arith, nat_tests)
unowned_kept actors b (Revision_poison_clean o r) may other e = grind (arith, nat_tests)
unowned_kept actors b (Poison_read_unowned p) may other e = absurd (cc)
unowned_kept actors b (Poison_read_shared p s) may other e = grind (arith, nat_tests)
unowned_kept actors b (Poison_read_owned p o) may other e = grind (arith, nat_tests)
unowned_kept actors b (Poison_read_busy p) may other e = grind (arith, nat_tests)
unowned_kept actors b (Copy_in p v) may other e = grind (arith, nat_tests)
unowned_kept actors b (Fill_shared p l) may other e = grind (arith, nat_tests)
unowned_kept actors b (Again_shared p l) may other e = grind (arith, nat_tests)
unowned_kept actors b (Fill_clean p l m) may other e = grind (arith, nat_tests)
unowned_kept actors b (Fill_shared_answered p l m) may other e = grind (arith, nat_tests)
unowned_kept actors b (Fill_shared_speculative p m) may other e = grind (arith, nat_tests)
unowned_kept actors b (Again_speculative p m) may other e = grind (arith, nat_tests)
unowned_kept actors b (Fill_exclusive p v l d) may other e = grind (arith, nat_tests)
unowned_kept actors b (Fill_exclusive_answered p v m l) may other e = grind (arith, nat_tests)
unowned_kept actors b (Fill_exclusive_speculative p v m) may other e = grind (arith, nat_tests)
unowned_kept actors b (Fill_upgrade p v l d) may other e = grind (arith, nat_tests)
unowned_kept actors b (Fill_upgrade_line p v l d) may other e = grind (arith, nat_tests)
unowned_kept actors b (Again_refused p) may other e = grind (arith, nat_tests)
unowned_kept actors b (Again_upgrade_refused p) may other e = grind (arith, nat_tests)
unowned_kept actors b (Poisoned p) may other e = grind (arith, nat_tests)
unowned_kept actors b (Poison_collected p l d) may other e = grind (arith, nat_tests)
unowned_kept actors b (Invalidated p r) may other e = grind (arith, nat_tests)
unowned_kept actors b (Acknowledged p r) may other e = grind (arith, nat_tests)
unowned_kept actors b (Intervention_victim_busy p) may other e = grind (arith, nat_tests)
unowned_kept actors b (Intervention_victim_first p) may other e = grind (arith, nat_tests)
unowned_kept actors b (Intervention_shared_dirty p r l) may other e = grind (arith, nat_tests)
unowned_kept actors b (Intervention_shared_clean p r l) may other e = grind (arith, nat_tests)
unowned_kept actors b (Intervention_shared_none p r) may other e = grind (arith, nat_tests)
unowned_kept actors b (Intervention_exclusive_dirty p r l) may other e = grind (arith, nat_tests)
unowned_kept actors b (Intervention_exclusive_clean p r) may other e = grind (arith, nat_tests)
unowned_kept actors b (Intervention_poison_dirty p r l) may other e = grind (arith, nat_tests)
unowned_kept actors b (Intervention_poison_clean p r) may other e = grind (arith, nat_tests)
unowned_kept actors b (Write_back_ack p) may other e = grind (arith, nat_tests)
unowned_kept actors b (Write_back_busy_ack_seen p) may other e = grind (arith, nat_tests)
unowned_kept actors b (Write_back_busy_ack_first p) may other e = grind (arith, nat_tests)
unowned_kept actors b (Send_poison_read p) may other e = grind (arith, nat_tests)

pub taker_waits : {L : Type 0} → (actors : ℕ) (newest : L) (b : Block L) (r : Row L) → guard r b → takes r ≡ true → Local actors newest b (actor_of r) → is_idle (b.want (actor_of r)) ≡ false
taker_waits actors newest b (Read_unowned p) may takes at_actor = grind arith
taker_waits actors newest b (Read_exclusive_unowned p) may takes at_actor = grind arith
taker_waits actors newest b (Poison_read_unowned p) may takes at_actor = grind arith
taker_waits actors newest b r may takes at_actor = absurd (cc)

pub copy_unowned : {L : Type 0} → (actors : ℕ) (b : Block L) (r : Row L) → is_copies (kind r) ≡ true → (apply actors r b).entry ≡ Unowned
copy_unowned actors b (Copy_in p v) e = refl
copy_unowned actors b r e = absurd (cc)
