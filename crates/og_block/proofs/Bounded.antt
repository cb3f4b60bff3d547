-- A reply names fewer acknowledgements than there are actors: each row keeps it, by itself.
use Rattle.std.proofs.Common.{◌≡◌, ℕ, ◌+◌, ◌<◌, ◌≤◌, Bool, true, cond, nat_eq, arith, subst, List, [], ◌∷◌}
use Rattle.std.proofs.lemmas.Bool.Decides.{nat_tests}
use Rattle.og_slots.proofs.Count.{count_less, count_most}
use Rattle.og_block.specs.State.{Block, others, count, start, Sharing}
use Rattle.og_block.specs.Rows.{Row, guard, apply, actor_of, Send_read, Send_read_exclusive, Send_upgrade, Load_shared, Load_clean, Load_dirty, Store, Forget, Evict, Read_unowned, Read_shared, Read_by_owner, Read_owned, Read_busy, Read_poison, Read_exclusive_unowned, Read_exclusive_shared, Read_exclusive_by_owner, Read_exclusive_owned, Read_exclusive_busy, Read_exclusive_poison, Upgrade_shared, Upgrade_grouped, Upgrade_refused, Upgrade_poison, Write_back_owner, Write_back_busy_shared, Write_back_busy_exclusive, Write_back_requester, Write_back_busy_poison, Revision_sharing_write_back, Revision_sharing_transfer, Revision_dirty_transfer, Revision_returned, Revision_poison_back, Revision_poison_clean, Poison_read_unowned, Poison_read_shared, Poison_read_owned, Poison_read_busy, Copy_in, Fill_shared, Again_shared, Fill_clean, Fill_shared_answered, Fill_shared_speculative, Again_speculative, Fill_exclusive, Fill_exclusive_answered, Fill_exclusive_speculative, Fill_upgrade, Fill_upgrade_line, Again_refused, Again_upgrade_refused, Poisoned, Poison_collected, Invalidated, Acknowledged, Intervention_victim_busy, Intervention_victim_first, Intervention_shared_dirty, Intervention_shared_clean, Intervention_shared_none, Intervention_exclusive_dirty, Intervention_exclusive_clean, Intervention_poison_dirty, Intervention_poison_clean, Write_back_ack, Write_back_busy_ack_seen, Write_back_busy_ack_first, Send_poison_read}
use Rattle.og_block.specs.Balance.{due}
use Rattle.og_block.specs.Run.{Runs}

abbrev with_p : (ℕ → Bool) → ℕ → ℕ → Bool
with_p s p k = cond (nat_eq k p) true (others s p k)

few : (n p : ℕ) (s : ℕ → Bool) → p < n → count n (others s p) < n
few n p s lt =
    let e : count n (with_p s p) ≡ count n (others s p) + 1 = count_less n (with_p s p) (others s p) p lt (grind (arith, nat_tests)) (grind (arith, nat_tests)) (λ k ne. grind (arith, nat_tests)) in
    let m : count n (with_p s p) ≤ n = count_most n (with_p s p) in omega arith

module _ {L : Type 0} where
  pub bounded_kept : (n q : ℕ) (b : Block L) (row : Row L) → guard row b → actor_of row < n → 0 < n → due (b.ask q) < n → due ((apply n row b).ask q) < n
  bounded_kept n q b (Send_read p) g lp some old = grind (arith, nat_tests)
  bounded_kept n q b (Send_read_exclusive p) g lp some old = grind (arith, nat_tests)
  bounded_kept n q b (Send_upgrade p l) g lp some old = grind (arith, nat_tests)
  bounded_kept n q b (Load_shared p l) g lp some old = grind (arith, nat_tests)
  bounded_kept n q b (Load_clean p l) g lp some old = grind (arith, nat_tests)
  bounded_kept n q b (Load_dirty p l) g lp some old = grind (arith, nat_tests)
  bounded_kept n q b (Store p v l) g lp some old = grind (arith, nat_tests)
  bounded_kept n q b (Forget p) g lp some old = grind (arith, nat_tests)
  bounded_kept n q b (Evict p l) g lp some old = grind (arith, nat_tests)
  bounded_kept n q b (Read_unowned p) g lp some old = grind (arith, nat_tests)
  bounded_kept n q b (Read_shared p s) g lp some old = grind (arith, nat_tests)
  bounded_kept n q b (Read_by_owner p) g lp some old = grind (arith, nat_tests)
  bounded_kept n q b (Read_owned p o) g lp some old = grind (arith, nat_tests)
  bounded_kept n q b (Read_busy p) g lp some old = grind (arith, nat_tests)
  bounded_kept n q b (Read_poison p o) g lp some old = grind (arith, nat_tests)
  bounded_kept n q b (Read_exclusive_unowned p) g lp some old = grind (arith, nat_tests)
  bounded_kept n q b (Read_exclusive_shared p s) g lp some old = let x : count n (others s p) < n = few n p s lp in grind (arith, nat_tests)
  bounded_kept n q b (Read_exclusive_by_owner p) g lp some old = grind (arith, nat_tests)
  bounded_kept n q b (Read_exclusive_owned p o) g lp some old = grind (arith, nat_tests)
  bounded_kept n q b (Read_exclusive_busy p) g lp some old = grind (arith, nat_tests)
  bounded_kept n q b (Read_exclusive_poison p o) g lp some old = grind (arith, nat_tests)
  bounded_kept n q b (Upgrade_shared p s) g lp some old = let x : count n (others s p) < n = few n p s lp in grind (arith, nat_tests)
  bounded_kept n q b (Upgrade_grouped p s) g lp some old = let x : count n (others s p) < n = few n p s lp in grind (arith, nat_tests)
  bounded_kept n q b (Upgrade_refused p) g lp some old = grind (arith, nat_tests)
  bounded_kept n q b (Upgrade_poison p o) g lp some old = grind (arith, nat_tests)
  bounded_kept n q b (Write_back_owner p l) g lp some old = grind (arith, nat_tests)
  bounded_kept n q b (Write_back_busy_shared p r l) g lp some old = grind (arith, nat_tests)
  bounded_kept n q b (Write_back_busy_exclusive p r l) g lp some old = grind (arith, nat_tests)
  bounded_kept n q b (Write_back_requester p o l) g lp some old = grind (arith, nat_tests)
  bounded_kept n q b (Write_back_busy_poison p r l) g lp some old = grind (arith, nat_tests)
  bounded_kept n q b (Revision_sharing_write_back o r l) g lp some old = grind (arith, nat_tests)
  bounded_kept n q b (Revision_sharing_transfer o r) g lp some old = grind (arith, nat_tests)
  bounded_kept n q b (Revision_dirty_transfer o r) g lp some old = grind (arith, nat_tests)
  bounded_kept n q b (Revision_returned o r) g lp some old = grind (arith, nat_tests)
  bounded_kept n q b (Revision_poison_back o r l) g lp some old = grind (arith, nat_tests)
  bounded_kept n q b (Revision_poison_clean o r) g lp some old = grind (arith, nat_tests)
  bounded_kept n q b (Poison_read_unowned p) g lp some old = grind (arith, nat_tests)
  bounded_kept n q b (Poison_read_shared p s) g lp some old = let x : count n (others s p) < n = few n p s lp in grind (arith, nat_tests)
  bounded_kept n q b (Poison_read_owned p o) g lp some old = grind (arith, nat_tests)
  bounded_kept n q b (Poison_read_busy p) g lp some old = grind (arith, nat_tests)
  bounded_kept n q b (Copy_in p v) g lp some old = grind (arith, nat_tests)
  bounded_kept n q b (Fill_shared p l) g lp some old = grind (arith, nat_tests)
  bounded_kept n q b (Again_shared p l) g lp some old = grind (arith, nat_tests)
  bounded_kept n q b (Fill_clean p l m) g lp some old = grind (arith, nat_tests)
  bounded_kept n q b (Fill_shared_answered p l m) g lp some old = grind (arith, nat_tests)
  bounded_kept n q b (Fill_shared_speculative p m) g lp some old = grind (arith, nat_tests)
  bounded_kept n q b (Again_speculative p m) g lp some old = grind (arith, nat_tests)
  bounded_kept n q b (Fill_exclusive p v l d) g lp some old = grind (arith, nat_tests)
  bounded_kept n q b (Fill_exclusive_answered p v m l) g lp some old = grind (arith, nat_tests)
  bounded_kept n q b (Fill_exclusive_speculative p v m) g lp some old = grind (arith, nat_tests)
  bounded_kept n q b (Fill_upgrade p v l d) g lp some old = grind (arith, nat_tests)
  bounded_kept n q b (Fill_upgrade_line p v l d) g lp some old = grind (arith, nat_tests)
  bounded_kept n q b (Again_refused p) g lp some old = grind (arith, nat_tests)
  bounded_kept n q b (Again_upgrade_refused p) g lp some old = grind (arith, nat_tests)
  bounded_kept n q b (Poisoned p) g lp some old = grind (arith, nat_tests)
  bounded_kept n q b (Poison_collected p l d) g lp some old = grind (arith, nat_tests)
  bounded_kept n q b (Invalidated p r) g lp some old = grind (arith, nat_tests)
  bounded_kept n q b (Acknowledged p r) g lp some old = grind (arith, nat_tests)
  bounded_kept n q b (Intervention_victim_busy p) g lp some old = grind (arith, nat_tests)
  bounded_kept n q b (Intervention_victim_first p) g lp some old = grind (arith, nat_tests)
  bounded_kept n q b (Intervention_shared_dirty p r l) g lp some old = grind (arith, nat_tests)
  bounded_kept n q b (Intervention_shared_clean p r l) g lp some old = grind (arith, nat_tests)
  bounded_kept n q b (Intervention_shared_none p r) g lp some old = grind (arith, nat_tests)
  bounded_kept n q b (Intervention_exclusive_dirty p r l) g lp some old = grind (arith, nat_tests)
  bounded_kept n q b (Intervention_exclusive_clean p r) g lp some old = grind (arith, nat_tests)
  bounded_kept n q b (Intervention_poison_dirty p r l) g lp some old = grind (arith, nat_tests)
  bounded_kept n q b (Intervention_poison_clean p r) g lp some old = grind (arith, nat_tests)
  bounded_kept n q b (Write_back_ack p) g lp some old = grind (arith, nat_tests)
  bounded_kept n q b (Write_back_busy_ack_seen p) g lp some old = grind (arith, nat_tests)
  bounded_kept n q b (Write_back_busy_ack_first p) g lp some old = grind (arith, nat_tests)
  bounded_kept n q b (Send_poison_read p) g lp some old = grind (arith, nat_tests)

  pub bounded_run : (n : ℕ) (rs : List (Row L)) (b c : Block L) → ((q : ℕ) → q < n → due (b.ask q) < n) → Runs n b rs c → (q : ℕ) → q < n → due (c.ask q) < n
  bounded_run n [] b c h run = subst (λ (x : Block L). (q : ℕ) → q < n → due (x.ask q) < n) run h
  bounded_run n (r ∷ rs) b c h run = bounded_run n rs (apply n r b) c (λ q lt. bounded_kept n q b r run.0 run.1 (let some : q < n = lt in omega arith) (h q lt)) run.2

  pub bounded_start : (n : ℕ) (k : Sharing) (memory : L) (q : ℕ) → q < n → due ((start k memory).ask q) < n
  bounded_start n k memory q lt = omega (arith, lt)
