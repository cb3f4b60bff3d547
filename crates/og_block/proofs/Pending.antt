-- The acknowledgements that are still to come, before and after one row.
use Rattle.std.proofs.Common.{◌≡◌, ℕ, ◌+◌, ◌<◌, Bool, true, false, cond, nat_eq, arith, inl, inr}
use Rattle.std.proofs.lemmas.Bool.{cases_Bool}
use Rattle.std.proofs.lemmas.Bool.Decides.{nat_tests}
use Rattle.og_slots.proofs.Count.{count_same, count_none, count_some, count_less}
use Rattle.og_block.specs.State.{Block, NoInvalidation, Invalidate, InvalidateAck, count, put, others}
use Rattle.og_block.specs.Invariant.{is_for, pending}

module _ {L : Type 0} where
  -- none is to come for q, so k has none
  pub pending_none : (n : ℕ) (b : Block L) (q k : ℕ) → pending n b q ≡ 0 → k < n → is_for q (b.invalidation k) ≡ false
  pending_none n b q k is lt = elim (cases_Bool (is_for q (b.invalidation k))) [ inl same ↦ absurd (omega (arith, count_some n (λ k. is_for q (b.invalidation k)) k lt same)) | inr other ↦ other ]

  -- the acknowledgement of p is taken
  pub pending_ack : (n : ℕ) (b : Block L) (p q r : ℕ) → p < n → b.invalidation p ≡ InvalidateAck r → pending n b q ≡ count n (λ k. is_for q (put b.invalidation p NoInvalidation k)) + cond (nat_eq r q) 1 0
  pending_ack n b p q r lt is = elim (cases_Bool (nat_eq r q)) [ inl same ↦ rw same (hit same) | inr other ↦ rw other (miss other) ]
    where
      hit : nat_eq r q ≡ true → pending n b q ≡ count n (λ k. is_for q (put b.invalidation p NoInvalidation k)) + 1
      hit same = count_less n (λ k. is_for q (b.invalidation k)) (λ k. is_for q (put b.invalidation p NoInvalidation k)) p lt (grind (arith, nat_tests)) (grind (arith, nat_tests)) (λ k ne. grind (arith, nat_tests))

      miss : nat_eq r q ≡ false → pending n b q ≡ count n (λ k. is_for q (put b.invalidation p NoInvalidation k)) + 0
      miss other = let e : pending n b q ≡ count n (λ k. is_for q (put b.invalidation p NoInvalidation k)) = count_same n (λ k. is_for q (b.invalidation k)) (λ k. is_for q (put b.invalidation p NoInvalidation k)) (λ k below. grind (arith, nat_tests)) in omega arith

  -- the invalidation of p is answered
  pub pending_answer : (n : ℕ) (b : Block L) (p q r : ℕ) → b.invalidation p ≡ Invalidate r → pending n b q ≡ count n (λ k. is_for q (put b.invalidation p (InvalidateAck r) k))
  pending_answer n b p q r is = count_same n (λ k. is_for q (b.invalidation k)) (λ k. is_for q (put b.invalidation p (InvalidateAck r) k)) (λ k below. grind (arith, nat_tests))

  -- invalidations for p go out to the others of s, where none was in flight
  pub pending_sent : (n : ℕ) (b : Block L) (s : ℕ → Bool) (p q : ℕ) → ((k : ℕ) → k < n → b.invalidation k ≡ NoInvalidation) →
      count n (λ k. is_for q (cond (others s p k) (Invalidate p) (b.invalidation k))) ≡ cond (nat_eq p q) (count n (others s p)) 0
  pending_sent n b s p q none = elim (cases_Bool (nat_eq p q)) [ inl same ↦ rw same (hit same) | inr other ↦ rw other (miss other) ]
    where
      hit : nat_eq p q ≡ true → count n (λ k. is_for q (cond (others s p k) (Invalidate p) (b.invalidation k))) ≡ count n (others s p)
      hit same = count_same n (λ k. is_for q (cond (others s p k) (Invalidate p) (b.invalidation k))) (others s p) (λ k lt. let e : b.invalidation k ≡ NoInvalidation = none k lt in grind (arith, nat_tests))

      miss : nat_eq p q ≡ false → count n (λ k. is_for q (cond (others s p k) (Invalidate p) (b.invalidation k))) ≡ 0
      miss other = count_none n (λ k. is_for q (cond (others s p k) (Invalidate p) (b.invalidation k))) (λ k lt. let e : b.invalidation k ≡ NoInvalidation = none k lt in grind (arith, nat_tests))
