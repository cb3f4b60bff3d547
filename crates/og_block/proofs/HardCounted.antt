-- The parts `counted` and `asks`, at the rows where the number of invalidations in flight changes.
use Rattle.std.proofs.Common.{◌≡◌, ℕ, ◌+◌, ◌<◌, Bool, cond, nat_eq, arith}
use Rattle.std.proofs.lemmas.Bool.Decides.{nat_tests}
use Rattle.og_block.proofs.Pending.{pending_ack, pending_answer, pending_sent}
use Rattle.og_block.specs.State.{Block, NoInvalidation, count, others}
use Rattle.og_block.specs.Rows.{guard, apply, Read_exclusive_shared, Upgrade_shared, Upgrade_grouped, Poison_read_shared, Acknowledged, Invalidated}
use Rattle.og_block.specs.Invariant.{Invariant, Asks, Sent, Counted, pending}

module _ {L : Type 0} where
  pub counted_Read_exclusive_shared : (n : ℕ) (f : L) (q : ℕ) (p : ℕ) (s : ℕ → Bool) (b : Block L) → guard (Read_exclusive_shared p s) b → Invariant n f b → p < n → q < n → Counted n (apply n (Read_exclusive_shared p s) b) q
  counted_Read_exclusive_shared n f q p s b g inv lp lq =
      let quiet : (k : ℕ) → k < n → b.invalidation k ≡ NoInvalidation = λ k lt. (let h : Sent n b k = (inv.each k lt).sent in grind (arith, nat_tests)) in
      let sent : pending n (apply n (Read_exclusive_shared p s) b) q ≡ cond (nat_eq p q) (count n (others s p)) 0 = pending_sent n b s p q quiet in
      grind (arith, nat_tests)

  pub counted_Upgrade_shared : (n : ℕ) (f : L) (q : ℕ) (p : ℕ) (s : ℕ → Bool) (b : Block L) → guard (Upgrade_shared p s) b → Invariant n f b → p < n → q < n → Counted n (apply n (Upgrade_shared p s) b) q
  counted_Upgrade_shared n f q p s b g inv lp lq =
      let quiet : (k : ℕ) → k < n → b.invalidation k ≡ NoInvalidation = λ k lt. (let h : Sent n b k = (inv.each k lt).sent in grind (arith, nat_tests)) in
      let sent : pending n (apply n (Upgrade_shared p s) b) q ≡ cond (nat_eq p q) (count n (others s p)) 0 = pending_sent n b s p q quiet in
      grind (arith, nat_tests)

  pub counted_Upgrade_grouped : (n : ℕ) (f : L) (q : ℕ) (p : ℕ) (s : ℕ → Bool) (b : Block L) → guard (Upgrade_grouped p s) b → Invariant n f b → p < n → q < n → Counted n (apply n (Upgrade_grouped p s) b) q
  counted_Upgrade_grouped n f q p s b g inv lp lq =
      let quiet : (k : ℕ) → k < n → b.invalidation k ≡ NoInvalidation = λ k lt. (let h : Sent n b k = (inv.each k lt).sent in grind (arith, nat_tests)) in
      let sent : pending n (apply n (Upgrade_grouped p s) b) q ≡ cond (nat_eq p q) (count n (others s p)) 0 = pending_sent n b s p q quiet in
      grind (arith, nat_tests)

  pub counted_Poison_read_shared : (n : ℕ) (f : L) (q : ℕ) (p : ℕ) (s : ℕ → Bool) (b : Block L) → guard (Poison_read_shared p s) b → Invariant n f b → p < n → q < n → Counted n (apply n (Poison_read_shared p s) b) q
  counted_Poison_read_shared n f q p s b g inv lp lq =
      let quiet : (k : ℕ) → k < n → b.invalidation k ≡ NoInvalidation = λ k lt. (let h : Sent n b k = (inv.each k lt).sent in grind (arith, nat_tests)) in
      let sent : pending n (apply n (Poison_read_shared p s) b) q ≡ cond (nat_eq p q) (count n (others s p)) 0 = pending_sent n b s p q quiet in
      grind (arith, nat_tests)

  pub asks_Acknowledged : (n : ℕ) (f : L) (q : ℕ) (p : ℕ) (r : ℕ) (b : Block L) → guard (Acknowledged p r) b → Invariant n f b → p < n → q < n → Asks (apply n (Acknowledged p r) b) q
  asks_Acknowledged n f q p r b g inv lp lq =
      let fewer : pending n b q ≡ pending n (apply n (Acknowledged p r) b) q + cond (nat_eq r q) 1 0 = pending_ack n b p q r lp g in
      grind (arith, nat_tests)

  pub counted_Acknowledged : (n : ℕ) (f : L) (q : ℕ) (p : ℕ) (r : ℕ) (b : Block L) → guard (Acknowledged p r) b → Invariant n f b → p < n → q < n → Counted n (apply n (Acknowledged p r) b) q
  counted_Acknowledged n f q p r b g inv lp lq =
      let fewer : pending n b q ≡ pending n (apply n (Acknowledged p r) b) q + cond (nat_eq r q) 1 0 = pending_ack n b p q r lp g in
      grind (arith, nat_tests)

  pub counted_Invalidated : (n : ℕ) (f : L) (q : ℕ) (p : ℕ) (r : ℕ) (b : Block L) → guard (Invalidated p r) b → Invariant n f b → p < n → q < n → Counted n (apply n (Invalidated p r) b) q
  counted_Invalidated n f q p r b g inv lp lq =
      let same : pending n b q ≡ pending n (apply n (Invalidated p r) b) q = pending_answer n b p q r g.0 in
      grind (arith, nat_tests)
