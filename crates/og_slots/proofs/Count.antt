-- How many of the first n pass a test.
use Rattle.std.proofs.Common.{◌≡◌, ℕ, zero, suc, ◌+◌, ◌<◌, ◌≤◌, Bool, true, false, cond, arith, ◌≢◌, inl, inr, ap₂, refl}
use Rattle.std.proofs.lemmas.Bool.{cases_eq as eq_or, cases_Bool}
use Rattle.og_slots.specs.Count.{count}

pub count_same : (n : ℕ) (f g : ℕ → Bool) → ((k : ℕ) → k < n → f k ≡ g k) → count n f ≡ count n g
count_same zero f g h = refl
count_same (suc n) f g h = ap₂ (λ (x : Bool) (y : ℕ). cond x 1 0 + y) (h n (omega arith)) (count_same n f g (λ k lt. h k (omega arith)))

pub count_none : (n : ℕ) (f : ℕ → Bool) → ((k : ℕ) → k < n → f k ≡ false) → count n f ≡ 0
count_none zero f h = refl
count_none (suc n) f h = let a : f n ≡ false = h n (omega arith) in let b : count n f ≡ 0 = count_none n f (λ k lt. h k (omega arith)) in grind arith

pub count_some : (n : ℕ) (f : ℕ → Bool) (k : ℕ) → k < n → f k ≡ true → 0 < count n f
count_some zero f k lt is = absurd (omega arith)
count_some (suc n) f k lt is = elim (eq_or k n) [ inl e ↦ here e | inr ne ↦ let r : 0 < count n f = count_some n f k (omega arith) is in grind arith ]
  where
    here : k ≡ n → 0 < cond (f n) 1 0 + count n f
    here e = let a : f n ≡ true = cc in grind arith

-- one that passes no more
pub count_less : (n : ℕ) (f g : ℕ → Bool) (p : ℕ) → p < n → f p ≡ true → g p ≡ false → ((k : ℕ) → k ≢ p → f k ≡ g k) → count n f ≡ count n g + 1
count_less zero f g p lt a b h = absurd (omega arith)
count_less (suc n) f g p lt a b h = elim (eq_or p n) [ inl e ↦ here e | inr ne ↦ there ne (count_less n f g p (omega arith) a b h) ]
  where
    here : p ≡ n → cond (f n) 1 0 + count n f ≡ cond (g n) 1 0 + count n g + 1
    here e =
        let same : count n f ≡ count n g = count_same n f g (λ k below. h k (omega arith)) in
        let a' : f n ≡ true = cc in let b' : g n ≡ false = cc in grind arith

    there : p ≢ n → count n f ≡ count n g + 1 → cond (f n) 1 0 + count n f ≡ cond (g n) 1 0 + count n g + 1
    there ne r = let at : f n ≡ g n = h n (λ e. ne (cc)) in grind arith

pub count_most : (n : ℕ) (f : ℕ → Bool) → count n f ≤ n
count_most zero f = omega arith
count_most (suc n) f = let r : count n f ≤ n = count_most n f in grind arith

-- none passes where the count is 0
pub none_counted : (n : ℕ) (f : ℕ → Bool) (k : ℕ) → count n f ≡ 0 → k < n → f k ≡ false
none_counted n f k is lt = elim (cases_Bool (f k)) [ inl passes ↦ absurd (omega (arith, count_some n f k lt passes)) | inr other ↦ other ]
