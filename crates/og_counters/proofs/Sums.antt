-- The sum of counts, and the greatest of the others.
use Rattle.std.proofs.Common.{◌≡◌, ℕ, zero, suc, ◌+◌, ◌<◌, ◌≤◌, max, Bool, cond, ◌||◌, refl, sym, ap, arith, inl, inr}
use Rattle.std.proofs.lemmas.Bool.{cases_eq, eq-eqb, ne_eqb}
use Rattle.std.specs.Prelude.{nat_eq}
use Rattle.og_counters.specs.Counts.{with_value, sum_of, most_of_others}

-- what a changed function is, at the place and elsewhere
pub value_here : {X : Type 0} (f : ℕ → X) (at : ℕ) (x : X) → with_value f at x at ≡ x
value_here f at x = ap (λ test. cond test x (f at)) (eq-eqb at at refl)

pub value_there : {X : Type 0} (f : ℕ → X) (at i : ℕ) (x : X) → (i ≡ at → ⊥) → with_value f at x i ≡ f i
value_there f at i x other = ap (λ test. cond test x (f i)) (ne_eqb i at other)

-- counts that are the same below n have the same sum
pub sum_of-same : (n : ℕ) (f g : ℕ → ℕ) → ((node : ℕ) → node < n → f node ≡ g node) → sum_of n f ≡ sum_of n g
unfolding sum_of
sum_of-same zero f g same = refl
sum_of-same (suc n) f g same =
    let before : sum_of n f ≡ sum_of n g = sum_of-same n f g (λ node low. same node (omega arith)) in
    let last : f n ≡ g n = same n (omega arith) in
    omega arith

-- a count is no more than the sum
pub count-sum : (n p : ℕ) (f : ℕ → ℕ) → p < n → f p ≤ sum_of n f
unfolding sum_of
count-sum zero p f low = absurd (omega arith)
count-sum (suc n) p f low = elim (cases_eq p n) [ inl same ↦ rw same (omega arith) | inr other ↦ (let before : f p ≤ sum_of n f = count-sum n p f (omega arith) in omega arith) ]

-- one count rises by 1
raised_last : (n : ℕ) (f : ℕ → ℕ) (p : ℕ) → p ≡ n → sum_of n (with_value f p (f p + 1)) + with_value f p (f p + 1) n ≡ sum_of n f + f n + 1
raised_last n f p same =
    let before : sum_of n (with_value f p (f p + 1)) ≡ sum_of n f = sum_of-same n (with_value f p (f p + 1)) f (λ node below. value_there f p node (f p + 1) (λ e. absurd (omega arith))) in
    let last : with_value f p (f p + 1) n ≡ f n + 1 = rw same (value_here f n (f n + 1)) in
    omega arith

raised_before : (n : ℕ) (f : ℕ → ℕ) (p : ℕ) → (p ≡ n → ⊥) → sum_of n (with_value f p (f p + 1)) ≡ sum_of n f + 1 → sum_of n (with_value f p (f p + 1)) + with_value f p (f p + 1) n ≡ sum_of n f + f n + 1
raised_before n f p other before =
    let last : with_value f p (f p + 1) n ≡ f n = value_there f p n (f p + 1) (λ e. other (sym e)) in
    omega arith

pub sum_of-raised : (n p : ℕ) (f : ℕ → ℕ) → p < n → sum_of n (with_value f p (f p + 1)) ≡ sum_of n f + 1
unfolding sum_of
sum_of-raised zero p f low = absurd (omega arith)
sum_of-raised (suc n) p f low = elim (cases_eq p n) [ inl same ↦ raised_last n f p same | inr other ↦ raised_before n f p other (sum_of-raised n p f (omega arith)) ]

pub sum_of-zeros : (n : ℕ) → sum_of n (λ node. 0) ≡ 0
unfolding sum_of
sum_of-zeros zero = refl
sum_of-zeros (suc n) = let before : sum_of n (λ node. 0) ≡ 0 = sum_of-zeros n in omega arith

-- p's own count doesn't matter to the greatest of the others
one_more : (before n home p v : ℕ) (f : ℕ → ℕ) → max before (cond (nat_eq n p || nat_eq n home) 0 (with_value f p v n)) ≡ max before (cond (nat_eq n p || nat_eq n home) 0 (f n))
one_more before n home p v f = elim (cases_eq n p) [ inl same ↦ rw (eq-eqb n p same) refl | inr other ↦ rw (value_there f p n v other) refl ]

pub most-raised : (n home p v : ℕ) (f : ℕ → ℕ) → most_of_others n home p (with_value f p v) ≡ most_of_others n home p f
unfolding most_of_others
most-raised zero home p v f = refl
most-raised (suc n) home p v f = rw (most-raised n home p v f) (one_more (most_of_others n home p f) n home p v f)
