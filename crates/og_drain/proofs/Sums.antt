-- Sums of weights.
use Rattle.std.proofs.Common.{◌≡◌, ◌∙◌, ◌≤◌, ℕ, zero, suc, ◌+◌, ◌*◌, Bool, refl, ap, List, [], ◌∷◌, ◌++◌, length, map, arith}
use Rattle.std.specs.List.{filter}
use Rattle.std.proofs.lemmas.List.Sums.{sum_by-cons, sum_by-append, length-filter, count_by-le-length}
use Rattle.og_base.specs.Numbers.{below}
use Rattle.og_runs.specs.declared.Letter.{Letter}
use Rattle.og_msg.specs.declared.Kind.{Kind}
use Rattle.og_drain.specs.Measure.{weight, letters_weight}

-- letters after others
pub letters_after : (nodes : ℕ) (xs ys : List (Letter Kind)) → letters_weight nodes (xs ++ ys) ≡ letters_weight nodes xs + letters_weight nodes ys
letters_after nodes xs ys = sum_by-append (λ (l : Letter Kind). weight nodes l.kind) xs ys

-- letters that weigh 2 each
pub twos : (nodes : ℕ) (g : ℕ → Letter Kind) → ((q : ℕ) → weight nodes (g q).kind ≡ 2) → (qs : List ℕ) → letters_weight nodes (map g qs) ≡ 2 * length qs
twos nodes g same [] = refl
twos nodes g same (q ∷ qs) = sum_by-cons (λ (l : Letter Kind). weight nodes l.kind) (g q) (map g qs) ∙ together (weight nodes (g q).kind) (letters_weight nodes (map g qs)) (length qs) (same q) (twos nodes g same qs)
  where
    together : (a s l : ℕ) → a ≡ 2 → s ≡ 2 * l → a + s ≡ 2 * suc l
    together a s l e f = omega arith

-- there are n numbers below n
below_long : (n : ℕ) → length (below n) ≡ n
unfolding below
below_long zero = refl
below_long (suc n) = longer (below n) n ∙ ap suc (below_long n)
  where
    longer : (xs : List ℕ) (n : ℕ) → length (xs ++ n ∷ []) ≡ suc (length xs)
    longer [] n = refl
    longer (x ∷ xs) n = ap suc (longer xs n)

-- and at most n of them pass a test
pub few_pass : (p : ℕ → Bool) (n : ℕ) → length (filter p (below n)) ≤ n
few_pass p n =
    let a = length-filter p (below n) in
    let b = count_by-le-length p (below n) in
    let c : length (below n) ≡ n = below_long n in
    omega arith
