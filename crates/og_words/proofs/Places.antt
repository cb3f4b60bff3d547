-- Where a test passes first.
use Rattle.std.specs.Prelude.{cond, not, ◌||◌, MatchOption}
use Rattle.std.specs.Borrow.{Bor}
use Rattle.std.proofs.Common.{◌≡◌, ℕ, Bool, true, false, List, [], ◌∷◌, length, ◌+◌, ◌<◌, Option, Some, None, arith, refl}
use Rattle.std.specs.List.{list_any, position_or_len, before_first, after_first}

-- a test that no element passes before the end passes nowhere
pub no_place : {X : Type 0} → (p : X → Bool) (xs : List X) → position_or_len p xs ≡ length xs → list_any p xs ≡ false
no_place p [] h = refl
no_place p (x ∷ xs) h = at (p x) (no_place p xs) h
  where
    at : (b : Bool) → (position_or_len p xs ≡ length xs → list_any p xs ≡ false) → cond (not b) (1 + position_or_len p xs) 0 ≡ length (x ∷ xs) → (b || list_any p xs) ≡ false
    at true rest h = absurd (omega arith)
    at false rest h = rest (omega arith)

-- one that an element passes before the end passes somewhere
pub some_place : {X : Type 0} → (p : X → Bool) (xs : List X) → position_or_len p xs < length xs → list_any p xs ≡ true
some_place p [] h = absurd (omega arith)
some_place p (x ∷ xs) h = at (p x) (some_place p xs) h
  where
    at : (b : Bool) → (position_or_len p xs < length xs → list_any p xs ≡ true) → cond (not b) (1 + position_or_len p xs) 0 < length (x ∷ xs) → (b || list_any p xs) ≡ true
    at true rest h = refl
    at false rest h = rest (omega arith)

-- the two parts of a split stand round the first place, and there is one just where the test passes somewhere
pub split_cases : (p : ℕ → Bool) (word : List ℕ) (r : Option (Bor (List ℕ) × Bor (List ℕ)))
    → MatchOption r (position_or_len p word ≡ length word) (λ x. (x.0.now ≡ before_first p word) × (x.1.now ≡ after_first p word) × (position_or_len p word < length word))
    → MatchOption r (list_any p word ≡ false) (λ x. (list_any p word ≡ true) × (x.0.now ≡ before_first p word) × (x.1.now ≡ after_first p word))
split_cases p word None none = no_place p word none
split_cases p word (Some x) (before, after, some) = (some_place p word some, before, after)
