-- The first place of a list that passes a test.
use Rattle.std.proofs.Common.{◌≡◌, ℕ, ◌<◌, Bool, true, false, Option, Some, None, List, length, get_or, arith, is_some, refl, sym, ◌∙◌}
use Rattle.std.proofs.Math.ListN.{set, length-set}
use Rattle.std.specs.List.{position}
use Rattle.std.proofs.lemmas.List.Sums.{position_or_len_is, fails_before_first}
use Rattle.std.proofs.lemmas.List.Folds.{position_or_len-set}
use Rattle.std.proofs.lemmas.Bool.Decides.{nat_tests}
use Rattle.std.proofs.lemmas.Bool.{false≢true}

pub position-none : {X : Type 0} (p : X → Bool) (xs : List X) (k : ℕ) (d : X) → position p xs ≡ None → k < length xs → p (get_or xs k d) ≡ false
position-none p xs k d h below = fails_before_first p xs k d (grind (arith, nat_tests))

pub position-is : {X : Type 0} (p : X → Bool) (xs : List X) (i : ℕ) (d : X) → i < length xs → p (get_or xs i d) ≡ true → ((k : ℕ) → k < i → p (get_or xs k d) ≡ false) → position p xs ≡ Some i
position-is p xs i d below here before =
    let e = position_or_len_is p xs i d (omega arith) before (λ h. here) in grind (arith, nat_tests)

pub position-absent : {X : Type 0} (p : X → Bool) (xs : List X) (d : X) → ((k : ℕ) → k < length xs → p (get_or xs k d) ≡ false) → position p xs ≡ None
position-absent p xs d none =
    let e = position_or_len_is p xs (length xs) d (omega arith) none (λ h. absurd (omega arith)) in grind (arith, nat_tests)

pub position-set : {X : Type 0} (p : X → Bool) (xs : List X) (i : ℕ) (y d : X) → p y ≡ p (get_or xs i d) → position p (set xs i y) ≡ position p xs
position-set p xs i y d h = rw (position_or_len-set p xs i y d h, length-set)

-- where something passes there is a first
pub is_some-position : {X : Type 0} (p : X → Bool) (xs : List X) (i : ℕ) (d : X) → i < length xs → p (get_or xs i d) ≡ true → is_some (position p xs) ≡ true
is_some-position p xs i d below here = some_or_none (position p xs) (λ e. false≢true (sym (position-none p xs i d e below) ∙ here))
  where
    some_or_none : (found : Option ℕ) → (found ≡ None → ⊥) → is_some found ≡ true
    some_or_none None h = absurd (h refl)
    some_or_none (Some k) h = refl
