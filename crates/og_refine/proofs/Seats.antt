-- What is seen of the seats where one actor has changed.
use Rattle.std.proofs.Common.{◌≡◌, ◌∙◌, ℕ, ◌<◌, Bool, true, false, cond, nat_eq, arith, refl, sym, ap, Option, Some, List, length, slice_get, slice_set}
use Rattle.std.proofs.lemmas.Bool.Decides.{nat_tests}
use Rattle.std.proofs.lemmas.Grind.{common_steps}
use Rattle.std.proofs.lemmas.Option.{gets}
use Rattle.og_block.specs.State.{put}

-- reading a list after one write
pub get_set : {X : Type 0} → (xs : List X) (a q : ℕ) (x : X) → a < length xs → slice_get (slice_set xs a x) q ≡ cond (nat_eq q a) (Some x) (slice_get xs q)
get_set xs a q x lt = grind (arith, nat_tests, common_steps, gets)

-- what is seen of one seat
pub set_is_put : {X Y : Type 0} → (f : Option X → Y) (xs : List X) (a : ℕ) (x : X) → a < length xs → (λ q. f (slice_get (slice_set xs a x) q)) ≡ put (λ q. f (slice_get xs q)) a (f (Some x))
set_is_put {X} {Y} f xs a x lt = λ i. λ q. same q i
  where
    by : (q : ℕ) (t : Bool) → f (cond t (Some x) (slice_get xs q)) ≡ cond t (f (Some x)) (f (slice_get xs q))
    by q true = refl
    by q false = refl

    same : (q : ℕ) → f (slice_get (slice_set xs a x) q) ≡ put (λ q. f (slice_get xs q)) a (f (Some x)) q
    same q = ap f (get_set xs a q x lt) ∙ by q (nat_eq q a)

-- a value that is there already
pub put_same : {Y : Type 0} → (g : ℕ → Y) (a : ℕ) (y : Y) → g a ≡ y → put g a y ≡ g
put_same {Y} g a y e = λ i. λ q. same q i
  where
    by : (q : ℕ) (t : Bool) → nat_eq q a ≡ t → cond t y (g q) ≡ g q
    by q true n = let here : q ≡ a = grind (arith, nat_tests) in sym (ap g here ∙ e)
    by q false n = refl

    same : (q : ℕ) → put g a y q ≡ g q
    same q = by q (nat_eq q a) refl

-- a seat that isn't the one written
pub get_other : {X : Type 0} → (xs : List X) (a q : ℕ) (x : X) → a < length xs → nat_eq q a ≡ false → slice_get (slice_set xs a x) q ≡ slice_get xs q
get_other xs a q x lt ne = get_set xs a q x lt ∙ ap (λ t. cond t (Some x) (slice_get xs q)) ne

pub get_own : {X : Type 0} → (xs : List X) (a : ℕ) (x : X) → a < length xs → slice_get (slice_set xs a x) a ≡ Some x
get_own xs a x lt = let e : nat_eq a a ≡ true = grind (arith, nat_tests) in get_set xs a a x lt ∙ ap (λ t. cond t (Some x) (slice_get xs a)) e

pub set_length : {X : Type 0} → (xs : List X) (a : ℕ) (x : X) → length (slice_set xs a x) ≡ length xs
set_length xs a x = grind (arith, common_steps)
