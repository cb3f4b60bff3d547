-- Dropping a page's slot, or all slots with a frame, is what the rows do to the node's entries.
use Rattle.std.proofs.Common.{◌≡◌, ℕ, true, false, Bool, cond, nat_eq, arith, List, [], ◌∷◌}
use Rattle.std.proofs.lemmas.Bool.Decides.{nat_tests}
use Rattle.og_pages.specs.State.{NoEntry}
use Rattle.og_pages.specs.Rows.{points_to}
use Rattle.og_pages.specs.TlbSlots.{Slot, Empty, Filled, look_up, IsAbsent, IsDistinct, without_page, without_frame, ForgetIsRow, DropIsRow}

look_up_forgotten : (xs : List Slot) (page z : ℕ) → look_up z (without_page page xs) ≡ cond (nat_eq z page) NoEntry (look_up z xs)
look_up_forgotten [] page z = grind (arith, nat_tests)
look_up_forgotten (Empty ∷ xs) page z = look_up_forgotten xs page z
look_up_forgotten (Filled y f ∷ xs) page z = let r = look_up_forgotten xs page z in grind (arith, nat_tests)

distinct_forgotten : (xs : List Slot) (page : ℕ) → IsDistinct xs → IsDistinct (without_page page xs)
distinct_forgotten [] page d = tt
distinct_forgotten (Empty ∷ xs) page d = (tt, distinct_forgotten xs page d.1)
distinct_forgotten (Filled y f ∷ xs) page d = (by (nat_eq y page) (look_up_forgotten xs page y), distinct_forgotten xs page d.1)
  where
    by : (t : Bool) → look_up y (without_page page xs) ≡ cond t NoEntry (look_up y xs) → IsAbsent (cond t Empty (Filled y f)) (without_page page xs)
    by true r = tt
    by false r = let a : look_up y xs ≡ NoEntry = d.0 in cc

look_up_dropped : (xs : List Slot) (frame z : ℕ) → IsDistinct xs → look_up z (without_frame frame xs) ≡ cond (points_to frame (look_up z xs)) NoEntry (look_up z xs)
look_up_dropped [] frame z d = grind arith
look_up_dropped (Empty ∷ xs) frame z d = look_up_dropped xs frame z d.1
look_up_dropped (Filled y f ∷ xs) frame z d = let r = look_up_dropped xs frame z d.1 in let a : look_up y xs ≡ NoEntry = d.0 in grind (arith, nat_tests)

distinct_dropped : (xs : List Slot) (frame : ℕ) → IsDistinct xs → IsDistinct (without_frame frame xs)
distinct_dropped [] frame d = tt
distinct_dropped (Empty ∷ xs) frame d = (tt, distinct_dropped xs frame d.1)
distinct_dropped (Filled y f ∷ xs) frame d = (by (nat_eq frame f) (look_up_dropped xs frame y d.1), distinct_dropped xs frame d.1)
  where
    by : (t : Bool) → look_up y (without_frame frame xs) ≡ cond (points_to frame (look_up y xs)) NoEntry (look_up y xs) → IsAbsent (cond t Empty (Filled y f)) (without_frame frame xs)
    by true r = tt
    by false r = let a : look_up y xs ≡ NoEntry = d.0 in grind arith

pub forget_is_row : {L : Type 0} → ForgetIsRow L
forget_is_row s slots node page d shows = (λ z. (let r = look_up_forgotten slots page z in let e = shows z in grind (arith, nat_tests)), distinct_forgotten slots page d)

pub drop_is_row : {L : Type 0} → DropIsRow L
drop_is_row s slots node frame d shows = (λ z. (let r = look_up_dropped slots frame z d in let e = shows z in grind (arith, nat_tests)), distinct_dropped slots frame d)
