-- A fill of a TLB slot is the rows that forget the page that stood there and fill the walk's page.
use Rattle.std.proofs.Common.{◌≡◌, ℕ, zero, suc, true, cond, nat_eq, arith, List, [], ◌∷◌}
use Rattle.std.proofs.lemmas.Bool.Decides.{nat_tests}
use Rattle.og_pages.specs.State.{NoEntry, To}
use Rattle.og_pages.specs.TlbSlots.{Slot, Empty, Filled, is_for, entry_of, look_up, IsAbsent, IsDistinct, with_slot, slot_at, has_slot, after_fill, FillIsRows}

-- the page that stands in a slot is found there
found : (xs : List Slot) (i z : ℕ) → IsDistinct xs → is_for (slot_at xs i) z ≡ true → look_up z xs ≡ entry_of (slot_at xs i)
found [] i z d e = absurd (cc)
found (x ∷ xs) zero z d e = grind arith
found (x ∷ xs) (suc i) z d e = let h = found xs i z d.1 e in by x d.0 h
  where
    by : (x : Slot) → IsAbsent x xs → look_up z xs ≡ entry_of (slot_at xs i) → cond (is_for x z) (entry_of x) (look_up z xs) ≡ entry_of (slot_at xs i)
    by Empty a h = h
    by (Filled y f) a h = clash (slot_at xs i) e h
      where
        clash : (s : Slot) → is_for s z ≡ true → look_up z xs ≡ entry_of s → cond (nat_eq y z) (To f) (look_up z xs) ≡ entry_of s
        clash Empty e h = absurd (cc)
        clash (Filled u g) e h = grind (arith, nat_tests)

rest_absent : (x : Slot) (y : ℕ) (xs : List Slot) → cond (is_for x y) (entry_of x) (look_up y xs) ≡ NoEntry → look_up y xs ≡ NoEntry
rest_absent Empty y xs a = a
rest_absent (Filled u g) y xs a = grind (arith, nat_tests)

look_up_filled : (xs : List Slot) (i y f z : ℕ) → IsDistinct xs → has_slot xs i ≡ true → look_up y xs ≡ NoEntry →
    look_up z (with_slot xs i (Filled y f)) ≡ cond (nat_eq z y) (To f) (cond (is_for (slot_at xs i) z) NoEntry (look_up z xs))
look_up_filled [] i y f z d h a = absurd (cc)
look_up_filled (x ∷ xs) zero y f z d h a = by x d.0
  where
    by : (x : Slot) → IsAbsent x xs → cond (nat_eq y z) (To f) (look_up z xs) ≡ cond (nat_eq z y) (To f) (cond (is_for x z) NoEntry (cond (is_for x z) (entry_of x) (look_up z xs)))
    by Empty n = grind (arith, nat_tests)
    by (Filled u g) n = grind (arith, nat_tests)
look_up_filled (x ∷ xs) (suc i) y f z d h a =
    let r = look_up_filled xs i y f z d.1 h (rest_absent x y xs a) in
    by x a d.0 r (λ e. found xs i z d.1 e)
  where
    by : (x : Slot) → cond (is_for x y) (entry_of x) (look_up y xs) ≡ NoEntry → IsAbsent x xs → look_up z (with_slot xs i (Filled y f)) ≡ cond (nat_eq z y) (To f) (cond (is_for (slot_at xs i) z) NoEntry (look_up z xs)) → (is_for (slot_at xs i) z ≡ true → look_up z xs ≡ entry_of (slot_at xs i)) →
        cond (is_for x z) (entry_of x) (look_up z (with_slot xs i (Filled y f))) ≡ cond (nat_eq z y) (To f) (cond (is_for (slot_at xs i) z) NoEntry (cond (is_for x z) (entry_of x) (look_up z xs)))
    by Empty a n r o = r
    by (Filled u g) a n r o = clash (slot_at xs i) r o
      where
        clash : (s : Slot) → look_up z (with_slot xs i (Filled y f)) ≡ cond (nat_eq z y) (To f) (cond (is_for s z) NoEntry (look_up z xs)) → (is_for s z ≡ true → look_up z xs ≡ entry_of s) → cond (nat_eq u z) (To g) (look_up z (with_slot xs i (Filled y f))) ≡ cond (nat_eq z y) (To f) (cond (is_for s z) NoEntry (cond (nat_eq u z) (To g) (look_up z xs)))
        clash Empty r o = grind (arith, nat_tests)
        clash (Filled v k) r o = grind (arith, nat_tests)

distinct_filled : (xs : List Slot) (i y f : ℕ) → IsDistinct xs → has_slot xs i ≡ true → look_up y xs ≡ NoEntry → IsDistinct (with_slot xs i (Filled y f))
distinct_filled [] i y f d h a = tt
distinct_filled (x ∷ xs) zero y f d h a = (rest_absent x y xs a, d.1)
distinct_filled (x ∷ xs) (suc i) y f d h a = (by x a d.0, distinct_filled xs i y f d.1 h (rest_absent x y xs a))
  where
    by : (x : Slot) → cond (is_for x y) (entry_of x) (look_up y xs) ≡ NoEntry → IsAbsent x xs → IsAbsent x (with_slot xs i (Filled y f))
    by Empty a n = tt
    by (Filled u g) a n = let r = look_up_filled xs i y f u d.1 h (rest_absent (Filled u g) y xs a) in grind (arith, nat_tests)

pub fill_is_rows : {L : Type 0} → FillIsRows L
fill_is_rows {L} s slots index node page frame d h a shows = (λ z. shown (slot_at slots index) z (look_up_filled slots index page frame z d h a) (shows z), distinct_filled slots index page frame d h a)
  where
    shown : (slot : Slot) (z : ℕ) → look_up z (with_slot slots index (Filled page frame)) ≡ cond (nat_eq z page) (To frame) (cond (is_for slot z) NoEntry (look_up z slots)) → look_up z slots ≡ s.tlb node z → look_up z (with_slot slots index (Filled page frame)) ≡ (after_fill node page frame slot s).tlb node z
    shown Empty z r e = grind (arith, nat_tests)
    shown (Filled old other) z r e = grind (arith, nat_tests)
