-- Spans that don't overlap: pairs, neighbours of a sorted list, and the order of a list.
use Rattle.std.proofs.Common.{◌≡◌, ◌≢◌, ℕ, zero, suc, ◌+◌, ◌<◌, ◌≤◌, ◌&&◌, ◌||◌, length, List, [], ◌∷◌, arith, refl, subst, cond, true, false, Bool, not, get_or, nat_lt, nat_le, nat_eq}
use Rattle.std.specs.List.{list_any, swap, AllPairs, All, AllAdjacentBelow}
use Rattle.std.specs.List.Sorted.{IsPermutation, IsNonDecreasingBy}
use Rattle.std.proofs.Math.Path.{◌∙◌}
use Rattle.std.proofs.lemmas.Bool.Decides.{nat_tests}
use Rattle.std.proofs.lemmas.List.Folds.{list_any_at, list_any_none}
use Rattle.std.proofs.lemmas.List.Edits.{swapped_from_swap, length-swap, Swapped}
use Rattle.std.proofs.lemmas.List.Sorted.{IsPermutation-keeps, IsPermutation-sym}
use Rattle.og_elf.specs.declared.segment.Span.{Span}
use Rattle.og_elf.specs.Span.{IsWithin}
use Rattle.og_elf.specs.Segment.{overlaps, shares_byte, shares_page, is_mixed, first_page, last_page, end_of, are_apart}

abbrev Apart : Span → Span → Type 0
Apart s t = overlaps s t ≡ false

pub overlaps_sym : (s t : Span) → overlaps s t ≡ overlaps t s
overlaps_sym s t = flip (nat_lt s.addr (end_of t)) (nat_lt t.addr (end_of s)) s.writable t.writable (nat_le (first_page s) (last_page t)) (nat_le (first_page t) (last_page s))
  where
    flip : (a b v w p q : Bool) → ((a && b) || (cond v (not w) w && (p && q))) ≡ ((b && a) || (cond w (not v) v && (q && p)))
    flip true true v w p q = refl
    flip true false true true p q = refl
    flip true false false false p q = refl
    flip true false true false true true = refl
    flip true false true false true false = refl
    flip true false true false false true = refl
    flip true false true false false false = refl
    flip true false false true true true = refl
    flip true false false true true false = refl
    flip true false false true false true = refl
    flip true false false true false false = refl
    flip false true true true p q = refl
    flip false true false false p q = refl
    flip false true true false true true = refl
    flip false true true false true false = refl
    flip false true true false false true = refl
    flip false true true false false false = refl
    flip false true false true true true = refl
    flip false true false true true false = refl
    flip false true false true false true = refl
    flip false true false true false false = refl
    flip false false true true p q = refl
    flip false false false false p q = refl
    flip false false true false true true = refl
    flip false false true false true false = refl
    flip false false true false false true = refl
    flip false false true false false false = refl
    flip false false false true true true = refl
    flip false false false true true false = refl
    flip false false false true false true = refl
    flip false false false true false false = refl

-- what two spans that don't overlap say, of which the first begins first
before_byte : (s t : Span) → 0 < t.size → s.addr ≤ t.addr → Apart s t → s.addr + s.size ≤ t.addr
before_byte s t some le apart = grind (arith, nat_tests)

before_page : (s t : Span) → 0 < s.size → s.addr ≤ t.addr → 0 < t.size → is_mixed s t ≡ true → Apart s t → last_page s < first_page t
before_page s t some le sized mixed apart =
    let low : first_page s ≤ last_page t = omega arith in
    pages (shares_byte s t) (first_page s) (last_page s) (first_page t) (last_page t) low (is_mixed s t) mixed apart
  where
    pages : (b : Bool) (p q x y : ℕ) → p ≤ y → (m : Bool) → m ≡ true → (b || (m && (nat_le p y && nat_le x q))) ≡ false → q < x
    pages b p q x y low m is h = grind (arith, nat_tests)

-- and what says that they don't
apart_pages : (s u : Span) → s.addr + s.size ≤ u.addr → last_page s < first_page u → Apart s u
apart_pages s u byte page =
    let here : shares_byte s u ≡ false = grind (arith, nat_tests) in
    let there : shares_page s u ≡ false = grind (arith, nat_tests) in
    joined (shares_byte s u) (is_mixed s u) (shares_page s u) here there
  where
    joined : (b m p : Bool) → b ≡ false → p ≡ false → (b || (m && p)) ≡ false
    joined b m p h k = grind (arith, nat_tests)

apart_alike : (s u : Span) → s.addr + s.size ≤ u.addr → is_mixed s u ≡ false → Apart s u
apart_alike s u byte alike =
    let here : shares_byte s u ≡ false = grind (arith, nat_tests) in
    joined (shares_byte s u) (is_mixed s u) (shares_page s u) here alike
  where
    joined : (b m p : Bool) → b ≡ false → m ≡ false → (b || (m && p)) ≡ false
    joined b m p h k = grind (arith, nat_tests)

-- of three spans in rising order, the outer two don't overlap where neighbours don't
pub over_one : (s t u : Span) → IsWithin s → IsWithin t → IsWithin u → s.addr ≤ t.addr → t.addr ≤ u.addr → Apart s t → Apart t u → Apart s u
over_one s t u hs ht hu st tu one two =
    let first : s.addr + s.size ≤ t.addr = before_byte s t ht.sized st one in
    let byte : s.addr + s.size ≤ u.addr = omega arith in
    go s.writable t.writable u.writable refl refl refl byte
  where
    later : first_page t ≤ first_page u
    later = let le : t.addr ≤ u.addr = tu in omega arith

    go : (a b c : Bool) → s.writable ≡ a → t.writable ≡ b → u.writable ≡ c → s.addr + s.size ≤ u.addr → Apart s u
    go true b true is js ks byte = apart_alike s u byte (rw (is, ks) refl)
    go false b false is js ks byte = apart_alike s u byte (rw (is, ks) refl)
    go true false false is js ks byte =
        let page : last_page s < first_page t = before_page s t hs.sized st ht.sized (rw (is, js) refl) one in
        apart_pages s u byte (omega (arith, later))
    go false true true is js ks byte =
        let page : last_page s < first_page t = before_page s t hs.sized st ht.sized (rw (is, js) refl) one in
        apart_pages s u byte (omega (arith, later))
    go true true false is js ks byte =
        let page : last_page t < first_page u = before_page t u ht.sized tu hu.sized (rw (js, ks) refl) two in
        let end : s.addr + s.size ≤ t.addr = before_byte s t ht.sized st one in
        let some : 0 < t.size = ht.sized in
        let mid : last_page s ≤ last_page t = omega arith in
        apart_pages s u byte (omega arith)
    go false false true is js ks byte =
        let page : last_page t < first_page u = before_page t u ht.sized tu hu.sized (rw (js, ks) refl) two in
        let end : s.addr + s.size ≤ t.addr = before_byte s t ht.sized st one in
        let some : 0 < t.size = ht.sized in
        let mid : last_page s ≤ last_page t = omega arith in
        apart_pages s u byte (omega arith)

-- ------------------------------------------------------------ pairs

none_at : (p : Span → Bool) (xs : List Span) (k : ℕ) (d : Span) → list_any p xs ≡ false → k < length xs → p (get_or xs k d) ≡ false
none_at p xs k d none lt = go (p (get_or xs k d)) refl
  where
    go : (b : Bool) → p (get_or xs k d) ≡ b → p (get_or xs k d) ≡ false
    go false is = is
    go true is = let some : list_any p xs ≡ true = list_any_at p xs k d lt is in absurd (cc)

pub first_of : (s : Span) (ss : List Span) → are_apart (s ∷ ss) ≡ true → list_any (overlaps s) ss ≡ false
first_of s ss h = go (list_any (overlaps s) ss) (are_apart ss) h
  where
    go : (a b : Bool) → (not a && b) ≡ true → a ≡ false
    go false b h = refl
    go true b h = absurd (cc)

pub rest_of : (s : Span) (ss : List Span) → are_apart (s ∷ ss) ≡ true → are_apart ss ≡ true
rest_of s ss h = go (list_any (overlaps s) ss) (are_apart ss) h
  where
    go : (a b : Bool) → (not a && b) ≡ true → b ≡ true
    go false b h = h
    go true b h = absurd (cc)

pub apart_cons : (s : Span) (ss : List Span) → list_any (overlaps s) ss ≡ false → are_apart ss ≡ true → are_apart (s ∷ ss) ≡ true
apart_cons s ss none rest = rw (none, rest) refl

pub pairs_of : (xs : List Span) → are_apart xs ≡ true → AllPairs Apart xs
pairs_of [] h i j d lt in_range = absurd (omega arith)
pairs_of (s ∷ ss) h zero zero d lt in_range = absurd (omega arith)
pairs_of (s ∷ ss) h zero (suc j) d lt in_range = none_at (overlaps s) ss j d (first_of s ss h) (omega arith)
pairs_of (s ∷ ss) h (suc i) zero d lt in_range = absurd (omega arith)
pairs_of (s ∷ ss) h (suc i) (suc j) d lt in_range = pairs_of ss (rest_of s ss h) i j d (omega arith) (omega arith)

pub apart_of : (xs : List Span) → AllPairs Apart xs → are_apart xs ≡ true
apart_of [] h = refl
apart_of (s ∷ ss) h =
    apart_cons s ss (list_any_none (overlaps s) ss (λ k d lt. h zero (suc k) d (omega arith) (omega arith)))
    (apart_of ss (λ i j d lt in_range. h (suc i) (suc j) d (omega arith) (omega arith)))

-- ------------------------------------------------------------ the order of a list

-- no two places of the list overlap
Each : List Span → Type 0
Each xs = (i j : ℕ) (d : Span) → i ≢ j → i < length xs → j < length xs → Apart (get_or xs i d) (get_or xs j d)

each_of : (xs : List Span) → are_apart xs ≡ true → Each xs
unfolding Each
each_of xs h i j d ne hi hj = go (nat_lt i j) refl
  where
    go : (b : Bool) → nat_lt i j ≡ b → Apart (get_or xs i d) (get_or xs j d)
    go true is = pairs_of xs h i j d (grind (arith, nat_tests)) hj
    go false is = let lt : j < i = grind (arith, nat_tests) in overlaps_sym (get_or xs i d) (get_or xs j d) ∙ pairs_of xs h j i d lt hi

of_each : (xs : List Span) → Each xs → are_apart xs ≡ true
unfolding Each
of_each xs h = apart_of xs (λ i j d lt in_range. h i j d (omega arith) (omega arith) in_range)

-- the place that a swap takes an element from
source : ℕ → ℕ → ℕ → ℕ
source a b m = cond (nat_eq m a) b (cond (nat_eq m b) a m)

source_is : (f g : ℕ → Span) (a b m : ℕ) → Swapped f g a b → g m ≡ f (source a b m)
unfolding source
source_is f g a b m h = go (nat_eq m a) (nat_eq m b) refl refl
  where
    go : (u v : Bool) → nat_eq m a ≡ u → nat_eq m b ≡ v → g m ≡ f (cond (nat_eq m a) b (cond (nat_eq m b) a m))
    go true v is js = let same : m ≡ a = grind (arith, nat_tests) in rw (is, same) h.0
    go false true is js = let same : m ≡ b = grind (arith, nat_tests) in rw (is, js, same) h.1
    go false false is js = rw (is, js) (h.2 m (λ e. grind (arith, nat_tests)) (λ e. grind (arith, nat_tests)))

source_apart : (a b i j : ℕ) → i ≢ j → source a b i ≢ source a b j
unfolding source
source_apart a b i j ne = grind (arith, nat_tests)

source_below : (a b n i : ℕ) → a < n → b < n → i < n → source a b i < n
unfolding source
source_below a b n i ha hb hi = grind (arith, nat_tests)

swapped : (l : List Span) (a b : ℕ) → a < length l → b < length l → Each l → Each (swap l a b)
unfolding Each
swapped l a b ha hb h i j d ne hi hj =
    let long : length (swap l a b) ≡ length l = length-swap l a b in
    let s : Swapped (λ k. get_or l k d) (λ k. get_or (swap l a b) k d) a b = swapped_from_swap l (swap l a b) a b d ha hb refl in
    let x : get_or (swap l a b) i d ≡ get_or l (source a b i) d = source_is (λ k. get_or l k d) (λ k. get_or (swap l a b) k d) a b i s in
    let y : get_or (swap l a b) j d ≡ get_or l (source a b j) d = source_is (λ k. get_or l k d) (λ k. get_or (swap l a b) k d) a b j s in
    rw (x, y) (h (source a b i) (source a b j) d (source_apart a b i j ne) (source_below a b (length l) i ha hb (omega arith)) (source_below a b (length l) j ha hb (omega arith)))

shuffled : (xs ys : List Span) → IsPermutation xs ys → are_apart xs ≡ true → are_apart ys ≡ true
shuffled xs ys p h = of_each ys (IsPermutation-keeps xs Each (each_of xs h) swapped ys p)

-- whether spans are apart doesn't go by their order
pub apart_permuted : (xs ys : List Span) → IsPermutation xs ys → are_apart ys ≡ are_apart xs
apart_permuted xs ys p = go (are_apart xs) (are_apart ys) refl refl
  where
    go : (a b : Bool) → are_apart xs ≡ a → are_apart ys ≡ b → are_apart ys ≡ are_apart xs
    go true b is js = let h : are_apart ys ≡ true = shuffled xs ys p is in cc
    go false false is js = cc
    go false true is js = let h : are_apart xs ≡ true = shuffled ys xs (IsPermutation-sym xs ys p) js in absurd (cc)

-- ------------------------------------------------------------ neighbours

past : (s : Span) (ss : List Span) → IsWithin s → All IsWithin ss → IsNonDecreasingBy (λ t. t.addr) (s ∷ ss) → AllAdjacentBelow Apart (s ∷ ss) (length (s ∷ ss)) → are_apart ss ≡ true → list_any (overlaps s) ss ≡ false
past s [] hs within up next rest = refl
past s (t ∷ ts) hs within up next rest =
    let ht : IsWithin t = within zero t (omega arith) in
    let st : s.addr ≤ t.addr = up zero (suc zero) s (omega arith) (omega arith) in
    let one : Apart s t = next zero s (omega arith) in
    let later : list_any (overlaps s) ts ≡ false = list_any_none (overlaps s) ts (λ k d lt.
    over_one s t (get_or ts k d) hs ht (within (suc k) d (omega arith)) st (up (suc zero) (suc (suc k)) d (omega arith) (omega arith)) one (none_at (overlaps t) ts k d (first_of t ts rest) lt)) in
    rw (one, later) refl

-- of spans with rising addresses it is enough that neighbours don't overlap
pub neighbours : (xs : List Span) → All IsWithin xs → IsNonDecreasingBy (λ t. t.addr) xs → AllAdjacentBelow Apart xs (length xs) → are_apart xs ≡ true
neighbours [] within up next = refl
neighbours (s ∷ ss) within up next =
    let rest : are_apart ss ≡ true = neighbours ss (λ k d lt. within (suc k) d (omega arith)) (λ i j d le lt. up (suc i) (suc j) d (omega arith) (omega arith)) (λ k d lt. later k d (next (suc k) d (omega arith))) in
    apart_cons s ss (past s ss (within zero s (omega arith)) (λ k d lt. within (suc k) d (omega arith)) up next rest) rest
  where
    later : (k : ℕ) (d : Span) → Apart (get_or ss k d) (get_or (s ∷ ss) (suc k + 1) d) → Apart (get_or ss k d) (get_or ss (k + 1) d)
    later k d h = let same : suc k + 1 ≡ suc (k + 1) = omega arith in subst (λ (n : ℕ). Apart (get_or ss k d) (get_or (s ∷ ss) n d)) same h

pub not_apart : (xs : List Span) (i j : ℕ) (d : Span) → i < j → j < length xs → overlaps (get_or xs i d) (get_or xs j d) ≡ true → are_apart xs ≡ false
not_apart xs i j d lt in_range h = go (are_apart xs) refl
  where
    go : (b : Bool) → are_apart xs ≡ b → are_apart xs ≡ false
    go false is = is
    go true is = let apart : overlaps (get_or xs i d) (get_or xs j d) ≡ false = pairs_of xs is i j d lt in_range in absurd (cc)
