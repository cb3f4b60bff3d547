-- In a list of segments by address that are apart, at most one has an address: the last that begins at it or before.
use Rattle.std.proofs.Common.{◌≡◌, ◌≢◌, ℕ, zero, suc, ◌+◌, ◌-◌, ◌*◌, ◌/◌, ◌%◌, ◌<◌, ◌≤◌, ◌&&◌, ◌||◌, length, List, [], ◌∷◌, arith, refl, sym, ap, subst, cond, true, false, Bool, not, get_or, nat_lt, nat_le, nat_eq, map, Option, None, Some}
use Rattle.std.specs.List.{list_any, find, All}
use Rattle.std.specs.List.Sorted.{IsPartitionPoint, IsNonDecreasingBy, IsPermutation}
use Rattle.std.proofs.Math.Path.{◌∙◌}
use Rattle.std.proofs.lemmas.Bool.Decides.{nat_tests}
use Rattle.std.proofs.lemmas.List.{length-map, get_or-map}
use Rattle.std.proofs.lemmas.List.Sorted.{All-permutation, IsPermutation-map, list_any-IsPermutation}
use Rattle.og_elf.specs.declared.segment.Segment.{Segment}
use Rattle.og_elf.specs.Segment.{IsLoadable, IsPlaced, are_apart, overlaps, span_of, lies_in, is_text, shares_byte, shares_page}
use Rattle.og_elf.proofs.Apart.{pairs_of, apart_permuted}
use Rattle.og_image.specs.Image.{touches, is_constant, is_written, on_page, Covers, Finds, FindsPages}

-- ------------------------------------------------------------ a test that one segment at most passes

-- where only one element can pass, it is the one that is found
pub find_only : (p : Segment → Bool) (xs : List Segment) (k : ℕ) (d : Segment) → k < length xs → ((j : ℕ) → j < length xs → j ≢ k → p (get_or xs j d) ≡ false) → find p xs ≡ cond (p (get_or xs k d)) (Some (get_or xs k d)) None
find_only p [] k d lt none = absurd (omega arith)
find_only p (x ∷ xs) zero d lt none = ap (λ (o : Option Segment). cond (p x) (Some x) o) (find_none p xs d (λ j h. none (suc j) (omega arith) (omega arith)))
  where
    find_none : (p : Segment → Bool) (xs : List Segment) (d : Segment) → ((j : ℕ) → j < length xs → p (get_or xs j d) ≡ false) → find p xs ≡ None
    find_none p [] d none = refl
    find_none p (x ∷ xs) d none = let here : p x ≡ false = none zero (omega arith) in ap (λ (b : Bool). cond b (Some x) (find p xs)) here ∙ find_none p xs d (λ j h. none (suc j) (omega arith))
find_only p (x ∷ xs) (suc k) d lt none =
    let here : p x ≡ false = none zero (omega arith) (omega arith) in
    ap (λ (b : Bool). cond b (Some x) (find p xs)) here ∙ find_only p xs k d (omega arith) (λ j h ne. none (suc j) (omega arith) (λ e. ne (omega arith)))

pub find_nothing : (p : Segment → Bool) (xs : List Segment) (d : Segment) → ((j : ℕ) → j < length xs → p (get_or xs j d) ≡ false) → find p xs ≡ None
find_nothing p [] d none = refl
find_nothing p (x ∷ xs) d none = let here : p x ≡ false = none zero (omega arith) in ap (λ (b : Bool). cond b (Some x) (find p xs)) here ∙ find_nothing p xs d (λ j h. none (suc j) (omega arith))

any_nothing : (p : Segment → Bool) (xs : List Segment) (d : Segment) → ((j : ℕ) → j < length xs → p (get_or xs j d) ≡ false) → list_any p xs ≡ false
any_nothing p [] d none = refl
any_nothing p (x ∷ xs) d none = let here : p x ≡ false = none zero (omega arith) in ap (λ (b : Bool). b || list_any p xs) here ∙ any_nothing p xs d (λ j h. none (suc j) (omega arith))

any_at : (p : Segment → Bool) (xs : List Segment) (k : ℕ) (d : Segment) → k < length xs → p (get_or xs k d) ≡ true → list_any p xs ≡ true
any_at p [] k d lt h = absurd (omega arith)
any_at p (x ∷ xs) zero d lt h = ap (λ (b : Bool). b || list_any p xs) h
any_at p (x ∷ xs) (suc k) d lt h = go (p x) (any_at p xs k d (omega arith) h)
  where
    go : (b : Bool) → list_any p xs ≡ true → (b || list_any p xs) ≡ true
    go true h = refl
    go false h = h

-- ------------------------------------------------------------ segments of an image

-- what an image keeps of its segments
pub record Kept (xs : List Segment) : Type 0 where
  pub placed : All IsPlaced xs
  pub apart : are_apart (map span_of xs) ≡ true
  pub rising : IsNonDecreasingBy (λ s. s.addr) xs

pub kept_of : (entry : ℕ) (xs : List Segment) → IsLoadable entry xs → IsNonDecreasingBy (λ s. s.addr) xs → Kept xs
kept_of entry xs l up = record { placed = l.placed; apart = l.apart; rising = up }

-- two places of the list don't overlap
pub two_apart : (xs : List Segment) (i j : ℕ) (d : Segment) → Kept xs → i < j → j < length xs → overlaps (span_of (get_or xs i d)) (span_of (get_or xs j d)) ≡ false
two_apart xs i j d k lt in_range =
    let long : length (map span_of xs) ≡ length xs = length-map xs span_of in
    let h : overlaps (get_or (map span_of xs) i (span_of d)) (get_or (map span_of xs) j (span_of d)) ≡ false = pairs_of (map span_of xs) k.apart i j (span_of d) lt (omega arith) in
    rw (get_or-map span_of xs i d (span_of d) (omega arith), get_or-map span_of xs j d (span_of d) in_range) at h

-- an earlier segment ends where a later one begins, or before
pub ends_before : (xs : List Segment) (i j : ℕ) (d : Segment) → Kept xs → i < j → j < length xs → (get_or xs i d).addr + (get_or xs i d).size ≤ (get_or xs j d).addr
ends_before xs i j d k lt in_range =
    byte (get_or xs i d) (get_or xs j d) (k.placed j d in_range).sized (k.rising i j d (omega arith) in_range) (two_apart xs i j d k lt in_range)
  where
    byte : (s t : Segment) → 0 < t.size → s.addr ≤ t.addr → overlaps (span_of s) (span_of t) ≡ false → s.addr + s.size ≤ t.addr
    byte s t some le apart = grind (arith, nat_tests)

by_test : (b : Bool) → (b ≡ true → ⊥) → b ≡ false
by_test true h = absurd (h refl)
by_test false h = refl

others_fail : (p : Segment → Bool) (addr : ℕ) (xs : List Segment) (n : ℕ) (d : Segment) → Covers p addr → Kept xs → IsPartitionPoint (λ s. nat_le s.addr addr ≡ true) (λ s. nat_le s.addr addr ≡ false) xs n → 0 < n → n ≤ length xs →
    (j : ℕ) → j < length xs → j ≢ n - 1 → p (get_or xs j d) ≡ false
others_fail p addr xs n d covers k at some le j in_range ne = by_test (p (get_or xs j d)) (λ passed. go (nat_lt j n) refl (covers (get_or xs j d) passed))
  where
    go : (b : Bool) → nat_lt j n ≡ b → ((get_or xs j d).addr ≤ addr) × (addr < (get_or xs j d).addr + (get_or xs j d).size) → ⊥
    go true is c =
        let before : j < n - 1 = grind (arith, nat_tests) in
        let ends : (get_or xs j d).addr + (get_or xs j d).size ≤ (get_or xs (n - 1) d).addr = ends_before xs j (n - 1) d k before (omega arith) in
        let last : nat_le (get_or xs (n - 1) d).addr addr ≡ true = at.0 (n - 1) d (omega arith) (omega arith) in
        let low : (get_or xs (n - 1) d).addr ≤ addr = grind (arith, nat_tests) in
        omega (arith, c.0, c.1)
    go false is c =
        let late : nat_le (get_or xs j d).addr addr ≡ false = at.1 j d (grind (arith, nat_tests)) in_range in
        let high : addr < (get_or xs j d).addr = grind (arith, nat_tests) in
        omega (arith, c.0)

-- the segment that is found is the last one that begins at the address or before, if it passes
pub found_last : (p : Segment → Bool) (addr : ℕ) (xs : List Segment) (n : ℕ) (d : Segment) → Covers p addr → Kept xs → IsPartitionPoint (λ s. nat_le s.addr addr ≡ true) (λ s. nat_le s.addr addr ≡ false) xs n → 0 < n → n ≤ length xs →
    find p xs ≡ cond (p (get_or xs (n - 1) d)) (Some (get_or xs (n - 1) d)) None
found_last p addr xs n d covers k at some le = find_only p xs (n - 1) d (omega arith) (others_fail p addr xs n d covers k at some le)

pub found_none : (p : Segment → Bool) (addr : ℕ) (xs : List Segment) (d : Segment) → Covers p addr → IsPartitionPoint (λ s. nat_le s.addr addr ≡ true) (λ s. nat_le s.addr addr ≡ false) xs 0 → find p xs ≡ None
found_none p addr xs d covers at = find_nothing p xs d (λ j in_range. by_test (p (get_or xs j d)) (λ passed.
    let late : nat_le (get_or xs j d).addr addr ≡ false = at.1 j d (omega arith) in_range in
    let c : ((get_or xs j d).addr ≤ addr) × (addr < (get_or xs j d).addr + (get_or xs j d).size) = covers (get_or xs j d) passed in
    high (get_or xs j d).addr addr late c.0))
  where
    high : (a b : ℕ) → nat_le a b ≡ false → a ≤ b → ⊥
    high a b h le = grind (arith, nat_tests)

-- ------------------------------------------------------------ the tests

part_left : (a b : Bool) → (a && b) ≡ true → a ≡ true
part_left true b h = refl
part_left false b h = h

part_right : (a b : Bool) → (a && b) ≡ true → b ≡ true
part_right true b h = h
part_right false b h = absurd (cc)

differ : {b : Bool} → b ≡ true → b ≡ false → ⊥
differ {b} h k = let e : true ≡ false = sym h ∙ k in absurd (cc)

lies_covers : (addr count : ℕ) (s : Segment) → 1 ≤ count → lies_in addr count (span_of s) ≡ true → (s.addr ≤ addr) × (addr < s.addr + s.size)
lies_covers addr count s some h = (low (part_left _ _ h), high (part_right (nat_le s.addr addr) _ h))
  where
    low : nat_le s.addr addr ≡ true → s.addr ≤ addr
    low h = grind (arith, nat_tests)

    high : nat_le (addr + count) (s.addr + s.size) ≡ true → addr < s.addr + s.size
    high h = let le : addr + count ≤ s.addr + s.size = grind (arith, nat_tests) in omega arith

pub text_covers : (addr : ℕ) → Covers (is_text addr) addr
text_covers addr s h = lies_covers addr 4 s (omega arith) (part_right s.runnable _ h)

pub constant_covers : (addr width : ℕ) → 1 ≤ width → Covers (is_constant addr width) addr
constant_covers addr width some s h = lies_covers addr width s some (part_right (not s.writable) _ h)

pub written_covers : (addr : ℕ) → Covers (is_written addr) addr
written_covers addr s h = lies_covers addr 1 s (omega arith) (part_right s.writable _ h)

-- ------------------------------------------------------------ pages

touching : (page : ℕ) (s : Segment) → touches page s ≡ true → (page * 4096 < s.addr + s.size) × (s.addr < page * 4096 + 4096)
touching page s h = (low (part_left _ _ h), high (part_right (nat_lt (page * 4096) (s.addr + s.size)) _ h))
  where
    low : nat_lt (page * 4096) (s.addr + s.size) ≡ true → page * 4096 < s.addr + s.size
    low h = grind (arith, nat_tests)

    high : nat_lt s.addr (page * 4096 + 4096) ≡ true → s.addr < page * 4096 + 4096
    high h = grind (arith, nat_tests)

touches_from : (page : ℕ) (s : Segment) → page * 4096 < s.addr + s.size → s.addr < page * 4096 + 4096 → touches page s ≡ true
touches_from page s low high = grind (arith, nat_tests)

-- two segments on one page that don't overlap are both writable, or both not
alike : (page : ℕ) (s t : Segment) → touches page s ≡ true → touches page t ≡ true → overlaps (span_of s) (span_of t) ≡ false → s.writable ≡ true → t.writable ≡ true
alike page s t hs ht apart w =
    let a : (page * 4096 < s.addr + s.size) × (s.addr < page * 4096 + 4096) = touching page s hs in
    let b : (page * 4096 < t.addr + t.size) × (t.addr < page * 4096 + 4096) = touching page t ht in
    let one : s.addr / 4096 ≤ (t.addr + t.size - 1) / 4096 = pages page s.addr (t.addr + t.size) a.1 b.0 in
    let two : t.addr / 4096 ≤ (s.addr + s.size - 1) / 4096 = pages page t.addr (s.addr + s.size) b.1 a.0 in
    let share : shares_page (span_of s) (span_of t) ≡ true = grind (arith, nat_tests) in
    go t.writable (shares_byte (span_of s) (span_of t)) (shares_page (span_of s) (span_of t)) s.writable w share apart
  where
    pages : (page x y : ℕ) → x < page * 4096 + 4096 → page * 4096 < y → x / 4096 ≤ (y - 1) / 4096
    pages page x y lt gt = omega arith

    go : (v b p u : Bool) → u ≡ true → p ≡ true → (b || (cond u (not v) v && p)) ≡ false → v ≡ true
    go v b p u hu hp h = grind (arith, nat_tests)

either_false : (a b : Bool) → b ≡ false → (a && b) ≡ false
either_false true b h = h
either_false false b h = refl

under : (a b : ℕ) → nat_le a b ≡ true → a ≤ b
under a b h = grind (arith, nat_tests)

over : (a b : ℕ) → nat_le a b ≡ false → b < a
over a b h = grind (arith, nat_tests)

-- a page has a byte of a writable segment just where the last segment that begins on it or before has one and is writable
pub page_last : (page : ℕ) (xs : List Segment) (n : ℕ) (d : Segment) → Kept xs → IsPartitionPoint (λ s. nat_le s.addr (page * 4096 + 4095) ≡ true) (λ s. nat_le s.addr (page * 4096 + 4095) ≡ false) xs n → 0 < n → n ≤ length xs →
    list_any (on_page page) xs ≡ on_page page (get_or xs (n - 1) d)
page_last page xs n d k at some le = go (on_page page (get_or xs (n - 1) d)) refl
  where
    last_low : nat_le (get_or xs (n - 1) d).addr (page * 4096 + 4095) ≡ true
    last_low = at.0 (n - 1) d (omega arith) (omega arith)

    -- an earlier one that is on the page
    earlier : (j : ℕ) → j < n - 1 → on_page page (get_or xs j d) ≡ true → on_page page (get_or xs (n - 1) d) ≡ true
    earlier j lt passed =
        let w : (get_or xs j d).writable ≡ true = part_left _ _ passed in
        let t : touches page (get_or xs j d) ≡ true = part_right (get_or xs j d).writable _ passed in
        let c : (page * 4096 < (get_or xs j d).addr + (get_or xs j d).size) × ((get_or xs j d).addr < page * 4096 + 4096) = touching page (get_or xs j d) t in
        let ends : (get_or xs j d).addr + (get_or xs j d).size ≤ (get_or xs (n - 1) d).addr = ends_before xs j (n - 1) d k lt (omega arith) in
        let low : (get_or xs (n - 1) d).addr ≤ page * 4096 + 4095 = under (get_or xs (n - 1) d).addr (page * 4096 + 4095) last_low in
        let here : touches page (get_or xs (n - 1) d) ≡ true = touches_from page (get_or xs (n - 1) d) (omega (arith, c.0)) (omega arith) in
        let v : (get_or xs (n - 1) d).writable ≡ true = alike page (get_or xs j d) (get_or xs (n - 1) d) t here (two_apart xs j (n - 1) d k lt (omega arith)) w in
        rw (v, here) refl

    -- a later one begins after the page
    later : (j : ℕ) → n ≤ j → j < length xs → on_page page (get_or xs j d) ≡ false
    later j ge in_range =
        let late : page * 4096 + 4095 < (get_or xs j d).addr = over (get_or xs j d).addr (page * 4096 + 4095) (at.1 j d ge in_range) in
        let out : touches page (get_or xs j d) ≡ false = grind (arith, nat_tests) in
        either_false (get_or xs j d).writable (touches page (get_or xs j d)) out

    same_or_later : (j : ℕ) → j < length xs → on_page page (get_or xs j d) ≡ true → on_page page (get_or xs (n - 1) d) ≡ false → n - 1 ≤ j → (b : Bool) → nat_eq j (n - 1) ≡ b → ⊥
    same_or_later j in_range passed fails ge true eq = let same : j ≡ n - 1 = grind (arith, nat_tests) in differ (subst (λ (m : ℕ). on_page page (get_or xs m d) ≡ true) same passed) fails
    same_or_later j in_range passed fails ge false eq = let past : n ≤ j = grind (arith, nat_tests) in differ passed (later j past in_range)

    at_place : (j : ℕ) → j < length xs → on_page page (get_or xs j d) ≡ true → on_page page (get_or xs (n - 1) d) ≡ false → (b : Bool) → nat_lt j (n - 1) ≡ b → ⊥
    at_place j in_range passed fails true is =
        let before : j < n - 1 = grind (arith, nat_tests) in
        let h : on_page page (get_or xs (n - 1) d) ≡ true = earlier j before passed in
        differ h fails
    at_place j in_range passed fails false is = same_or_later j in_range passed fails (grind (arith, nat_tests)) (nat_eq j (n - 1)) refl

    go : (b : Bool) → on_page page (get_or xs (n - 1) d) ≡ b → list_any (on_page page) xs ≡ on_page page (get_or xs (n - 1) d)
    go true is = any_at (on_page page) xs (n - 1) d (omega arith) is ∙ sym is
    go false is = any_nothing (on_page page) xs d (λ j in_range. by_test (on_page page (get_or xs j d)) (λ passed. at_place j in_range passed is (nat_lt j (n - 1)) refl)) ∙ sym is

-- ------------------------------------------------------------ the last segment up to an address

abbrev pub At : ℕ → List Segment → ℕ → Type 0
At addr xs n = IsPartitionPoint (λ s. nat_le s.addr addr ≡ true) (λ s. nat_le s.addr addr ≡ false) xs n

pub finds_last : (addr : ℕ) (xs : List Segment) (n : ℕ) (s : Segment) → Kept xs → At addr xs n → 0 < n → n ≤ length xs → s ≡ get_or xs (n - 1) s → Finds addr xs (Some s)
finds_last addr xs n s k at some le is p covers = found_last p addr xs n s covers k at some le ∙ ap (λ (t : Segment). cond (p t) (Some t) None) (sym is)

pub finds_none : (addr : ℕ) (xs : List Segment) (n : ℕ) (d : Segment) → At addr xs n → n ≡ 0 → Finds addr xs None
finds_none addr xs n d at none p covers = found_none p addr xs d covers (subst (λ (m : ℕ). At addr xs m) none at)

pub pages_last : (addr : ℕ) (xs : List Segment) (n : ℕ) (s : Segment) → Kept xs → At addr xs n → 0 < n → n ≤ length xs → s ≡ get_or xs (n - 1) s → FindsPages addr xs (Some s)
pages_last addr xs n s k at some le is page ends = page_last page xs n s k (subst (λ (a : ℕ). At a xs n) (sym ends) at) some le ∙ ap (λ (t : Segment). on_page page t) (sym is)

pub pages_none : (addr : ℕ) (xs : List Segment) (n : ℕ) (d : Segment) → At addr xs n → n ≡ 0 → FindsPages addr xs None
pages_none addr xs n d at none page ends = any_nothing (on_page page) xs d (λ j in_range.
    let late : addr < (get_or xs j d).addr = over (get_or xs j d).addr addr (at.1 j d (omega arith) in_range) in
    let out : touches page (get_or xs j d) ≡ false = past page (get_or xs j d) (omega arith) in
    either_false (get_or xs j d).writable (touches page (get_or xs j d)) out)
  where
    past : (page : ℕ) (s : Segment) → page * 4096 + 4095 < s.addr → touches page s ≡ false
    past page s lt = grind (arith, nat_tests)

-- no segment is on a stack page
pub high_page : (page : ℕ) (xs : List Segment) (d : Segment) → All IsPlaced xs → 458752 ≤ page → list_any (on_page page) xs ≡ false
high_page page xs d placed high = any_nothing (on_page page) xs d (λ j in_range. either_false (get_or xs j d).writable (touches page (get_or xs j d)) (above page (get_or xs j d) high (placed j d in_range).below))
  where
    above : (page : ℕ) (s : Segment) → 458752 ≤ page → s.addr + s.size ≤ 0x70000000 → touches page s ≡ false
    above page s high below = let le : s.addr + s.size ≤ page * 4096 = omega arith in grind (arith, nat_tests)

-- what can be loaded can be loaded in any order
pub loadable_permuted : (entry : ℕ) (xs ys : List Segment) → IsPermutation xs ys → IsLoadable entry xs → IsLoadable entry ys
loadable_permuted entry xs ys p l = record {
  placed = All-permutation IsPlaced xs ys p l.placed;
  apart = apart_permuted (map span_of xs) (map span_of ys) (IsPermutation-map span_of xs ys p) ∙ l.apart;
  guarded = All-permutation (λ s. (s.writable && s.runnable) ≡ false) xs ys p l.guarded;
  entered = ap (λ (b : Bool). nat_eq (entry % 4) 0 && b) (sym (list_any-IsPermutation (is_text entry) xs ys p)) ∙ l.entered;
}
