-- The data pages by a pass over the segments in the order of their addresses.
use Rattle.std.proofs.Common.{◌≡◌, ℕ, zero, suc, ◌+◌, ◌-◌, ◌/◌, ◌<◌, ◌≤◌, ◌&&◌, Bool, true, false, length, List, arith, refl, get_or, sym, subst, inl, inr, ◌⊎◌, nat_lt, append-nil, add-zero}
use Rattle.std.specs.Prelude.{All, max}
use Rattle.std.specs.List.{filter, list_any}
use Rattle.std.specs.List.Sorted.{IsNonDecreasingBy}
use Rattle.std.proofs.Math.Path.{◌∙◌}
use Rattle.std.proofs.lemmas.Bool.{cases_Bool}
use Rattle.std.proofs.lemmas.Bool.Decides.{nat_tests}
use Rattle.std.proofs.lemmas.List.{get_or_default}
use Rattle.std.proofs.lemmas.List.Folds.{list_any_at, list_any_none}
use Rattle.og_base.specs.Numbers.{below}
use Rattle.og_elf.specs.declared.segment.Segment.{Segment}
use Rattle.og_elf.specs.Segment.{IsPlaced, end_of, span_of}
use Rattle.og_image.specs.Image.{ImageState, is_data_page, on_page, touches, page_after}
use Rattle.og_image.proofs.Pages.{filter_below_more}

-- numbers that fail a test add nothing
pub filter_gap : (p : ℕ → Bool) (n d : ℕ) → ((k : ℕ) → n ≤ k → k < n + d → p k ≡ false) → filter p (below (n + d)) ≡ filter p (below n)
filter_gap p n zero none = rw add-zero refl
filter_gap p n (suc d) none =
    let same : n + suc d ≡ n + d + 1 = omega arith in
    let rest : filter p (below (n + d)) ≡ filter p (below n) = filter_gap p n d (λ k h lt. none k h (omega arith)) in
    let fails : p (n + d) ≡ false = none (n + d) (omega arith) (omega arith) in
    rw same (filter_below_more p (n + d) ∙ rw (fails, append-nil) rest)

-- two numbers in order
order : (j i : ℕ) → (j < i) ⊎ (i ≤ j)
order j i = at (cases_Bool (nat_lt j i))
  where
    at : ((nat_lt j i ≡ true) ⊎ (nat_lt j i ≡ false)) → (j < i) ⊎ (i ≤ j)
    at (inl e) = inl (grind (arith, nat_tests))
    at (inr e) = inr (grind (arith, nat_tests))

-- a page from the first of a segment to its last has a byte of it
pub page_touches : (s : Segment) (k : ℕ) → IsPlaced s → s.addr / 4096 ≤ k → k < page_after s → touches k s ≡ true
page_touches s k placed from to = let some : 0 < s.size = placed.sized in grind (arith, nat_tests)

-- one before its first hasn't
pub page_before : (s : Segment) (k : ℕ) → k < s.addr / 4096 → touches k s ≡ false
page_before s k before = grind (arith, nat_tests)

-- pages before a segment's first add nothing to those from `next` on
pub gap_before : (p : ℕ → Bool) (next : ℕ) (s : Segment) → IsPlaced s → ((k : ℕ) → next ≤ k → k < max next (page_after s) → p k ≡ touches k s)
    → filter p (below (max next (s.addr / 4096))) ≡ filter p (below next)
gap_before p next s placed test =
    let some : 0 < s.size = placed.sized in
    let size : next + (max next (s.addr / 4096) - next) ≡ max next (s.addr / 4096) = grind (arith, nat_tests) in
    let gap : filter p (below (next + (max next (s.addr / 4096) - next))) ≡ filter p (below next) = filter_gap p next (max next (s.addr / 4096) - next) (λ k from to. test k from (grind (arith, nat_tests)) ∙ page_before s k (grind (arith, nat_tests))) in
    subst (λ (n : ℕ). filter p (below n) ≡ filter p (below next)) size gap

-- nor one after its last
page_behind : (s : Segment) (k : ℕ) → IsPlaced s → page_after s ≤ k → touches k s ≡ false
page_behind s k placed behind = let some : 0 < s.size = placed.sized in grind (arith, nat_tests)

-- no page from `next` on has a byte of one of the first i segments that is writable
abbrev pub Clear : List Segment → ℕ → ℕ → Type 0
Clear segments next i = (k j : ℕ) (d : Segment) → next ≤ k → j < i → j < length segments → on_page k (get_or segments j d) ≡ false

-- a writable segment's test is whether it has a byte there
written_on : (s : Segment) (k : ℕ) (b : Bool) → s.writable ≡ true → touches k s ≡ b → on_page k s ≡ b
written_on s k b writes is = rw (writes, is) refl

untouched_on : (s : Segment) (k : ℕ) → touches k s ≡ false → on_page k s ≡ false
untouched_on s k is = at s.writable
  where
    at : (b : Bool) → (b && touches k s) ≡ false
    at true = is
    at false = refl

unwritten_on : (s : Segment) (k : ℕ) → s.writable ≡ false → on_page k s ≡ false
unwritten_on s k not = rw not refl

module _ (image : ImageState) (xs : List Segment) (same : xs ≡ image.segments) (loads : All IsPlaced image.segments) (up : IsNonDecreasingBy (λ s. s.addr) image.segments) where
  placed : All IsPlaced xs
  placed = subst (λ (ys : List Segment). All IsPlaced ys) (sym same) loads

  rising : IsNonDecreasingBy (λ s. s.addr) xs
  rising = subst (λ (ys : List Segment). IsNonDecreasingBy (λ s. s.addr) ys) (sym same) up

  -- a page is a data page where a segment of the list makes it one
  listed : (k : ℕ) (b : Bool) → list_any (on_page k) xs ≡ b → is_data_page image k ≡ b
  listed k b is = subst (λ (ys : List Segment). list_any (on_page k) ys ≡ b) same is

  module _ (next i : ℕ) (s : Segment) (lt : i < length xs) (is : s ≡ get_or xs i s) (clear : Clear xs next i) where
    here : (d : Segment) → get_or xs i d ≡ s
    here d = get_or_default xs i d s lt ∙ sym is

    own : IsPlaced s
    own = subst (λ (x : Segment). IsPlaced x) (sym is) (placed i s lt)

    -- a page that the segment begins behind has no byte of a later one
    later : (k j : ℕ) (d : Segment) → k < s.addr / 4096 → i ≤ j → j < length xs → on_page k (get_or xs j d) ≡ false
    later k j d before from in_range =
        let after : (get_or xs i d).addr ≤ (get_or xs j d).addr = rising i j d from in_range in
        let behind : s.addr ≤ (get_or xs j d).addr = rw (here d) at after in
        untouched_on (get_or xs j d) k (page_before (get_or xs j d) k (omega arith))

    -- from `next` to the segment's end, a data page is one that has a byte of the segment
    pub page_is : s.writable ≡ true → (k : ℕ) → next ≤ k → k < max next (page_after s) → is_data_page image k ≡ touches k s
    page_is writes k from to = at (touches k s) refl
      where
        other : touches k s ≡ false → (j : ℕ) (d : Segment) → j < length xs → ((j < i) ⊎ (i ≤ j)) → on_page k (get_or xs j d) ≡ false
        other none j d in_range (inl before) = clear k j d from before in_range
        other none j d in_range (inr behind) =
            let short : k < page_after s = grind (arith, nat_tests) in
            let first : k < s.addr / 4096 = grind (arith, page_touches s k own) in
            later k j d first behind in_range

        at : (b : Bool) → touches k s ≡ b → is_data_page image k ≡ b
        at true t = listed k true (list_any_at (on_page k) xs i s lt (subst (λ (x : Segment). on_page k x ≡ true) is (written_on s k true writes t)))
        at false f = listed k false (list_any_none (on_page k) xs (λ j d h. other f j d h (order j i)))

    pub clear_after : Clear xs (max next (page_after s)) (i + 1)
    clear_after k j d from before in_range = at (order j i)
      where
        at : ((j < i) ⊎ (i ≤ j)) → on_page k (get_or xs j d) ≡ false
        at (inl earlier) = clear k j d (grind (arith, nat_tests)) earlier in_range
        at (inr behind) = let same : i ≡ j = omega arith in subst (λ (n : ℕ). on_page k (get_or xs n d) ≡ false) same (rw (here d) (untouched_on s k (page_behind s k own (grind (arith, nat_tests)))))

    pub clear_skip : s.writable ≡ false → Clear xs next (i + 1)
    clear_skip unwritten k j d from before in_range = at (order j i)
      where
        at : ((j < i) ⊎ (i ≤ j)) → on_page k (get_or xs j d) ≡ false
        at (inl earlier) = clear k j d from earlier in_range
        at (inr behind) = let same : i ≡ j = omega arith in subst (λ (n : ℕ). on_page k (get_or xs n d) ≡ false) same (rw (here d) (unwritten_on s k unwritten))

    pub after_low : next ≤ 458752 → max next (page_after s) ≤ 458752
    after_low low = let ends : end_of (span_of s) ≤ 1879048192 = own.below in grind (arith, nat_tests)

  -- where no page from `next` on has a byte of a writable segment, the data pages are those below `next`
  pub all_pages_below : (next : ℕ) → next ≤ 458752 → Clear xs next (length xs) → filter (is_data_page image) (below 458752) ≡ filter (is_data_page image) (below next)
  all_pages_below next low clear =
      let gap : filter (is_data_page image) (below (next + (458752 - next))) ≡ filter (is_data_page image) (below next) = filter_gap (is_data_page image) next (458752 - next) (λ k from to. listed k false (list_any_none (on_page k) xs (λ j d h. clear k j d from h h))) in
      let size : next + (458752 - next) ≡ 458752 = omega arith in
      subst (λ (n : ℕ). filter (is_data_page image) (below n) ≡ filter (is_data_page image) (below next)) size gap
