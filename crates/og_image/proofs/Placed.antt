-- Each data and stack page of a loaded program is placed.
use Rattle.std.proofs.Common.{◌≡◌, ◌≢◌, ℕ, zero, suc, ◌+◌, ◌-◌, ◌/◌, ◌<◌, ◌≤◌, ◌&&◌, Bool, true, false, cond, length, List, [], ◌∷◌, ◌++◌, map, arith, refl, get_or, None, nat_eq, inl, inr, ◌⊎◌, sym, subst}
use Rattle.std.specs.Prelude.{All}
use Rattle.std.specs.List.{filter, position, position_or_len, list_any}
use Rattle.std.proofs.lemmas.Bool.Decides.{nat_tests}
use Rattle.std.proofs.lemmas.Grind.{common_steps}
use Rattle.std.proofs.lemmas.Bool.{cases_Bool}
use Rattle.std.proofs.lemmas.List.Sums.{fails_before_first}
use Rattle.std.proofs.lemmas.List.{map-append}
use Rattle.std.proofs.lemmas.List.Elements.{filter-append}
use Rattle.og_base.specs.Numbers.{below}
use Rattle.og_elf.specs.declared.segment.Segment.{Segment}
use Rattle.og_elf.specs.Segment.{IsPlaced, IsLoadable, end_of, span_of}
use Rattle.og_image.specs.Image.{ImageState, is_page, is_data_page, is_stack_page, stack_page, touches}
use Rattle.og_image.specs.Layout.{pages_of, data_pages, stack_pages}

-- x stands somewhere in the list
abbrev Stands : List ℕ → ℕ → Type 0
Stands xs x = (k : ℕ) × (k < length xs) × (get_or xs k 0 ≡ x)

stands_left : (xs ys : List ℕ) (x : ℕ) → Stands xs x → Stands (xs ++ ys) x
stands_left xs ys x h = (h.0, grind (arith, common_steps), grind (arith, common_steps))

stands_right : (xs ys : List ℕ) (x : ℕ) → Stands ys x → Stands (xs ++ ys) x
stands_right xs ys x h = (length xs + h.0, grind (arith, common_steps), grind (arith, common_steps))

stands_filter : (p : ℕ → Bool) (n x : ℕ) → x < n → p x ≡ true → Stands (filter p (below n)) x
unfolding below
stands_filter p zero x lt is = absurd (omega arith)
stands_filter p (suc n) x lt is =
    let more : filter p (below n ++ n ∷ []) ≡ filter p (below n) ++ cond (p n) (n ∷ []) [] = filter-append p (below n) (n ∷ []) in
    subst (λ (xs : List ℕ). Stands xs x) (sym more) (at (cases_Bool (nat_eq x n)) (λ h. stands_filter p n x h is))
  where
    at : ((nat_eq x n ≡ true) ⊎ (nat_eq x n ≡ false)) → (x < n → Stands (filter p (below n)) x) → Stands (filter p (below n) ++ cond (p n) (n ∷ []) []) x
    at (inl e) before =
        let same : x ≡ n = grind (arith, nat_tests) in
        let passes : p n ≡ true = subst (λ (y : ℕ). p y ≡ true) same is in
        stands_right (filter p (below n)) (cond (p n) (n ∷ []) []) x (rw passes (0, omega arith, sym same))
    at (inr e) before = stands_left (filter p (below n)) (cond (p n) (n ∷ []) []) x (before (grind (arith, nat_tests)))

stands_map : (f : ℕ → ℕ) (n k : ℕ) → k < n → Stands (map f (below n)) (f k)
unfolding below
stands_map f zero k lt = absurd (omega arith)
stands_map f (suc n) k lt =
    let more : map f (below n ++ n ∷ []) ≡ map f (below n) ++ f n ∷ [] = map-append f (below n) (n ∷ []) in
    subst (λ (xs : List ℕ). Stands xs (f k)) (sym more) (at (cases_Bool (nat_eq k n)) (λ h. stands_map f n k h))
  where
    at : ((nat_eq k n ≡ true) ⊎ (nat_eq k n ≡ false)) → (k < n → Stands (map f (below n)) (f k)) → Stands (map f (below n) ++ f n ∷ []) (f k)
    at (inl e) before =
        let same : k ≡ n = grind (arith, nat_tests) in
        subst (λ (j : ℕ). Stands (map f (below n) ++ f n ∷ []) (f j)) (sym same) (stands_right (map f (below n)) (f n ∷ []) (f n) (0, omega arith, refl))
    at (inr e) before = stands_left (map f (below n)) (f n ∷ []) (f k) (before (grind (arith, nat_tests)))

stands_numbered : (xs : List ℕ) (x : ℕ) → Stands xs x → position (nat_eq x) xs ≢ None
stands_numbered xs x h none =
    let past : length xs ≤ position_or_len (nat_eq x) xs = grind (arith, nat_tests) in
    let fails : nat_eq x (get_or xs h.0 0) ≡ false = fails_before_first (nat_eq x) xs h.0 0 (omega (arith, h.1)) in
    let here : get_or xs h.0 0 ≡ x = h.2 in
    absurd (grind (arith, nat_tests))

-- a data page lies below the stacks
data_low : (segments : List Segment) (page : ℕ) → All IsPlaced segments → list_any (λ s. s.writable && touches page s) segments ≡ true → page < 458752
data_low [] page all is = absurd (cc)
data_low (s ∷ ss) page all is =
    let first : IsPlaced s = all 0 s (omega arith) in
    at (cases_Bool (s.writable && touches page s)) first (λ h. data_low ss page (λ k d lt. all (suc k) d (omega arith)) h)
  where
    at : (((s.writable && touches page s) ≡ true) ⊎ ((s.writable && touches page s) ≡ false)) → IsPlaced s → (list_any (λ s. s.writable && touches page s) ss ≡ true → page < 458752) → page < 458752
    at (inl e) first rest = let ends : end_of (span_of s) ≤ 1879048192 = first.below in grind (arith, nat_tests)
    at (inr e) first rest = rest (grind (arith, nat_tests))

pub placed_page : (image : ImageState) (page : ℕ) → IsLoadable image.entry image.segments → is_page image page ≡ true → position (nat_eq page) (pages_of image) ≢ None
unfolding pages_of data_pages stack_pages
placed_page image page loads is = stands_numbered (pages_of image) page (at (cases_Bool (is_data_page image page)))
  where
    at : ((is_data_page image page ≡ true) ⊎ (is_data_page image page ≡ false)) → Stands (filter (is_data_page image) (below 458752) ++ map stack_page (below image.nodes)) page
    at (inl e) = stands_left (filter (is_data_page image) (below 458752)) (map stack_page (below image.nodes)) page
        (stands_filter (is_data_page image) 458752 page (data_low image.segments page loads.placed e) e)
    at (inr e) =
        let stack : is_stack_page image page ≡ true = grind (arith, nat_tests) in
        let low : (page - 458752) / 2 < image.nodes = grind (arith, nat_tests) in
        let is' : stack_page ((page - 458752) / 2) ≡ page = grind (arith, nat_tests) in
        stands_right (filter (is_data_page image) (below 458752)) (map stack_page (below image.nodes)) page
        (subst (λ (x : ℕ). Stands (map stack_page (below image.nodes)) x) is' (stands_map stack_page image.nodes ((page - 458752) / 2) low))
