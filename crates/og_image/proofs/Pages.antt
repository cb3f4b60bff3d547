-- The list of placed pages rises, and a binary search in it finds the number of a page.
use Rattle.std.proofs.Common.{◌≡◌, ◌≢◌, ℕ, zero, suc, ◌+◌, ◌-◌, ◌*◌, ◌<◌, ◌≤◌, length, List, [], ◌∷◌, ◌++◌, map, arith, refl, cond, true, false, Bool, get_or, ◌^◌, Option, Some, None, Ok, Err, nat_eq, nat_cmp, ap, add-one, length-append}
use Rattle.std.specs.List.{filter, position, position_or_len}
use Rattle.std.specs.List.Sorted.{IsStrictlyIncreasing}
use Rattle.std.proofs.lemmas.Bool.Decides.{nat_tests}
use Rattle.std.proofs.lemmas.Grind.{common_steps}
use Rattle.std.proofs.lemmas.List.Kept.{IsStrictlyIncreasing-filter}
use Rattle.std.proofs.lemmas.List.Sums.{position_or_len_is}
use Rattle.std.proofs.lemmas.List.Elements.{filter-append}
use Rattle.std.proofs.lemmas.List.{map-append, length-map, get_or-map, append-nil}
use Rattle.std.specs.List.Sorted.{IsBinarySearchResult}
use Rattle.std.proofs.lemmas.List.Sorted.{searched}
use Rattle.std.specs.Option.{option_map}
use Rattle.og_image.specs.Image.{ImageState, is_data_page, stack_page}
use Rattle.og_base.specs.Numbers.{below}
use Rattle.og_image.specs.Layout.{pages_of, data_pages, stack_pages, LayoutState, frame_at, first_frame}

-- one number more
pub below_more : (n : ℕ) → below (n + 1) ≡ below n ++ n ∷ []
unfolding below
below_more n = rw add-one refl

-- in a rising list a later number is greater
pub rises : (xs : List ℕ) → IsStrictlyIncreasing xs → (i d : ℕ) → i + suc d < length xs → get_or xs i 0 < get_or xs (i + suc d) 0
rises xs up i zero lt = up i lt
rises xs up i (suc d) lt =
    let before : get_or xs i 0 < get_or xs (i + suc d) 0 = rises xs up i d (omega arith) in
    let next : (i + suc d) + 1 ≡ i + suc (suc d) = omega arith in
    let step : get_or xs (i + suc d) 0 < get_or xs ((i + suc d) + 1) 0 = up (i + suc d) (omega arith) in
    let last : get_or xs (i + suc d) 0 < get_or xs (i + suc (suc d)) 0 = rw next at step in
    omega arith

pub rises_to : (xs : List ℕ) → IsStrictlyIncreasing xs → (i j : ℕ) → i ≤ j → j < length xs → get_or xs i 0 ≤ get_or xs j 0
rises_to xs up i j le lt = at (j - i) (omega arith)
  where
    at : (d : ℕ) → i + d ≡ j → get_or xs i 0 ≤ get_or xs j 0
    at zero is = let same : i ≡ j = omega arith in rw same (omega arith)
    at (suc d) is = let less : get_or xs i 0 < get_or xs (i + suc d) 0 = rises xs up i d (omega arith) in let more : get_or xs i 0 < get_or xs j 0 = rw is at less in omega arith

pub below_length : (n : ℕ) → length (below n) ≡ n
unfolding below
below_length zero = refl
below_length (suc n) = let h : length (below n) ≡ n = below_length n in rw length-append (omega arith)

pub below_at : (n i : ℕ) → i < n → get_or (below n) i 0 ≡ i
unfolding below
below_at zero i lt = absurd (omega arith)
below_at (suc n) i lt = let h : (i < n → get_or (below n) i 0 ≡ i) = below_at n i in let size : length (below n) ≡ n = below_length n in grind (arith, common_steps)

pub below_rises : (n : ℕ) → IsStrictlyIncreasing (below n)
below_rises n k lt = let size : length (below n) ≡ n = below_length n in rw (below_at n k (omega arith), below_at n (k + 1) (omega arith)) (omega arith)

-- the number of a page that stands in a rising list
pub number_of : (xs : List ℕ) (page i : ℕ) → IsStrictlyIncreasing xs → i < length xs → get_or xs i 0 ≡ page → position (nat_eq page) xs ≡ Some i
number_of xs page i up lt is =
    let first : position_or_len (nat_eq page) xs ≡ i = position_or_len_is (nat_eq page) xs i 0 (omega arith) (λ k h. let less : get_or xs k 0 < get_or xs (k + suc (i - suc k)) 0 = rises xs up k (i - suc k) (omega arith) in let same : k + suc (i - suc k) ≡ i = omega arith in let less' : get_or xs k 0 < get_or xs i 0 = rw same at less in grind (arith, nat_tests)) (λ h. grind (arith, nat_tests)) in
    grind (arith, nat_tests)

pub no_number : (xs : List ℕ) (page : ℕ) → ((k : ℕ) → k < length xs → get_or xs k 0 ≢ page) → position (nat_eq page) xs ≡ None
no_number xs page none =
    let last : position_or_len (nat_eq page) xs ≡ length xs = position_or_len_is (nat_eq page) xs (length xs) 0 (omega arith) (λ k h. let other : get_or xs k 0 ≢ page = none k h in grind (arith, nat_tests)) (λ h. absurd (omega arith)) in
    grind (arith, nat_tests)

pub filter_below_more : (p : ℕ → Bool) (n : ℕ) → filter p (below (n + 1)) ≡ filter p (below n) ++ cond (p n) (n ∷ []) []
filter_below_more p n = rw (below_more n, filter-append) refl

pub map_below_more : {X : Type 0} (f : ℕ → X) (n : ℕ) → map f (below (n + 1)) ≡ map f (below n) ++ f n ∷ []
map_below_more f n = rw (below_more n, map-append) refl

-- what a binary search in a rising list finds is the number of the page
pub searched_page : (xs : List ℕ) (page i : ℕ) → IsStrictlyIncreasing xs → IsBinarySearchResult (λ y. nat_cmp y page) xs (Ok i) → position (nat_eq page) xs ≡ Some i
searched_page xs page i up h =
    let s : (i < length xs) × (get_or xs i 0 ≡ page) = searched xs page (Ok i) h (rises_to xs up) in
    number_of xs page i up s.0 s.1

-- and where it finds nothing, the page isn't there
pub searched_none : (xs : List ℕ) (page i : ℕ) → IsStrictlyIncreasing xs → IsBinarySearchResult (λ y. nat_cmp y page) xs (Err i) → position (nat_eq page) xs ≡ None
searched_none xs page i up h =
    let s : (i ≤ length xs) × ((k : ℕ) → k < i → get_or xs k 0 < page) × ((k : ℕ) → i ≤ k → k < length xs → page < get_or xs k 0) = searched xs page (Err i) h (rises_to xs up) in
    no_number xs page (λ k lt. other k lt s.1 s.2)
  where
    other : (k : ℕ) → k < length xs → ((k : ℕ) → k < i → get_or xs k 0 < page) → ((k : ℕ) → i ≤ k → k < length xs → page < get_or xs k 0) → get_or xs k 0 ≢ page
    other k lt low high = grind (arith, low k, high k)

-- a page's first frame goes by its number
pub first_is : (l : LayoutState) (xs : List ℕ) (page : ℕ) (o : Option ℕ) → l.pages ≡ xs → position (nat_eq page) xs ≡ o → first_frame l page ≡ option_map (frame_at l.nodes) o
first_is l xs page o same is = ap (λ (i : Option ℕ). option_map (frame_at l.nodes) i) (rw same is)

-- numbers below n, and maybe n
with_last : (xs : List ℕ) (n : ℕ) (b : Bool) (k : ℕ) → ((j : ℕ) → j < length xs → get_or xs j 0 < n) → k < length (xs ++ cond b (n ∷ []) []) → get_or (xs ++ cond b (n ∷ []) []) k 0 < suc n
with_last xs n true k low lt = grind (arith, common_steps, low k)
with_last xs n false k low lt = let here : k < length xs = simp append-nil at lt in let small : get_or xs k 0 < n = low k here in simp append-nil (omega arith)

-- what passes a test of the numbers below n is below n
filtered_small : (p : ℕ → Bool) (n k : ℕ) → k < length (filter p (below n)) → get_or (filter p (below n)) k 0 < n
unfolding below
filtered_small p zero k lt = absurd (omega arith)
filtered_small p (suc n) k lt =
    let more : filter p (below (suc n)) ≡ filter p (below n) ++ cond (p n) (n ∷ []) [] = filter-append p (below n) (n ∷ []) in
    rw more (last (p n) (rw more at lt) (λ j h. filtered_small p n j h))
  where
    last : (b : Bool) → k < length (filter p (below n) ++ cond b (n ∷ []) []) → ((j : ℕ) → j < length (filter p (below n)) → get_or (filter p (below n)) j 0 < n) → get_or (filter p (below n) ++ cond b (n ∷ []) []) k 0 < suc n
    last b lt low = with_last (filter p (below n)) n b k low lt

-- two rising lists, one below the other
rising_append : (xs ys : List ℕ) (b : ℕ) → IsStrictlyIncreasing xs → IsStrictlyIncreasing ys → ((k : ℕ) → k < length xs → get_or xs k 0 < b) → ((k : ℕ) → k < length ys → b ≤ get_or ys k 0) → IsStrictlyIncreasing (xs ++ ys)
rising_append xs ys b up on low high k lt = grind (arith, common_steps, up k, on (k - length xs), low k, high (k + 1 - length xs))

-- the number of a stack page
stack_at : (n k : ℕ) → k < length (map stack_page (below n)) → get_or (map stack_page (below n)) k 0 ≡ 458752 + 2 * k
stack_at n k lt =
    let size : length (map stack_page (below n)) ≡ length (below n) = length-map (below n) stack_page in
    let all : length (below n) ≡ n = below_length n in
    let small : k < length (below n) = omega arith in
    let here : get_or (below n) k 0 ≡ k = below_at n k (omega arith) in
    rw (get_or-map stack_page (below n) k 0 0 small, here) refl

stacks_length : (n : ℕ) → length (map stack_page (below n)) ≡ n
stacks_length n = rw (length-map (below n) stack_page) (below_length n)

-- the placed pages rise: data pages lie below stack pages
pub pages_rise : (image : ImageState) → IsStrictlyIncreasing (pages_of image)
unfolding pages_of data_pages stack_pages
pages_rise image =
    rising_append (filter (is_data_page image) (below 458752)) (map stack_page (below image.nodes)) 458752
    (IsStrictlyIncreasing-filter (is_data_page image) (below 458752) (below_rises 458752)) (stacks image.nodes) (filtered_small (is_data_page image) 458752) (λ k lt. high image.nodes k lt)
  where
    high : (n k : ℕ) → k < length (map stack_page (below n)) → 458752 ≤ get_or (map stack_page (below n)) k 0
    high n k lt = rw (stack_at n k lt) (omega arith)

    stacks : (n : ℕ) → IsStrictlyIncreasing (map stack_page (below n))
    stacks n k lt = rw (stack_at n k (omega arith), stack_at n (k + 1) lt) (omega arith)

append_below : (xs ys : List ℕ) (b k : ℕ) → ((k : ℕ) → k < length xs → get_or xs k 0 < b) → ((k : ℕ) → k < length ys → get_or ys k 0 < b) → k < length (xs ++ ys) → get_or (xs ++ ys) k 0 < b
append_below xs ys b k low high lt = grind (arith, common_steps, low k, high (k - length xs))

-- and none is above the last stack page
pub pages_small : (image : ImageState) (k : ℕ) → image.nodes ≤ 255 → k < length (pages_of image) → get_or (pages_of image) k 0 < 2 ^ 20
unfolding pages_of data_pages stack_pages
pages_small image k few lt =
    append_below (filter (is_data_page image) (below 458752)) (map stack_page (below image.nodes)) (2 ^ 20) k
    (λ j h. let small : get_or (filter (is_data_page image) (below 458752)) j 0 < 458752 = filtered_small (is_data_page image) 458752 j h in omega arith)
    (λ j h. let size : length (map stack_page (below image.nodes)) ≡ image.nodes = stacks_length image.nodes in rw (stack_at image.nodes j h) (omega arith)) lt
