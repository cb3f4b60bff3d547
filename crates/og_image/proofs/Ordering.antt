-- A stable sort by address puts segments in their order.
use Rattle.std.proofs.Common.{◌≡◌, ℕ, zero, suc, ◌<◌, ◌≤◌, length, List, [], ◌∷◌, arith, refl, sym, ap, ap₂, subst, cond, true, false, Bool, get_or, nat_lt, nat_le, nat_eq}
use Rattle.std.specs.List.{filter}
use Rattle.std.specs.List.Sorted.{IsNonDecreasingBy}
use Rattle.std.proofs.Math.Path.{◌∙◌}
use Rattle.std.proofs.lemmas.Bool.Decides.{nat_tests}
use Rattle.og_elf.specs.declared.segment.Segment.{Segment}
use Rattle.og_image.specs.Image.{put_in, in_order}

-- the segments at an address
pub at : ℕ → List Segment → List Segment
at a [] = []
at a (s ∷ ss) = cond (nat_eq s.addr a) (s ∷ at a ss) (at a ss)

-- addresses rise from b on
Rises : ℕ → List Segment → Type 0
Rises b [] = Unit {0}
Rises b (s ∷ ss) = (b ≤ s.addr) × Rises s.addr ss

none_below : (a b : ℕ) (ss : List Segment) → Rises b ss → a < b → at a ss ≡ []
unfolding at Rises
none_below a b [] up lt = refl
none_below a b (s ∷ ss) up lt =
    let le : b ≤ s.addr = up.0 in
    let ne : nat_eq s.addr a ≡ false = grind (arith, nat_tests) in
    ap (λ (w : Bool). cond w (s ∷ at a ss) (at a ss)) ne ∙ none_below a s.addr ss up.1 (omega arith)

at_first : (s : Segment) (ss : List Segment) → at s.addr (s ∷ ss) ≡ s ∷ at s.addr ss
unfolding at
at_first s ss = let same : nat_eq s.addr s.addr ≡ true = grind (arith, nat_tests) in ap (λ (w : Bool). cond w (s ∷ at s.addr ss) (at s.addr ss)) same

not_less : (x y : Segment) (xs ys : List Segment) → Rises y.addr ys → at x.addr (x ∷ xs) ≡ at x.addr (y ∷ ys) → y.addr ≤ x.addr
unfolding Rises
not_less x y xs ys up h = go (nat_lt x.addr y.addr) refl
  where
    go : (w : Bool) → nat_lt x.addr y.addr ≡ w → y.addr ≤ x.addr
    go true is =
        let lt : x.addr < y.addr = grind (arith, nat_tests) in
        let none : at x.addr (y ∷ ys) ≡ [] = none_below x.addr y.addr (y ∷ ys) (omega arith, up) lt in
        let k : x ∷ at x.addr xs ≡ [] = sym (at_first x xs) ∙ (h ∙ none) in absurd (cc)
    go false is = grind (arith, nat_tests)

-- rising lists with the same segments at each address are the same
same : (b : ℕ) (xs ys : List Segment) → Rises b xs → Rises b ys → ((a : ℕ) → at a xs ≡ at a ys) → xs ≡ ys
unfolding at Rises
same b [] [] up vp h = refl
same b [] (y ∷ ys) up vp h = let k : [] ≡ y ∷ at y.addr ys = h y.addr ∙ at_first y ys in absurd (cc)
same b (x ∷ xs) [] up vp h = let k : x ∷ at x.addr xs ≡ [] = sym (at_first x xs) ∙ h x.addr in absurd (cc)
same b (x ∷ xs) (y ∷ ys) up vp h =
    let le : y.addr ≤ x.addr = not_less x y xs ys vp.1 (h x.addr) in
    let ge : x.addr ≤ y.addr = not_less y x ys xs up.1 (sym (h y.addr)) in
    let equal : x.addr ≡ y.addr = omega arith in
    let k : x ∷ at x.addr xs ≡ y ∷ at x.addr ys = sym (at_first x xs) ∙ (h x.addr ∙ subst (λ (a : ℕ). at a (y ∷ ys) ≡ y ∷ at a ys) (sym equal) (at_first y ys)) in
    let first : x ≡ y = cc in
    let tail : at x.addr xs ≡ at x.addr ys = cc in
    ap₂ (λ (z : Segment) (zs : List Segment). z ∷ zs) first (same x.addr xs ys up.1 (subst (λ (a : ℕ). Rises a ys) (sym equal) vp.1) (λ a. others a equal tail (nat_eq x.addr a) refl (h a)))
  where
    others : (a : ℕ) → x.addr ≡ y.addr → at x.addr xs ≡ at x.addr ys → (w : Bool) → nat_eq x.addr a ≡ w → at a (x ∷ xs) ≡ at a (y ∷ ys) → at a xs ≡ at a ys
    others a equal tail true is k = let here : x.addr ≡ a = grind (arith, nat_tests) in subst (λ (b : ℕ). at b xs ≡ at b ys) here tail
    others a equal tail false is k =
        let other : nat_eq y.addr a ≡ false = subst (λ (b : ℕ). nat_eq b a ≡ false) equal is in
        let l : at a (x ∷ xs) ≡ at a xs = ap (λ (w : Bool). cond w (x ∷ at a xs) (at a xs)) is in
        let m : at a (y ∷ ys) ≡ at a ys = ap (λ (w : Bool). cond w (y ∷ at a ys) (at a ys)) other in
        sym l ∙ (k ∙ m)

-- ------------------------------------------------------------ putting in

put_at : (a : ℕ) (s : Segment) (ss : List Segment) → at a (put_in s ss) ≡ at a (s ∷ ss)
unfolding at
put_at a s [] = refl
put_at a s (t ∷ ts) = go (nat_le s.addr t.addr) refl (put_at a s ts)
  where
    go : (w : Bool) → nat_le s.addr t.addr ≡ w → at a (put_in s ts) ≡ at a (s ∷ ts) → at a (cond w (s ∷ t ∷ ts) (t ∷ put_in s ts)) ≡ at a (s ∷ t ∷ ts)
    go true is later = refl
    go false is later = ap (λ (l : List Segment). cond (nat_eq t.addr a) (t ∷ l) l) later ∙ swap (nat_eq s.addr a) (nat_eq t.addr a) refl refl
      where
        swap : (u v : Bool) → nat_eq s.addr a ≡ u → nat_eq t.addr a ≡ v → cond v (t ∷ cond u (s ∷ at a ts) (at a ts)) (cond u (s ∷ at a ts) (at a ts)) ≡ cond u (s ∷ cond v (t ∷ at a ts) (at a ts)) (cond v (t ∷ at a ts) (at a ts))
        swap true true e f = absurd (grind (arith, nat_tests))
        swap true false e f = refl
        swap false true e f = refl
        swap false false e f = refl

order_at : (a : ℕ) (ss : List Segment) → at a (in_order ss) ≡ at a ss
unfolding at in_order
order_at a [] = refl
order_at a (s ∷ ss) = put_at a s (in_order ss) ∙ ap (λ (l : List Segment). cond (nat_eq s.addr a) (s ∷ l) l) (order_at a ss)

put_rises : (b : ℕ) (s : Segment) (ss : List Segment) → b ≤ s.addr → Rises b ss → Rises b (put_in s ss)
unfolding Rises
put_rises b s [] le up = (le, tt)
put_rises b s (t ∷ ts) le up = go (nat_le s.addr t.addr) refl (put_rises t.addr s ts)
  where
    go : (w : Bool) → nat_le s.addr t.addr ≡ w → (t.addr ≤ s.addr → Rises t.addr ts → Rises t.addr (put_in s ts)) → Rises b (cond w (s ∷ t ∷ ts) (t ∷ put_in s ts))
    go true is later = (le, (grind (arith, nat_tests), up.1))
    go false is later = (up.0, later (grind (arith, nat_tests)) up.1)

order_rises : (ss : List Segment) → Rises 0 (in_order ss)
unfolding in_order Rises
order_rises [] = tt
order_rises (s ∷ ss) = put_rises 0 s (in_order ss) (omega arith) (order_rises ss)

rises_of : (b : ℕ) (ss : List Segment) → IsNonDecreasingBy (λ s. s.addr) ss → ((d : Segment) → 0 < length ss → b ≤ (get_or ss 0 d).addr) → Rises b ss
unfolding Rises
rises_of b [] up first = tt
rises_of b (s ∷ ss) up first = (first s (omega arith), rises_of s.addr ss (λ i j d le lt. up (suc i) (suc j) d (omega arith) (omega arith)) (λ d some. up zero (suc zero) d (omega arith) (omega arith)))

filter_at : (p : Segment → Bool) (a : ℕ) → ((s : Segment) → p s ≡ nat_eq s.addr a) → (ss : List Segment) → filter p ss ≡ at a ss
unfolding at
filter_at p a is [] = refl
filter_at p a is (s ∷ ss) = ap₂ (λ (w : Bool) (l : List Segment). cond w (s ∷ l) l) (is s) (filter_at p a is ss)

-- what a stable sort by address gives
pub sorted_is : (xs ys : List Segment) → IsNonDecreasingBy (λ s. s.addr) ys → ((a : ℕ) → at a ys ≡ at a xs) → ys ≡ in_order xs
sorted_is xs ys up h = same 0 ys (in_order xs) (rises_of 0 ys up (λ d some. omega arith)) (order_rises xs) (λ a. h a ∙ sym (order_at a xs))

pub same_at : (p : ℕ → Segment → Bool) → ((a : ℕ) (s : Segment) → p a s ≡ nat_eq s.addr a) → (xs ys : List Segment) → ((a : ℕ) → filter (p a) ys ≡ filter (p a) xs) → (a : ℕ) → at a ys ≡ at a xs
same_at p is xs ys h a = sym (filter_at (p a) a (is a) ys) ∙ (h a ∙ filter_at (p a) a (is a) xs)
