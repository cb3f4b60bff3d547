-- The list of the choices' actors, as choices come and go.
use Rattle.std.proofs.Common.{◌≡◌, ◌∙◌, ℕ, zero, suc, ◌+◌, ◌-◌, ◌<◌, ◌≤◌, Bool, true, false, nat_lt, arith, refl, sym, ap, subst, Some, List, [], ◌∷◌, ◌++◌, length, take, drop, ◌⊎◌, inl, inr}
use Rattle.std.specs.Prelude.{slice_get}
use Rattle.std.proofs.lemmas.Bool.Decides.{nat_tests}
use Rattle.og_choices.proofs.Counts.{one}

-- ---- lists

-- what stands in a list in which an item was put at a place
pub got_after_put : (xs : List ℕ) (p k t a : ℕ) → p ≤ length xs → slice_get (take p xs ++ t ∷ drop p xs) k ≡ Some a →
    ((k < p) × (slice_get xs k ≡ Some a)) ⊎ (((k ≡ p) × (t ≡ a)) ⊎ ((p < k) × (slice_get xs (k - 1) ≡ Some a)))
got_after_put [] zero zero t a le e = inr (inl (refl, cc))
got_after_put [] zero (suc k) t a le e = absurd (cc)
got_after_put [] (suc p) k t a le e = absurd (omega arith)
got_after_put (x ∷ xs) zero zero t a le e = inr (inl (refl, cc))
got_after_put (x ∷ xs) zero (suc k) t a le e = let back : suc k - 1 ≡ k = omega arith in inr (inr (omega arith, ap (slice_get (x ∷ xs)) back ∙ e))
got_after_put (x ∷ xs) (suc p) zero t a le e = inl (omega arith, e)
got_after_put (x ∷ xs) (suc p) (suc k) t a le e = later (got_after_put xs p k t a (omega arith) e)
  where
    later : ((k < p) × (slice_get xs k ≡ Some a)) ⊎ (((k ≡ p) × (t ≡ a)) ⊎ ((p < k) × (slice_get xs (k - 1) ≡ Some a))) →
        ((suc k < suc p) × (slice_get (x ∷ xs) (suc k) ≡ Some a)) ⊎ (((suc k ≡ suc p) × (t ≡ a)) ⊎ ((suc p < suc k) × (slice_get (x ∷ xs) (suc k - 1) ≡ Some a)))
    later (inl h) = let lt : k < p = h.0 in inl (omega arith, h.1)
    later (inr (inl h)) = inr (inl (ap suc h.0, h.1))
    later (inr (inr h)) =
        let lt : p < k = h.0 in
        let back : suc (k - 1) ≡ suc k - 1 = omega arith in
        inr (inr (omega arith, ap (slice_get (x ∷ xs)) (sym back) ∙ h.1))

-- and in one from which the item at a place was taken
pub got_after_remove : (xs : List ℕ) (p k a : ℕ) → slice_get (take p xs ++ drop (suc p) xs) k ≡ Some a → ((k < p) × (slice_get xs k ≡ Some a)) ⊎ ((p ≤ k) × (slice_get xs (suc k) ≡ Some a))
got_after_remove [] zero k a e = absurd (cc)
got_after_remove [] (suc p) k a e = absurd (cc)
got_after_remove (x ∷ xs) zero k a e = inr (omega arith, e)
got_after_remove (x ∷ xs) (suc p) zero a e = inl (omega arith, e)
got_after_remove (x ∷ xs) (suc p) (suc k) a e = later (got_after_remove xs p k a e)
  where
    later : ((k < p) × (slice_get xs k ≡ Some a)) ⊎ ((p ≤ k) × (slice_get xs (suc k) ≡ Some a)) → ((suc k < suc p) × (slice_get (x ∷ xs) (suc k) ≡ Some a)) ⊎ ((suc p ≤ suc k) × (slice_get (x ∷ xs) (suc (suc k)) ≡ Some a))
    later (inl h) = let lt : k < p = h.0 in inl (omega arith, h.1)
    later (inr h) = let le : p ≤ k = h.0 in inr (omega arith, h.1)

-- ---- turns

-- of each item the place lies between the counts of its actor and of the next one
abbrev pub Own : (c : ℕ → ℕ) → List ℕ → Type 0
Own c turns = (k a : ℕ) → slice_get turns k ≡ Some a → (c a ≤ k) × (k < c (suc a))

abbrev pub Grows : (c : ℕ → ℕ) → Type 0
Grows c = (a b : ℕ) → a ≤ b → c a ≤ c b

-- only one actor's counts have a place between them
pub owner_is : (c : ℕ → ℕ) (k a b : ℕ) → Grows c → c a ≤ k → k < c (suc a) → c b ≤ k → k < c (suc b) → a ≡ b
owner_is c k a b grows low high low' high' = by (nat_lt a b) refl (nat_lt b a) refl
  where
    by : (t : Bool) → nat_lt a b ≡ t → (u : Bool) → nat_lt b a ≡ u → a ≡ b
    by true t u is = let le : c (suc a) ≤ c b = grows (suc a) b (grind (arith, nat_tests)) in absurd (omega arith)
    by false t true is = let le : c (suc b) ≤ c a = grows (suc b) a (grind (arith, nat_tests)) in absurd (omega arith)
    by false t false is = grind (arith, nat_tests)

-- an actor has one choice more
pub one_more : (c c' : ℕ → ℕ) (turns : List ℕ) (p t : ℕ) → Grows c → Own c turns → ((a : ℕ) → c' a ≡ c a + one (nat_lt t a)) → p ≤ length turns → c t ≤ p → p ≤ c (suc t) → Own c' (take p turns ++ t ∷ drop p turns)
one_more c c' turns p t grows own more le low high k a e = by (got_after_put turns p k t a le e)
  where
    -- an actor's counts, by whether it is above t
    above : (b : ℕ) → t < b → c' b ≡ c b + 1
    above b lt = let yes : nat_lt t b ≡ true = grind (arith, nat_tests) in more b ∙ ap (λ (w : Bool). c b + one w) yes

    upto : (b : ℕ) → b ≤ t → c' b ≡ c b
    upto b le' = let no : nat_lt t b ≡ false = grind (arith, nat_tests) in let same : c b + 0 ≡ c b = omega arith in more b ∙ ap (λ (w : Bool). c b + one w) no ∙ same

    grown : (b : ℕ) → c b ≤ c' b
    grown b = let is : c' b ≡ c b + one (nat_lt t b) = more b in omega arith

    few : (b : ℕ) → c' b ≤ c b + 1
    few b = at (nat_lt t b) (more b)
      where
        at : (w : Bool) → c' b ≡ c b + one w → c' b ≤ c b + 1
        at true is = omega arith
        at false is = omega arith

    by : ((k < p) × (slice_get turns k ≡ Some a)) ⊎ (((k ≡ p) × (t ≡ a)) ⊎ ((p < k) × (slice_get turns (k - 1) ≡ Some a))) → (c' a ≤ k) × (k < c' (suc a))
    by (inl h) =
        let lt : k < p = h.0 in
        let o = own k a h.1 in
        let low_a : c a ≤ k = o.0 in
        let high_a : k < c (suc a) = o.1 in
        let g : c (suc a) ≤ c' (suc a) = grown (suc a) in
        (first (nat_lt t a) refl, omega arith)
      where
        first : (w : Bool) → nat_lt t a ≡ w → c' a ≤ k
        first true is =
            let o = own k a h.1 in
            let lt : k < p = h.0 in
            let low_a : c a ≤ k = o.0 in
            let le' : c (suc t) ≤ c a = grows (suc t) a (grind (arith, nat_tests)) in
            absurd (omega arith)
        first false is =
            let o = own k a h.1 in
            let low_a : c a ≤ k = o.0 in
            let same : c' a ≡ c a = upto a (grind (arith, nat_tests)) in
            omega arith
    by (inr (inl h)) =
        let at : k ≡ p = h.0 in
        let own_t : (c' t ≤ k) × (k < c' (suc t)) =
        (let same : c' t ≡ c t = upto t (omega arith) in let next : c' (suc t) ≡ c (suc t) + 1 = above (suc t) (omega arith) in (omega arith, omega arith)) in
        subst (λ (b : ℕ). (c' b ≤ k) × (k < c' (suc b))) h.1 own_t
    by (inr (inr h)) =
        let lt : p < k = h.0 in
        let o = own (k - 1) a h.1 in
        let low_a : c a ≤ k - 1 = o.0 in
        let high_a : k - 1 < c (suc a) = o.1 in
        let f : c' a ≤ c a + 1 = few a in
        (omega arith, last (nat_lt t (suc a)) refl)
      where
        last : (w : Bool) → nat_lt t (suc a) ≡ w → k < c' (suc a)
        last true is =
            let o = own (k - 1) a h.1 in
            let lt : p < k = h.0 in
            let high_a : k - 1 < c (suc a) = o.1 in
            let next : c' (suc a) ≡ c (suc a) + 1 = above (suc a) (grind (arith, nat_tests)) in
            omega arith
        last false is =
            let o = own (k - 1) a h.1 in
            let lt : p < k = h.0 in
            let high_a : k - 1 < c (suc a) = o.1 in
            let le' : c (suc a) ≤ c t = grows (suc a) t (grind (arith, nat_tests)) in
            absurd (omega arith)

-- an actor has one choice less
pub one_less : (c c' : ℕ → ℕ) (turns : List ℕ) (p t : ℕ) → Grows c' → Own c turns → ((a : ℕ) → c a ≡ c' a + one (nat_lt t a)) → c t ≤ p → p < c (suc t) → Own c' (take p turns ++ drop (suc p) turns)
one_less c c' turns p t grows own less low high k a e = by (got_after_remove turns p k a e)
  where
    above : (b : ℕ) → t < b → c b ≡ c' b + 1
    above b lt = let yes : nat_lt t b ≡ true = grind (arith, nat_tests) in less b ∙ ap (λ (w : Bool). c' b + one w) yes

    upto : (b : ℕ) → b ≤ t → c b ≡ c' b
    upto b le' = let no : nat_lt t b ≡ false = grind (arith, nat_tests) in let same : c' b + 0 ≡ c' b = omega arith in less b ∙ ap (λ (w : Bool). c' b + one w) no ∙ same

    shrunk : (b : ℕ) → c' b ≤ c b
    shrunk b = let is : c b ≡ c' b + one (nat_lt t b) = less b in omega arith

    few : (b : ℕ) → c b ≤ c' b + 1
    few b = at (nat_lt t b) (less b)
      where
        at : (w : Bool) → c b ≡ c' b + one w → c b ≤ c' b + 1
        at true is = omega arith
        at false is = omega arith

    by : ((k < p) × (slice_get turns k ≡ Some a)) ⊎ ((p ≤ k) × (slice_get turns (suc k) ≡ Some a)) → (c' a ≤ k) × (k < c' (suc a))
    by (inl h) =
        let o = own k a h.1 in
        let low_a : c a ≤ k = o.0 in
        let s : c' a ≤ c a = shrunk a in
        (omega arith, last (nat_lt t (suc a)) refl)
      where
        last : (w : Bool) → nat_lt t (suc a) ≡ w → k < c' (suc a)
        last true is =
            let lt : k < p = h.0 in
            let le' : c' (suc t) ≤ c' (suc a) = grows (suc t) (suc a) (grind (arith, nat_tests)) in
            let next : c (suc t) ≡ c' (suc t) + 1 = above (suc t) (omega arith) in
            omega arith
        last false is =
            let o = own k a h.1 in
            let high_a : k < c (suc a) = o.1 in
            let same : c (suc a) ≡ c' (suc a) = upto (suc a) (grind (arith, nat_tests)) in
            omega arith
    by (inr h) =
        let o = own (suc k) a h.1 in
        let high_a : suc k < c (suc a) = o.1 in
        let f : c (suc a) ≤ c' (suc a) + 1 = few (suc a) in
        (first (nat_lt t a) refl, omega arith)
      where
        first : (w : Bool) → nat_lt t a ≡ w → c' a ≤ k
        first true is =
            let o = own (suc k) a h.1 in
            let low_a : c a ≤ suc k = o.0 in
            let next : c a ≡ c' a + 1 = above a (grind (arith, nat_tests)) in
            omega arith
        first false is =
            let le : p ≤ k = h.0 in
            let le' : c' a ≤ c' t = grows a t (grind (arith, nat_tests)) in
            let same : c t ≡ c' t = upto t (omega arith) in
            omega arith
