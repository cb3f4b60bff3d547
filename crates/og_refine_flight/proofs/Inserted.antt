-- One list has an element more than another, at some place.
use Rattle.std.proofs.Common.{◌≡◌, ◌≢◌, ◌∙◌, Bool, true, false, cond, refl, sym, ap, subst, List, [], ◌∷◌, ◌++◌, map, ◌⊎◌, inl, inr, None, Some}
use Rattle.og_slots.specs.Flight.{Apart, Fits}
use Rattle.og_runs.specs.declared.MsgId.{MsgId}
use Rattle.og_runs.specs.declared.Msg.{Msg}
use Rattle.og_runs.specs.Runs.{same_id}
use Rattle.og_runs.specs.World.{find, without, Distinct, precedes, placed}
use Rattle.og_runs.proofs.Placed.{same_id_equal}

-- ys has m more than xs
abbrev pub Inserted : {M : Type 0} → M → List M → List M → Type 0
Inserted m xs [] = ⊥
Inserted {M} m xs (y ∷ ys) = ((y ≡ m) × (ys ≡ xs)) ⊎ ((zs : List M) × (xs ≡ y ∷ zs) × Inserted m zs ys)

-- ---- where an element is more

pub in_front : {M : Type 0} → (m : M) (xs : List M) → Inserted m xs (m ∷ xs)
in_front m xs = inl (refl, refl)

pub in_middle : {M : Type 0} → (m : M) (xs ys : List M) → Inserted m (xs ++ ys) (xs ++ m ∷ ys)
in_middle m [] ys = in_front m ys
in_middle m (x ∷ xs) ys = inr (xs ++ ys, refl, in_middle m xs ys)

-- a list behind both changes nothing
pub before : {M : Type 0} → (m : M) (xs ys zs : List M) → Inserted m xs ys → Inserted m (xs ++ zs) (ys ++ zs)
before m xs [] zs h = absurd h
before {M} m xs (y ∷ ys) zs h = elim h [
  | inl e ↦ inl (e.0, ap (λ (l : List M). l ++ zs) e.1)
  | inr r ↦ inr (r.0 ++ zs, ap (λ (l : List M). l ++ zs) r.1, before m r.0 ys zs r.2)
]

-- nor does a function of all elements
pub mapped : {M N : Type 0} → (f : M → N) (m : M) (xs ys : List M) → Inserted m xs ys → Inserted (f m) (map f xs) (map f ys)
mapped f m xs [] h = absurd h
mapped f m xs (y ∷ ys) h = elim h [
  | inl e ↦ inl (ap f e.0, ap (map f) e.1)
  | inr r ↦ inr (map f r.0, ap (map f) r.1, mapped f m r.0 ys r.2)
]

-- ---- messages by id

-- a message at its place
pub at_its_place : {K : Type 0} → (m : Msg K) (xs : List (Msg K)) → Inserted m xs (placed m xs)
at_its_place m [] = in_front m []
at_its_place {K} m (x ∷ xs) = by (precedes x m) (at_its_place m xs)
  where
    by : (t : Bool) → Inserted m xs (placed m xs) → Inserted m (x ∷ xs) (cond t (x ∷ placed m xs) (m ∷ x ∷ xs))
    by true rest = inr (xs, refl, rest)
    by false rest = in_front m (x ∷ xs)

-- what isn't found is not taken away
without_none : {K : Type 0} → (i : MsgId) (ms : List (Msg K)) → find i ms ≡ None → without i ms ≡ ms
without_none i [] e = refl
without_none {K} i (m ∷ ms) e = by (same_id i m.id) e (λ none. without_none i ms none)
  where
    by : (t : Bool) → cond t (Some m) (find i ms) ≡ None → (find i ms ≡ None → without i ms ≡ ms) → cond t (without i ms) (m ∷ without i ms) ≡ m ∷ ms
    by true e rest = absurd (cc)
    by false e rest = ap (λ (l : List (Msg K)). m ∷ l) (rest e)

-- what is found stands among the others
pub found_among : {K : Type 0} → (i : MsgId) (m : Msg K) (ms : List (Msg K)) → Distinct ms → find i ms ≡ Some m → Inserted m (without i ms) ms
found_among i m [] d e = absurd (cc)
found_among {K} i m (x ∷ xs) d e = by (same_id i x.id) refl e (λ f. found_among i m xs d.1 f)
  where
    by : (t : Bool) → same_id i x.id ≡ t → cond t (Some x) (find i xs) ≡ Some m → (find i xs ≡ Some m → Inserted m (without i xs) xs) → Inserted m (cond t (without i xs) (x ∷ without i xs)) (x ∷ xs)
    by true n e rest = let same : x ≡ m = cc in let none : find i xs ≡ None = subst (λ (j : MsgId). find j xs ≡ None) (sym (same_id_equal i x.id n)) d.0 in inl (same, sym (without_none i xs none))
    by false n e rest = inr (without i xs, refl, rest e)

-- ---- what a list of messages says of its parts

module _ {M : Type 0} {K : Type 0} where
  -- no message has the key, with one more that hasn't it
  pub apart_more : (key : M → K) (k : K) (m : M) (xs ys : List M) → Inserted m xs ys → key m ≢ k → Apart key k xs → Apart key k ys
  apart_more key k m xs [] h ne a = absurd h
  apart_more key k m xs (y ∷ ys) h ne a = elim h [
    | inl e ↦ ((λ same. ne (ap key (sym e.0) ∙ same)), subst (Apart key k) (sym e.1) a)
    | inr r ↦ (let b : Apart key k (y ∷ r.0) = subst (Apart key k) r.1 a in (b.0, apart_more key k m r.0 ys r.2 ne b.1))
  ]

  -- and with one less
  pub apart_less : (key : M → K) (k : K) (m : M) (xs ys : List M) → Inserted m xs ys → Apart key k ys → (key m ≢ k) × Apart key k xs
  apart_less key k m xs [] h a = absurd h
  apart_less key k m xs (y ∷ ys) h a = elim h [
    | inl e ↦ ((λ same. a.0 (ap key e.0 ∙ same)), subst (Apart key k) e.1 a.1)
    | inr r ↦ (let b = apart_less key k m r.0 ys r.2 a.1 in (b.0, subst (Apart key k) (sym r.1) (a.0, b.1)))
  ]

  pub fits_more : (key : M → K) (P : M → Type 0) (m : M) (xs ys : List M) → Inserted m xs ys → P m → Apart key (key m) xs → Fits key P xs → Fits key P ys
  fits_more key P m xs [] h p a f = absurd h
  fits_more key P m xs (y ∷ ys) h p a f = elim h [
    | inl e ↦ (subst P (sym e.0) p, subst (λ (x : M). Apart key (key x) ys) (sym e.0) (subst (Apart key (key m)) (sym e.1) a), subst (Fits key P) (sym e.1) f)
    | inr r ↦ (let b : Apart key (key m) (y ∷ r.0) = subst (Apart key (key m)) r.1 a in
        let g : Fits key P (y ∷ r.0) = subst (Fits key P) r.1 f in
        (g.0, apart_more key (key y) m r.0 ys r.2 (λ same. b.0 (sym same)) g.1, fits_more key P m r.0 ys r.2 p b.1 g.2))
  ]

  pub fits_less : (key : M → K) (P : M → Type 0) (m : M) (xs ys : List M) → Inserted m xs ys → Fits key P ys → P m × Apart key (key m) xs × Fits key P xs
  fits_less key P m xs [] h f = absurd h
  fits_less key P m xs (y ∷ ys) h f = elim h [
    | inl e ↦ (subst P e.0 f.0, subst (Apart key (key m)) e.1 (subst (λ (x : M). Apart key (key x) ys) e.0 f.1), subst (Fits key P) e.1 f.2)
    | inr r ↦ (let g : P m × Apart key (key m) r.0 × Fits key P r.0 = fits_less key P m r.0 ys r.2 f.2 in
        let b = apart_less key (key y) m r.0 ys r.2 f.1 in
        (g.0, subst (Apart key (key m)) (sym r.1) ((λ same. b.0 (sym same)), g.1), subst (Fits key P) (sym r.1) (f.0, b.1, g.2)))
  ]
