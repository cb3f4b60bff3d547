-- Events have one order by stamp: sorted lists of the same events are one list.
use Rattle.std.proofs.Common.{◌≡◌, ◌∙◌, Bool, true, false, cond, nat_eq, arith, inl, inr, refl, sym, ap, ap₂, List, [], ◌∷◌}
use Rattle.std.specs.Prelude.{if◌then◌else◌}
use Rattle.std.proofs.lemmas.Bool.Decides.{nat_tests}
use Rattle.std.specs.List.{filter}
use Rattle.og_runs.specs.declared.Event.{Event}
use Rattle.og_runs.specs.Runs.{NotAfter, InOrder, same_stamp, IsSorted}

-- the same stamp
abbrev Same : {N : Type 0} → Event N → Event N → Type 0
Same x e = (e.stamp.clock ≡ x.stamp.clock) × (e.stamp.actor ≡ x.stamp.actor)

same_is : {N : Type 0} → (x e : Event N) → same_stamp x e ≡ true → Same x e
same_is x e t = by (nat_eq e.stamp.actor x.stamp.actor) refl t
  where
    by : (a : Bool) → nat_eq e.stamp.actor x.stamp.actor ≡ a → cond a (nat_eq e.stamp.clock x.stamp.clock) false ≡ true → Same x e
    by true is u = (grind (arith, nat_tests), grind (arith, nat_tests))
    by false is u = absurd (cc)

is_same : {N : Type 0} → (x e : Event N) → Same x e → same_stamp x e ≡ true
is_same x e s =
    let actor : nat_eq e.stamp.actor x.stamp.actor ≡ true = (let a = s.1 in grind (arith, nat_tests)) in
    let clock : nat_eq e.stamp.clock x.stamp.clock ≡ true = (let a = s.0 in grind (arith, nat_tests)) in
    ap (λ (b : Bool). cond b (nat_eq e.stamp.clock x.stamp.clock) false) actor ∙ clock

-- ---- order

not_after_same : {N : Type 0} → (e f x : Event N) → NotAfter e f → Same x f → NotAfter e x
not_after_same e f x (inl lt) s = inl (let a = s.0 in omega arith)
not_after_same e f x (inr le) s = inr ((let a = s.0 in let b = le.0 in omega arith), (let a = s.1 in let b = le.1 in omega arith))

not_after_on : {N : Type 0} → (e f x : Event N) → NotAfter e f → NotAfter f x → NotAfter e x
not_after_on e f x (inl a) (inl b) = inl (omega arith)
not_after_on e f x (inl a) (inr b) = inl (let c = b.0 in omega arith)
not_after_on e f x (inr a) (inl b) = inl (let c = a.0 in omega arith)
not_after_on e f x (inr a) (inr b) = inr ((let c = a.0 in let d = b.0 in omega arith), (let c = a.1 in let d = b.1 in omega arith))

one_stamp : {N : Type 0} → (e f : Event N) → NotAfter e f → NotAfter f e → Same e f
one_stamp e f (inl a) (inl b) = absurd (omega arith)
one_stamp e f (inl a) (inr b) = absurd (let c = b.0 in omega arith)
one_stamp e f (inr a) (inl b) = absurd (let c = a.0 in omega arith)
one_stamp e f (inr a) (inr b) = ((let c = a.0 in omega arith), (let c = a.1 in let d = b.1 in omega arith))

itself : {N : Type 0} → (e f : Event N) → Same e f → NotAfter f e
itself e f s = inr (s.0, (let a = s.1 in omega arith))

-- ---- the first event

-- an event with x's stamp stands in the list
abbrev Has : {N : Type 0} → Event N → List (Event N) → Type 0
Has {N} x xs = (e : Event N) × (rest : List (Event N)) × (filter (same_stamp x) xs ≡ e ∷ rest)

-- the first is not after any
first_of_all : {N : Type 0} → (f x : Event N) (xs : List (Event N)) → InOrder (f ∷ xs) → Has x (f ∷ xs) → NotAfter f x
first_of_all {N} f x [] order has = by (same_stamp x f) refl has.2
  where
    by : (t : Bool) → same_stamp x f ≡ t → (if t then f ∷ [] else []) ≡ has.0 ∷ has.1 → NotAfter f x
    by true is e = itself x f (same_is x f is)
    by false is e = absurd (cc)
first_of_all {N} f x (y ∷ ys) order has = by (λ h. first_of_all y x ys order.1 h) (same_stamp x f) refl has.2
  where
    by : (Has x (y ∷ ys) → NotAfter y x) → (t : Bool) → same_stamp x f ≡ t → (if t then f ∷ filter (same_stamp x) (y ∷ ys) else filter (same_stamp x) (y ∷ ys)) ≡ has.0 ∷ has.1 → NotAfter f x
    by more true is e = itself x f (same_is x f is)
    by more false is e = not_after_on f y x order.0 (more (has.0, has.1, e))

-- it has its own stamp
has_first : {N : Type 0} → (f : Event N) (xs : List (Event N)) → filter (same_stamp f) (f ∷ xs) ≡ f ∷ filter (same_stamp f) xs
has_first {N} f xs = ap (λ (t : Bool). if t then f ∷ filter (same_stamp f) xs else filter (same_stamp f) xs) (is_same f f (refl, refl))

-- ---- all

without_first : {N : Type 0} → (x f : Event N) (xs ys : List (Event N)) → filter (same_stamp x) (f ∷ xs) ≡ filter (same_stamp x) (f ∷ ys) → filter (same_stamp x) xs ≡ filter (same_stamp x) ys
without_first {N} x f xs ys e = by (same_stamp x f) e
  where
    by : (t : Bool) → (if t then f ∷ filter (same_stamp x) xs else filter (same_stamp x) xs) ≡ (if t then f ∷ filter (same_stamp x) ys else filter (same_stamp x) ys) → filter (same_stamp x) xs ≡ filter (same_stamp x) ys
    by true e = cc
    by false e = e

first_same : {N : Type 0} → (f g : Event N) (fs gs : List (Event N)) → f ∷ fs ≡ g ∷ gs → f ≡ g
first_same f g fs gs e = cc

one_list : {N : Type 0} → (xs ys : List (Event N)) → InOrder xs → InOrder ys → ((x : Event N) → filter (same_stamp x) xs ≡ filter (same_stamp x) ys) → xs ≡ ys
one_list [] [] o p h = refl
one_list {N} [] (g ∷ gs) o p h = let e : [] ≡ g ∷ filter (same_stamp g) gs = h g ∙ has_first g gs in absurd (cc)
one_list {N} (f ∷ fs) [] o p h = let e : f ∷ filter (same_stamp f) fs ≡ [] = sym (has_first f fs) ∙ h f in absurd (cc)
one_list {N} (f ∷ fs) (g ∷ gs) o p h =
    let fg : NotAfter f g = first_of_all f g fs o (g, filter (same_stamp g) gs, h g ∙ has_first g gs) in
    let gf : NotAfter g f = first_of_all g f gs p (f, filter (same_stamp f) fs, sym (h f) ∙ has_first f fs) in
    let there : filter (same_stamp f) (g ∷ gs) ≡ g ∷ filter (same_stamp f) gs = ap (λ (t : Bool). if t then g ∷ filter (same_stamp f) gs else filter (same_stamp f) gs) (is_same f g (one_stamp f g fg gf)) in
    let same : f ≡ g = first_same f g (filter (same_stamp f) fs) (filter (same_stamp f) gs) (sym (has_first f fs) ∙ (h f ∙ there)) in
    let rest = one_list fs gs o.1 p.1 (λ x. without_first x f fs gs (h x ∙ ap (λ (z : Event N). filter (same_stamp x) (z ∷ gs)) (sym same))) in
    ap₂ (λ (z : Event N) (zs : List (Event N)). z ∷ zs) same rest

pub one_order : {N : Type 0} → (es fs gs : List (Event N)) → IsSorted es fs → IsSorted es gs → fs ≡ gs
one_order es fs gs a b = one_list fs gs a.ordered b.ordered (λ x. a.stable x ∙ sym (b.stable x))
