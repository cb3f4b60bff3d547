-- Sorted events are as many as those that were sorted.
use Rattle.std.proofs.Common.{◌≡◌, ◌∙◌, ℕ, suc, Bool, true, false, cond, arith, refl, sym, ap, List, [], ◌∷◌, length}
use Rattle.std.specs.List.{filter}
use Rattle.std.proofs.lemmas.Bool.Decides.{nat_tests}
use Rattle.og_runs.specs.declared.Event.{Event}
use Rattle.og_runs.specs.Runs.{same_stamp, IsSorted}

-- the events without the first that has this event's stamp
drop_one : {N : Type 0} → Event N → List (Event N) → List (Event N)
drop_one x [] = []
drop_one x (e ∷ es) = cond (same_stamp x e) es (e ∷ drop_one x es)

rest : {X : Type 0} → List X → List X
rest [] = []
rest (x ∷ xs) = xs

same_self : {N : Type 0} → (x : Event N) → same_stamp x x ≡ true
same_self x = grind (arith, nat_tests)

-- two events with the stamp of a third have one another's
alike : {N : Type 0} → (x y z : Event N) → same_stamp x z ≡ true → same_stamp y z ≡ true → same_stamp x y ≡ true
alike x y z a b = grind (arith, nat_tests)

unlike : {N : Type 0} → (x y z : Event N) → same_stamp x z ≡ true → same_stamp y z ≡ false → same_stamp x y ≡ false
unlike x y z a b = grind (arith, nat_tests)

apart : {N : Type 0} → (x y z : Event N) → same_stamp x z ≡ true → same_stamp y z ≡ false → same_stamp y x ≡ false
apart x y z a b = grind (arith, nat_tests)

-- one fewer, where there is such an event
one_fewer : {N : Type 0} → (x f : Event N) (zs es : List (Event N)) → f ∷ zs ≡ filter (same_stamp x) es → length es ≡ suc (length (drop_one x es))
unfolding drop_one
one_fewer x f zs [] e = absurd (cc)
one_fewer {N} x f zs (y ∷ es) e = at (same_stamp x y) e (λ k. one_fewer x f zs es k)
  where
    at : (w : Bool) → f ∷ zs ≡ cond w (y ∷ filter (same_stamp x) es) (filter (same_stamp x) es) → (f ∷ zs ≡ filter (same_stamp x) es → length es ≡ suc (length (drop_one x es))) → suc (length es) ≡ suc (length (cond w es (y ∷ drop_one x es)))
    at true e k = refl
    at false e k = ap (λ (n : ℕ). suc n) (k e)

-- those with another event's stamp, without it
dropped : {N : Type 0} → (x y : Event N) (es : List (Event N)) → filter (same_stamp x) (drop_one y es) ≡ cond (same_stamp x y) (rest (filter (same_stamp x) es)) (filter (same_stamp x) es)
unfolding drop_one rest
dropped {N} x y [] = at (same_stamp x y)
  where
    at : (w : Bool) → ◌≡◌ {A = List (Event N)} [] (cond w [] [])
    at true = refl
    at false = refl
dropped {N} x y (e ∷ es) = at (same_stamp y e) refl (same_stamp x e) refl (same_stamp x y) refl (dropped x y es)
  where
    at : (u : Bool) → same_stamp y e ≡ u → (v : Bool) → same_stamp x e ≡ v → (w : Bool) → same_stamp x y ≡ w → filter (same_stamp x) (drop_one y es) ≡ cond w (rest (filter (same_stamp x) es)) (filter (same_stamp x) es) →
        filter (same_stamp x) (cond u es (e ∷ drop_one y es)) ≡ cond w (rest (cond v (e ∷ filter (same_stamp x) es) (filter (same_stamp x) es))) (cond v (e ∷ filter (same_stamp x) es) (filter (same_stamp x) es))
    at true a true b true c k = refl
    at true a true b false c k = let d : same_stamp x y ≡ true = alike x y e b a in absurd (cc)
    at true a false b true c k = let d : same_stamp x y ≡ false = apart y x e a b in absurd (cc)
    at true a false b false c k = refl
    at false a true b true c k = let d : same_stamp x y ≡ false = unlike x y e b a in absurd (cc)
    at false a true b false c k = ap (λ (t : Bool). cond t (e ∷ filter (same_stamp x) (drop_one y es)) (filter (same_stamp x) (drop_one y es))) b ∙ ap (λ (l : List (Event N)). e ∷ l) k
    at false a false b true c k = ap (λ (t : Bool). cond t (e ∷ filter (same_stamp x) (drop_one y es)) (filter (same_stamp x) (drop_one y es))) b ∙ k
    at false a false b false c k = ap (λ (t : Bool). cond t (e ∷ filter (same_stamp x) (drop_one y es)) (filter (same_stamp x) (drop_one y es))) b ∙ k

as_many : {N : Type 0} → (fs es : List (Event N)) → ((x : Event N) → filter (same_stamp x) fs ≡ filter (same_stamp x) es) → length fs ≡ length es
unfolding rest
as_many [] [] h = refl
as_many [] (e ∷ es) h = absurd (let k = h e in let s : same_stamp e e ≡ true = same_self e in none (same_stamp e e) s k)
  where
    none : (w : Bool) → w ≡ true → [] ≡ cond w (e ∷ filter (same_stamp e) es) (filter (same_stamp e) es) → ⊥
    none true s k = cc
    none false s k = absurd (cc)
as_many {N} (f ∷ fs) es h =
    let s : same_stamp f f ≡ true = same_self f in
    let first : f ∷ filter (same_stamp f) fs ≡ filter (same_stamp f) es = sym (ap (λ (w : Bool). cond w (f ∷ filter (same_stamp f) fs) (filter (same_stamp f) fs)) s) ∙ h f in
    let fewer : length es ≡ suc (length (drop_one f es)) = one_fewer f f (filter (same_stamp f) fs) es first in
    let k : length fs ≡ length (drop_one f es) = as_many fs (drop_one f es) (λ x. less x (same_stamp x f) refl (h x)) in
    omega (arith, fewer, k)
  where
    less : (x : Event N) (w : Bool) → same_stamp x f ≡ w → cond w (f ∷ filter (same_stamp x) fs) (filter (same_stamp x) fs) ≡ filter (same_stamp x) es → filter (same_stamp x) fs ≡ filter (same_stamp x) (drop_one f es)
    less x true s e = ap (λ (l : List (Event N)). rest l) e ∙ (sym (ap (λ (w : Bool). cond w (rest (filter (same_stamp x) es)) (filter (same_stamp x) es)) s) ∙ sym (dropped x f es))
    less x false s e = e ∙ (sym (ap (λ (w : Bool). cond w (rest (filter (same_stamp x) es)) (filter (same_stamp x) es)) s) ∙ sym (dropped x f es))

pub sorted_length : {N : Type 0} → (es fs : List (Event N)) → IsSorted es fs → length fs ≡ length es
sorted_length es fs h = as_many fs es (λ x. h.stable x)
