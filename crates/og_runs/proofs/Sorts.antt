-- What a stable sort by stamps does to each actor's events.
use Rattle.std.proofs.Common.{◌≡◌, ℕ, suc, ◌<◌, ◌≤◌, Bool, true, false, cond, nat_eq, nat_lt, arith, ◌≢◌, inl, inr, refl, sym, subst, List, [], ◌∷◌, None, ap, ap₂, get_or, add-one, length}
use Rattle.std.specs.List.{filter}
use Rattle.std.specs.List.Sorted.{IsSortedBy}
use Rattle.std.proofs.Math.Path.{◌∙◌}
use Rattle.std.proofs.lemmas.Bool.Decides.{nat_tests}
use Rattle.og_runs.specs.declared.Choice.TheVariants.{Act}
use Rattle.og_runs.specs.declared.Event.{Event}
use Rattle.og_runs.specs.Runs.{own_events, ClocksRise, Chain, NotAfter, Before, InOrder, Strict}
use Rattle.og_runs.proofs.Locals.{own_events_rise}
use Rattle.og_runs.proofs.RunLaws.{ClocksRiseStrictly}

-- the events with that clock
abbrev pub at_clock : {N : Type 0} → ℕ → List (Event N) → List (Event N)
at_clock c [] = []
at_clock c (e ∷ es) = cond (nat_eq e.stamp.clock c) (e ∷ at_clock c es) (at_clock c es)

none_below : {N : Type 0} → (c d : ℕ) (es : List (Event N)) → ClocksRise d es → c < d → at_clock c es ≡ []
none_below c d [] h lt = refl
none_below c d (e ∷ es) h lt =
    let le : d ≤ e.stamp.clock = h.0 in
    let ne : nat_eq e.stamp.clock c ≡ false = grind (arith, nat_tests) in
    let r : at_clock c es ≡ [] = none_below c e.stamp.clock es h.1 (omega arith) in rw (ne, r) refl

at_clock_first : {N : Type 0} → (e : Event N) (es : List (Event N)) → at_clock e.stamp.clock (e ∷ es) ≡ e ∷ at_clock e.stamp.clock es
at_clock_first e es = let same : nat_eq e.stamp.clock e.stamp.clock ≡ true = grind (arith, nat_tests) in rw same refl

clock_not_less : {N : Type 0} → (x y : Event N) (xs ys : List (Event N)) → ClocksRise y.stamp.clock ys → at_clock x.stamp.clock (x ∷ xs) ≡ at_clock x.stamp.clock (y ∷ ys) → y.stamp.clock ≤ x.stamp.clock
clock_not_less {N} x y xs ys up h = go (nat_lt x.stamp.clock y.stamp.clock) refl
  where
    go : (w : Bool) → nat_lt x.stamp.clock y.stamp.clock ≡ w → y.stamp.clock ≤ x.stamp.clock
    go true is =
        let lt : x.stamp.clock < y.stamp.clock = grind (arith, nat_tests) in
        let none : at_clock x.stamp.clock (y ∷ ys) ≡ [] = none_below x.stamp.clock y.stamp.clock (y ∷ ys) (omega arith, up) lt in
        let k : x ∷ at_clock x.stamp.clock xs ≡ [] = sym (at_clock_first x xs) ∙ (h ∙ none) in absurd (cc)
    go false is = grind (arith, nat_tests)

-- lists of rising clocks with the same events at each clock
pub same_groups : {N : Type 0} → (b : ℕ) (xs ys : List (Event N)) → ClocksRise b xs → ClocksRise b ys → ((c : ℕ) → at_clock c xs ≡ at_clock c ys) → xs ≡ ys
same_groups b [] [] up vp h = refl
same_groups {N} b [] (y ∷ ys) up vp h = let k : [] ≡ y ∷ at_clock y.stamp.clock ys = h y.stamp.clock ∙ at_clock_first y ys in absurd (cc)
same_groups {N} b (x ∷ xs) [] up vp h = let k : x ∷ at_clock x.stamp.clock xs ≡ [] = sym (at_clock_first x xs) ∙ h x.stamp.clock in absurd (cc)
same_groups {N} b (x ∷ xs) (y ∷ ys) up vp h =
    let le : y.stamp.clock ≤ x.stamp.clock = clock_not_less x y xs ys vp.1 (h x.stamp.clock) in
    let ge : x.stamp.clock ≤ y.stamp.clock = clock_not_less y x ys xs up.1 (sym (h y.stamp.clock)) in
    let clock : x.stamp.clock ≡ y.stamp.clock = omega arith in
    let k : x ∷ at_clock x.stamp.clock xs ≡ y ∷ at_clock x.stamp.clock ys = sym (at_clock_first x xs) ∙ (h x.stamp.clock ∙ subst (λ (c : ℕ). at_clock c (y ∷ ys) ≡ y ∷ at_clock c ys) (sym clock) (at_clock_first y ys)) in
    let first : x ≡ y = cc in
    let tail : at_clock x.stamp.clock xs ≡ at_clock x.stamp.clock ys = cc in
    ap₂ (λ (z : Event N) (zs : List (Event N)). z ∷ zs) first (same_groups x.stamp.clock xs ys up.1 (subst (λ (c : ℕ). ClocksRise c ys) (sym clock) vp.1) (λ c. at c clock tail (nat_eq x.stamp.clock c) refl (h c)))
  where
    at : (c : ℕ) → x.stamp.clock ≡ y.stamp.clock → at_clock x.stamp.clock xs ≡ at_clock x.stamp.clock ys → (w : Bool) → nat_eq x.stamp.clock c ≡ w → at_clock c (x ∷ xs) ≡ at_clock c (y ∷ ys) → at_clock c xs ≡ at_clock c ys
    at c clock tail true is k = let same : x.stamp.clock ≡ c = grind (arith, nat_tests) in subst (λ (d : ℕ). at_clock d xs ≡ at_clock d ys) same tail
    at c clock tail false is k =
        let other : nat_eq y.stamp.clock c ≡ false = subst (λ (d : ℕ). nat_eq d c ≡ false) clock is in
        let l : at_clock c (x ∷ xs) ≡ at_clock c xs = ap (λ (w : Bool). cond w (x ∷ at_clock c xs) (at_clock c xs)) is in
        let m : at_clock c (y ∷ ys) ≡ at_clock c ys = ap (λ (w : Bool). cond w (y ∷ at_clock c ys) (at_clock c ys)) other in
        sym l ∙ (k ∙ m)

-- one actor's events at a clock, by a test on stamps that says so
own_events_at : {N : Type 0} → (a c : ℕ) (test : Event N → Bool) → ((e : Event N) → test e ≡ cond (nat_eq e.stamp.actor a) (nat_eq e.stamp.clock c) false) → (es : List (Event N)) → at_clock c (own_events a es) ≡ filter test es
own_events_at a c test is [] = refl
own_events_at {N} a c test is (e ∷ es) = at (nat_eq e.stamp.actor a) (is e) (own_events_at a c test is es)
  where
    at : (w : Bool) → test e ≡ cond w (nat_eq e.stamp.clock c) false → at_clock c (own_events a es) ≡ filter test es → at_clock c (cond w (e ∷ own_events a es) (own_events a es)) ≡ cond (test e) (e ∷ filter test es) (filter test es)
    at true t h = ap₂ (λ (w : Bool) (zs : List (Event N)). cond w (e ∷ zs) zs) (sym t) h
    at false t h = h ∙ ap (λ (w : Bool). cond w (e ∷ filter test es) (filter test es)) (sym t)

-- a list of rising clocks with the same events at each stamp has the same logs
pub logs_stay : {N : Type 0} → (same_stamp : Event N → Event N → Bool) → ((x e : Event N) → same_stamp x e ≡ cond (nat_eq e.stamp.actor x.stamp.actor) (nat_eq e.stamp.clock x.stamp.clock) false) →
    (es fs : List (Event N)) → ClocksRise 0 fs → ((a : ℕ) → ClocksRise 0 (own_events a es)) → ((x : Event N) → filter (same_stamp x) fs ≡ filter (same_stamp x) es) → (a : ℕ) → own_events a fs ≡ own_events a es
logs_stay {N} same_stamp is es fs up logs h a = same_groups 0 (own_events a fs) (own_events a es) (own_events_rise a 0 fs up) (logs a)
    (λ c. let x : Event N = record { choice = Act a; stamp = record { clock = c; actor = a }; note = None } in own_events_at a c (same_stamp x) (is x) fs ∙ (h x ∙ sym (own_events_at a c (same_stamp x) (is x) es)))

-- tests that agree keep the same
pub filter_same : {X : Type 0} → (p q : X → Bool) → ((x : X) → p x ≡ q x) → (xs : List X) → filter p xs ≡ filter q xs
filter_same p q h xs = ap (λ f. filter f xs) (λ i x. h x i)

-- neighbours in order
chain_up : {N : Type 0} → (lt : Event N → Event N → Bool) → (R : Event N → Event N → Type 0) → ((x y : Event N) → lt y x ≡ false → R x y) → (x : Event N) (xs : List (Event N)) →
    ((k : ℕ) (d : Event N) → suc k < length (x ∷ xs) → lt (get_or (x ∷ xs) (suc k) d) (get_or (x ∷ xs) k d) ≡ false) → Chain R (x ∷ xs)
chain_up lt R h x [] up = (tt, tt)
chain_up lt R h x (y ∷ ys) up = (h x y (up 0 x (omega arith)), chain_up lt R h y ys (λ k d less. up (suc k) d (omega arith)))

pub chain_sorted : {N : Type 0} → (lt : Event N → Event N → Bool) → (R : Event N → Event N → Type 0) → ((x y : Event N) → lt y x ≡ false → R x y) → (xs : List (Event N)) → IsSortedBy lt xs → Chain R xs
chain_sorted lt R h [] up = tt
chain_sorted {N} lt R h (x ∷ xs) up = chain_up lt R h x xs (λ k d less. subst (λ (z : ℕ). lt (get_or (x ∷ xs) z d) (get_or (x ∷ xs) k d) ≡ false) (add-one k) (up k d (omega arith) (omega arith)))

rising_next : {N : Type 0} → (x : Event N) (xs : List (Event N)) → InOrder (x ∷ xs) → ClocksRise x.stamp.clock xs
rising_next x [] h = tt
rising_next {N} x (y ∷ ys) h = (le h.0, rising_next y ys h.1)
  where
    le : NotAfter x y → x.stamp.clock ≤ y.stamp.clock
    le (inl lt) = omega arith
    le (inr e) = omega (arith, e.0)

pub rising_ordered : {N : Type 0} → (xs : List (Event N)) → InOrder xs → ClocksRise 0 xs
rising_ordered [] h = tt
rising_ordered (x ∷ xs) h = (omega arith, rising_next x xs h)

-- clocks of one log
abbrev RisesOn : {N : Type 0} → List (Event N) → Type 0
RisesOn [] = Unit {0}
RisesOn (e ∷ es) = ClocksRiseStrictly e.stamp.clock es

pub strictly_rises_on : {N : Type 0} → (c : ℕ) (es : List (Event N)) → ClocksRiseStrictly c es → RisesOn es
strictly_rises_on c [] h = tt
strictly_rises_on c (e ∷ es) h = h.1

-- where each actor's clocks rise, the stamps do
pub strict_sorted : {N : Type 0} → (fs : List (Event N)) → InOrder fs → ((a : ℕ) → RisesOn (own_events a fs)) → Strict fs
strict_sorted [] h logs = tt
strict_sorted (x ∷ []) h logs = (tt, tt)
strict_sorted {N} (x ∷ y ∷ ys) h logs = (before h.0 (nat_eq x.stamp.actor y.stamp.actor) refl, strict_sorted (y ∷ ys) h.1 (λ a. tail a (nat_eq x.stamp.actor a) (logs a)))
  where
    tail : (a : ℕ) (w : Bool) → RisesOn (cond w (x ∷ own_events a (y ∷ ys)) (own_events a (y ∷ ys))) → RisesOn (own_events a (y ∷ ys))
    tail a true k = strictly_rises_on x.stamp.clock (own_events a (y ∷ ys)) k
    tail a false k = k

    two : (v w : Bool) → v ≡ true → w ≡ true → RisesOn (cond v (x ∷ cond w (y ∷ own_events y.stamp.actor ys) (own_events y.stamp.actor ys)) (cond w (y ∷ own_events y.stamp.actor ys) (own_events y.stamp.actor ys))) → x.stamp.clock < y.stamp.clock
    two true true e f k = k.0
    two true false e f k = absurd (cc)
    two false w e f k = absurd (cc)

    before : NotAfter x y → (w : Bool) → nat_eq x.stamp.actor y.stamp.actor ≡ w → Before x y
    before (inl lt) w e = inl lt
    before (inr s) true e =
        let self : nat_eq y.stamp.actor y.stamp.actor ≡ true = grind (arith, nat_tests) in
        inl (two (nat_eq x.stamp.actor y.stamp.actor) (nat_eq y.stamp.actor y.stamp.actor) e self (logs y.stamp.actor))
    before (inr s) false e = let ne : x.stamp.actor ≢ y.stamp.actor = (λ q. absurd (grind (arith, nat_tests))) in inr (s.0, omega (arith, s.1))
