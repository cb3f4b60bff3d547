-- Messages in flight, each at its place.
use Rattle.std.proofs.Common.{◌≡◌, Bool, true, false, cond, arith, refl, sym, subst, List, [], ◌∷◌, Option, None, Some, ap, ap₂, ℕ}
use Rattle.std.proofs.Math.Path.{◌∙◌}
use Rattle.std.proofs.lemmas.Bool.Decides.{nat_tests}
use Rattle.og_runs.specs.declared.MsgId.{MsgId}
use Rattle.og_runs.specs.declared.Msg.{Msg}
use Rattle.og_runs.specs.Runs.{same_id}
use Rattle.og_runs.specs.World.{find, without, Distinct, precedes, placed, placed_all, PrecedesAll, InPlace}

abbrev pub or_else : {X : Type 0} → Option X → Option X → Option X
or_else None y = y
or_else (Some x) y = Some x

pub same_id_equal : (i j : MsgId) → same_id i j ≡ true → i ≡ j
same_id_equal i j e = let a : i.sender ≡ j.sender = grind (arith, nat_tests) in let b : i.seq ≡ j.seq = grind (arith, nat_tests) in ap₂ (λ (x y : ℕ). record { sender = x; seq = y }) a b

pub same_self : (i : MsgId) → same_id i i ≡ true
same_self i = grind (arith, nat_tests)

pub find_without : {K : Type 0} → (i j : MsgId) (ms : List (Msg K)) → find j (without i ms) ≡ cond (same_id j i) None (find j ms)
find_without {K} i j [] = at (same_id j i)
  where
    at : (w : Bool) → find j (without {K = K} i []) ≡ cond w None (find {K = K} j [])
    at true = refl
    at false = refl
find_without {K} i j (m ∷ ms) = at (same_id i m.id) refl (same_id j i) refl (find_without i j ms)
  where
    at : (w : Bool) → same_id i m.id ≡ w → (x : Bool) → same_id j i ≡ x → find j (without i ms) ≡ cond x None (find j ms) → find j (cond w (without i ms) (m ∷ without i ms)) ≡ cond x None (cond (same_id j m.id) (Some m) (find j ms))
    at true e true f h = h
    at true e false f h = let ne : same_id j m.id ≡ false = subst (λ (z : MsgId). same_id j z ≡ false) (same_id_equal i m.id e) f in rw ne h
    at false e true f h = let ne : same_id j m.id ≡ false = subst (λ (z : MsgId). same_id z m.id ≡ false) (sym (same_id_equal j i f)) e in rw ne h
    at false e false f h = rw h refl

-- distinct ids
pub distinct_without : {K : Type 0} → (i : MsgId) (ms : List (Msg K)) → Distinct ms → Distinct (without i ms)
distinct_without i [] h = tt
distinct_without {K} i (m ∷ ms) h = at (same_id i m.id) (distinct_without i ms h.1)
  where
    none : (w : Bool) → cond w None (find m.id ms) ≡ None
    none true = refl
    none false = h.0

    at : (w : Bool) → Distinct (without i ms) → Distinct (cond w (without i ms) (m ∷ without i ms))
    at true k = k
    at false k = (find_without i m.id ms ∙ none (same_id m.id i), k)

-- ------------------------------------------------------------------------------ insertion

pub find_insert : {K : Type 0} → (j : MsgId) (m : Msg K) (xs : List (Msg K)) → find m.id xs ≡ None → find j (placed m xs) ≡ cond (same_id j m.id) (Some m) (find j xs)
find_insert j m [] none = refl
find_insert {K} j m (x ∷ xs) none = at (precedes x m) (same_id m.id x.id) refl none (λ e. find_insert j m xs e)
  where
    apart : same_id m.id x.id ≡ false → (y z : Bool) → same_id j x.id ≡ y → same_id j m.id ≡ z → cond y (Some x) (cond z (Some m) (find j xs)) ≡ cond z (Some m) (cond y (Some x) (find j xs))
    apart ne false z e f = refl
    apart ne true false e f = refl
    apart ne true true e f = let same : j ≡ m.id = same_id_equal j m.id f in let is : same_id m.id x.id ≡ true = subst (λ (i : MsgId). same_id i x.id ≡ true) same e in absurd (cc)

    at : (w v : Bool) → same_id m.id x.id ≡ v → cond v (Some x) (find m.id xs) ≡ None → (find m.id xs ≡ None → find j (placed m xs) ≡ cond (same_id j m.id) (Some m) (find j xs)) →
        find j (cond w (x ∷ placed m xs) (m ∷ x ∷ xs)) ≡ cond (same_id j m.id) (Some m) (cond (same_id j x.id) (Some x) (find j xs))
    at w true is e h = absurd (cc)
    at false false is e h = refl
    at true false is e h = ap (λ (o : Option (Msg K)). cond (same_id j x.id) (Some x) o) (h e) ∙ apart is (same_id j x.id) (same_id j m.id) refl refl

pub distinct_insert : {K : Type 0} → (m : Msg K) (xs : List (Msg K)) → Distinct xs → find m.id xs ≡ None → Distinct (placed m xs)
distinct_insert m [] h none = (refl, tt)
distinct_insert {K} m (x ∷ xs) h none = at (precedes x m) (same_id m.id x.id) refl none (λ e. distinct_insert m xs h.1 e)
  where
    flip : same_id m.id x.id ≡ false → same_id x.id m.id ≡ false
    flip e = grind (arith, nat_tests)

    at : (w v : Bool) → same_id m.id x.id ≡ v → cond v (Some x) (find m.id xs) ≡ None → (find m.id xs ≡ None → Distinct (placed m xs)) → Distinct (cond w (x ∷ placed m xs) (m ∷ x ∷ xs))
    at w true is e k = absurd (cc)
    at false false is e k = (none, h)
    at true false is e k = (find_insert x.id m xs e ∙ (ap (λ (b : Bool). cond b (Some m) (find x.id xs)) (flip is) ∙ h.0), k e)

-- ------------------------------------------------------------------------------ the order

pub precedes_trans : {K : Type 0} → (x y z : Msg K) → precedes x y ≡ true → precedes y z ≡ true → precedes x z ≡ true
precedes_trans x y z e f = grind (arith, nat_tests)

pub precedes_other : {K : Type 0} → (x y : Msg K) → precedes x y ≡ false → same_id y.id x.id ≡ false → precedes y x ≡ true
precedes_other x y e f = grind (arith, nat_tests)

pub precedes_not : {K : Type 0} → (x y : Msg K) → precedes x y ≡ true → precedes y x ≡ false
precedes_not x y e = grind (arith, nat_tests)

pub precedes_more : {K : Type 0} → (x y : Msg K) (ys : List (Msg K)) → precedes x y ≡ true → PrecedesAll y ys → PrecedesAll x ys
precedes_more x y [] e h = tt
precedes_more x y (z ∷ zs) e h = (precedes_trans x y z e h.0, precedes_more x y zs e h.1)

precedes_insert : {K : Type 0} → (x m : Msg K) (ys : List (Msg K)) → precedes x m ≡ true → PrecedesAll x ys → PrecedesAll x (placed m ys)
precedes_insert x m [] e h = (e, tt)
precedes_insert {K} x m (y ∷ ys) e h = at (precedes y m) (precedes_insert x m ys e h.1)
  where
    at : (w : Bool) → PrecedesAll x (placed m ys) → PrecedesAll x (cond w (y ∷ placed m ys) (m ∷ y ∷ ys))
    at true k = (h.0, k)
    at false k = (e, h)

pub in_place_insert : {K : Type 0} → (m : Msg K) (xs : List (Msg K)) → InPlace xs → find m.id xs ≡ None → InPlace (placed m xs)
in_place_insert m [] h none = (tt, tt)
in_place_insert {K} m (x ∷ xs) h none = at (precedes x m) refl (same_id m.id x.id) refl none (λ e. in_place_insert m xs h.1 e)
  where
    at : (w : Bool) → precedes x m ≡ w → (v : Bool) → same_id m.id x.id ≡ v → cond v (Some x) (find m.id xs) ≡ None → (find m.id xs ≡ None → InPlace (placed m xs)) → InPlace (cond w (x ∷ placed m xs) (m ∷ x ∷ xs))
    at w b true is e k = absurd (cc)
    at true b false is e k = (precedes_insert x m xs b h.0, k e)
    at false b false is e k = let before : precedes m x ≡ true = precedes_other x m b is in ((before, precedes_more m x xs before h.0), h)

precedes_without : {K : Type 0} → (x : Msg K) (i : MsgId) (ys : List (Msg K)) → PrecedesAll x ys → PrecedesAll x (without i ys)
precedes_without x i [] h = tt
precedes_without {K} x i (y ∷ ys) h = at (same_id i y.id) (precedes_without x i ys h.1)
  where
    at : (w : Bool) → PrecedesAll x (without i ys) → PrecedesAll x (cond w (without i ys) (y ∷ without i ys))
    at true k = k
    at false k = (h.0, k)

pub in_place_without : {K : Type 0} → (i : MsgId) (ms : List (Msg K)) → InPlace ms → InPlace (without i ms)
in_place_without i [] h = tt
in_place_without {K} i (m ∷ ms) h = at (same_id i m.id) (in_place_without i ms h.1)
  where
    at : (w : Bool) → InPlace (without i ms) → InPlace (cond w (without i ms) (m ∷ without i ms))
    at true k = k
    at false k = (precedes_without m i ms h.0, k)

-- ------------------------------------------------------------------------------ many

-- ids of the first list are none of the second
abbrev pub Apart : {K : Type 0} → List (Msg K) → List (Msg K) → Type 0
Apart {K} xs ps = (j : MsgId) (m : Msg K) → find j xs ≡ Some m → find j ps ≡ None

apart_head : {K : Type 0} → (xs : List (Msg K)) (p : Msg K) (ps : List (Msg K)) → Apart xs (p ∷ ps) → find p.id xs ≡ None
apart_head {K} xs p ps apart = at (find p.id xs) refl
  where
    at : (o : Option (Msg K)) → find p.id xs ≡ o → o ≡ None
    at None e = refl
    at (Some m) e = let f : None ≡ Some p = sym (apart p.id m e) ∙ ap (λ (w : Bool). cond w (Some p) (find p.id ps)) (same_self p.id) in absurd (cc)

apart_tail : {K : Type 0} → (xs : List (Msg K)) (p : Msg K) (ps : List (Msg K)) → Distinct (p ∷ ps) → Apart xs (p ∷ ps) → Apart (placed p xs) ps
apart_tail {K} xs p ps h apart j m e = at (same_id j p.id) refl (sym (find_insert j p xs (apart_head xs p ps apart)) ∙ e)
  where
    at : (w : Bool) → same_id j p.id ≡ w → cond w (Some p) (find j xs) ≡ Some m → find j ps ≡ None
    at true is k = subst (λ (i : MsgId). find i ps ≡ None) (sym (same_id_equal j p.id is)) h.0
    at false is k = sym (ap (λ (w : Bool). cond w (Some p) (find j ps)) is) ∙ apart j m k

pub find_insert_all : {K : Type 0} → (j : MsgId) (xs ps : List (Msg K)) → Distinct ps → Apart xs ps → find j (placed_all xs ps) ≡ or_else (find j xs) (find j ps)
find_insert_all {K} j xs [] h apart = at (find j xs)
  where
    at : (o : Option (Msg K)) → o ≡ or_else o None
    at None = refl
    at (Some m) = refl
find_insert_all {K} j xs (p ∷ ps) h apart = find_insert_all j (placed p xs) ps h.1 (apart_tail xs p ps h apart) ∙ (ap (λ (o : Option (Msg K)). or_else o (find j ps)) (find_insert j p xs none) ∙ at (same_id j p.id) refl)
  where
    none : find p.id xs ≡ None
    none = apart_head xs p ps apart

    at : (w : Bool) → same_id j p.id ≡ w → or_else (cond w (Some p) (find j xs)) (find j ps) ≡ or_else (find j xs) (cond w (Some p) (find j ps))
    at true is = let here : find j xs ≡ None = subst (λ (i : MsgId). find i xs ≡ None) (sym (same_id_equal j p.id is)) none in rw here refl
    at false is = refl

pub distinct_insert_all : {K : Type 0} → (xs ps : List (Msg K)) → Distinct xs → Distinct ps → Apart xs ps → Distinct (placed_all xs ps)
distinct_insert_all xs [] k h apart = k
distinct_insert_all xs (p ∷ ps) k h apart = distinct_insert_all (placed p xs) ps (distinct_insert p xs k (apart_head xs p ps apart)) h.1 (apart_tail xs p ps h apart)

pub in_place_all : {K : Type 0} → (xs ps : List (Msg K)) → InPlace xs → Distinct ps → Apart xs ps → InPlace (placed_all xs ps)
in_place_all xs [] k h apart = k
in_place_all xs (p ∷ ps) k h apart = in_place_all (placed p xs) ps (in_place_insert p xs k (apart_head xs p ps apart)) h.1 (apart_tail xs p ps h apart)

-- ------------------------------------------------------------------------------ one list for the same messages

-- what is found behind x comes after it
found_after : {K : Type 0} → (x : Msg K) (ms : List (Msg K)) (i : MsgId) (m : Msg K) → PrecedesAll x ms → find i ms ≡ Some m → precedes x m ≡ true
found_after x [] i m h e = absurd (cc)
found_after {K} x (y ∷ ys) i m h e = at (same_id i y.id) e (λ k. found_after x ys i m h.1 k)
  where
    at : (w : Bool) → cond w (Some y) (find i ys) ≡ Some m → (find i ys ≡ Some m → precedes x m ≡ true) → precedes x m ≡ true
    at true k r = let same : y ≡ m = cc in subst (λ (z : Msg K). precedes x z ≡ true) same h.0
    at false k r = r k

-- lists of the same messages, each at its place, are one
pub same_flight : {K : Type 0} → (xs ys : List (Msg K)) → Distinct xs → Distinct ys → InPlace xs → InPlace ys → ((i : MsgId) → find i xs ≡ find i ys) → xs ≡ ys
same_flight [] [] d e h k same = refl
same_flight {K} [] (y ∷ ys) d e h k same =
    let f : None ≡ Some y = same y.id ∙ ap (λ (w : Bool). cond w (Some y) (find y.id ys)) (same_self y.id) in absurd (cc)
same_flight {K} (x ∷ xs) [] d e h k same =
    let f : None ≡ Some x = sym (same x.id) ∙ ap (λ (w : Bool). cond w (Some x) (find x.id xs)) (same_self x.id) in absurd (cc)
same_flight {K} (x ∷ xs) (y ∷ ys) d e h k same =
    let head : x ≡ y = first (same_id x.id y.id) (sym (same x.id) ∙ ap (λ (w : Bool). cond w (Some x) (find x.id xs)) (same_self x.id)) in
    ap₂ (λ (z : Msg K) (zs : List (Msg K)). z ∷ zs) head (same_flight xs ys d.1 e.1 h.1 k.1 (λ i. tail head i (same_id i x.id) refl))
  where
    second : precedes y x ≡ true → (w : Bool) → cond w (Some x) (find y.id xs) ≡ Some y → x ≡ y
    second before true f = cc
    second before false f = let after : precedes x y ≡ true = found_after x xs y.id y h.0 f in let not : precedes y x ≡ false = precedes_not x y after in absurd (cc)

    first : (w : Bool) → cond w (Some y) (find x.id ys) ≡ Some x → x ≡ y
    first true f = cc
    first false f = second (found_after y ys x.id x k.0 f) (same_id y.id x.id) (same y.id ∙ ap (λ (w : Bool). cond w (Some y) (find y.id ys)) (same_self y.id))

    tail : x ≡ y → (i : MsgId) (w : Bool) → same_id i x.id ≡ w → find i xs ≡ find i ys
    tail head i true is =
        let id : i ≡ x.id = same_id_equal i x.id is in
        let left : find i xs ≡ None = subst (λ (j : MsgId). find j xs ≡ None) (sym id) d.0 in
        let right : find i ys ≡ None = subst (λ (j : MsgId). find j ys ≡ None) (sym (id ∙ ap (λ (z : Msg K). z.id) head)) e.0 in left ∙ sym right
    tail head i false is =
        let is' : same_id i y.id ≡ false = subst (λ (z : Msg K). same_id i z.id ≡ false) head is in
        sym (ap (λ (w : Bool). cond w (Some x) (find i xs)) is) ∙ (same i ∙ ap (λ (w : Bool). cond w (Some y) (find i ys)) is')
