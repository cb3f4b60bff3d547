-- Places in the list of messages.
use Rattle.std.proofs.Common.{◌≡◌, ℕ, zero, suc, ◌≤◌, ◌<◌, Bool, true, false, cond, arith, refl, sym, subst, List, [], ◌∷◌, ◌++◌, take, drop, length, slice_get, None, Some, ap, ap₂}
use Rattle.std.proofs.Math.Path.{◌∙◌}
use Rattle.std.proofs.lemmas.Bool.Decides.{nat_tests}
use Rattle.og_runs.specs.declared.MsgId.{MsgId}
use Rattle.og_runs.specs.declared.Msg.{Msg}
use Rattle.og_runs.specs.Runs.{same_id}
use Rattle.og_runs.specs.World.{find, without, Distinct, precedes, placed, PrecedesAll, InPlace}
use Rattle.og_flight.specs.declared.IndexEntry.{IndexEntry}
use Rattle.og_flight.specs.Flight.{before, rank, rank_of}

same_id_equal : (i j : MsgId) → same_id i j ≡ true → i ≡ j
same_id_equal i j e = let a : i.sender ≡ j.sender = grind (arith, nat_tests) in let b : i.seq ≡ j.seq = grind (arith, nat_tests) in ap₂ (λ (x y : ℕ). record { sender = x; seq = y }) a b

same_self : (i : MsgId) → same_id i i ≡ true
same_self i = grind (arith, nat_tests)

pub before_trans : (a s q b t r c u p : ℕ) → before a s q b t r ≡ true → before b t r c u p ≡ true → before a s q c u p ≡ true
before_trans a s q b t r c u p e f = grind (arith, nat_tests)

pub before_self : (a s q : ℕ) → before a s q a s q ≡ false
before_self a s q = grind (arith, nat_tests)

pub rank_of_within : (a s q : ℕ) (es : List IndexEntry) → rank_of a s q es ≤ length es
rank_of_within a s q [] = omega arith
rank_of_within a s q (e ∷ es) = at (before e.to e.sender e.seq a s q) (rank_of_within a s q es)
  where
    at : (w : Bool) → rank_of a s q es ≤ length es → cond w (suc (rank_of a s q es)) 0 ≤ suc (length es)
    at true h = omega arith
    at false h = omega arith

pub rank_of_below : (a s q : ℕ) (es : List IndexEntry) (k : ℕ) (e : IndexEntry) → slice_get es k ≡ Some e → before e.to e.sender e.seq a s q ≡ false → rank_of a s q es ≤ k
rank_of_below a s q [] k e is h = omega arith
rank_of_below a s q (x ∷ es) zero e is h = let same : x ≡ e = cc in let no : before x.to x.sender x.seq a s q ≡ false = subst (λ (z : IndexEntry). before z.to z.sender z.seq a s q ≡ false) (sym same) h in rw no (omega arith)
rank_of_below a s q (x ∷ es) (suc k) e is h = at (before x.to x.sender x.seq a s q) (rank_of_below a s q es k e is h)
  where
    at : (w : Bool) → rank_of a s q es ≤ k → cond w (suc (rank_of a s q es)) 0 ≤ suc k
    at true h = omega arith
    at false h = omega arith

-- in a list in place, what stands before is at the front
pub rank_above : {K : Type 0} → (a s q : ℕ) (xs : List (Msg K)) (k : ℕ) (m : Msg K) → InPlace xs → slice_get xs k ≡ Some m → before m.to m.id.sender m.id.seq a s q ≡ true → k < rank a s q xs
rank_above a s q [] k m h is b = absurd (cc)
rank_above {K} a s q (x ∷ xs) zero m h is b = let same : x ≡ m = cc in let yes : before x.to x.id.sender x.id.seq a s q ≡ true = subst (λ (z : Msg K). before z.to z.id.sender z.id.seq a s q ≡ true) (sym same) b in rw yes (omega arith)
rank_above {K} a s q (x ∷ xs) (suc k) m h is b =
    let first : precedes x m ≡ true = preceded x xs k m h.0 is in
    let yes : before x.to x.id.sender x.id.seq a s q ≡ true = before_trans x.to x.id.sender x.id.seq m.to m.id.sender m.id.seq a s q first b in
    let r : k < rank a s q xs = rank_above a s q xs k m h.1 is b in rw yes (omega arith)
  where
    preceded : (x : Msg K) (ys : List (Msg K)) (k : ℕ) (m : Msg K) → PrecedesAll x ys → slice_get ys k ≡ Some m → precedes x m ≡ true
    preceded x [] k m h is = absurd (cc)
    preceded x (y ∷ ys) zero m h is = let same : y ≡ m = cc in subst (λ (z : Msg K). precedes x z ≡ true) same h.0
    preceded x (y ∷ ys) (suc k) m h is = preceded x ys k m h.1 is

pub placed_is : {K : Type 0} → (m : Msg K) (xs : List (Msg K)) → placed m xs ≡ take (rank m.to m.id.sender m.id.seq xs) xs ++ m ∷ drop (rank m.to m.id.sender m.id.seq xs) xs
placed_is m [] = refl
placed_is {K} m (x ∷ xs) = at (before x.to x.id.sender x.id.seq m.to m.id.sender m.id.seq) (placed_is m xs)
  where
    at : (w : Bool) → placed m xs ≡ take (rank m.to m.id.sender m.id.seq xs) xs ++ m ∷ drop (rank m.to m.id.sender m.id.seq xs) xs →
        cond w (x ∷ placed m xs) (m ∷ x ∷ xs) ≡ take (cond w (suc (rank m.to m.id.sender m.id.seq xs)) 0) (x ∷ xs) ++ m ∷ drop (cond w (suc (rank m.to m.id.sender m.id.seq xs)) 0) (x ∷ xs)
    at true h = ap (λ (zs : List (Msg K)). x ∷ zs) h
    at false h = refl

-- and stands at its rank
pub placed_at : {K : Type 0} → (m : Msg K) (xs : List (Msg K)) → slice_get (placed m xs) (rank m.to m.id.sender m.id.seq xs) ≡ Some m
placed_at m [] = refl
placed_at {K} m (x ∷ xs) = at (before x.to x.id.sender x.id.seq m.to m.id.sender m.id.seq) (placed_at m xs)
  where
    at : (w : Bool) → slice_get (placed m xs) (rank m.to m.id.sender m.id.seq xs) ≡ Some m → slice_get (cond w (x ∷ placed m xs) (m ∷ x ∷ xs)) (cond w (suc (rank m.to m.id.sender m.id.seq xs)) 0) ≡ Some m
    at true h = h
    at false h = refl

-- what is found behind x comes after it
found_after : {K : Type 0} → (x : Msg K) (ms : List (Msg K)) (i : MsgId) (m : Msg K) → PrecedesAll x ms → find i ms ≡ Some m → precedes x m ≡ true
found_after x [] i m h e = absurd (cc)
found_after {K} x (y ∷ ys) i m h e = at (same_id i y.id) e (λ k. found_after x ys i m h.1 k)
  where
    at : (w : Bool) → cond w (Some y) (find i ys) ≡ Some m → (find i ys ≡ Some m → precedes x m ≡ true) → precedes x m ≡ true
    at true k r = let same : y ≡ m = cc in subst (λ (z : Msg K). precedes x z ≡ true) same h.0
    at false k r = r k

-- what is found has the id
pub found_named : {K : Type 0} → (i : MsgId) (ys : List (Msg K)) (m : Msg K) → find i ys ≡ Some m → i ≡ m.id
found_named i [] m e = absurd (cc)
found_named {K} i (y ∷ ys) m e = go (same_id i y.id) refl e (λ f. found_named i ys m f)
  where
    go : (w : Bool) → same_id i y.id ≡ w → cond w (Some y) (find i ys) ≡ Some m → (find i ys ≡ Some m → i ≡ m.id) → i ≡ m.id
    go true is e r = let same : y ≡ m = cc in subst (λ (z : Msg K). i ≡ z.id) same (same_id_equal i y.id is)
    go false is e r = r e

-- a message stands at its rank
pub found_at : {K : Type 0} → (i : MsgId) (xs : List (Msg K)) (m : Msg K) → InPlace xs → find i xs ≡ Some m → slice_get xs (rank m.to i.sender i.seq xs) ≡ Some m
found_at i [] m h e = absurd (cc)
found_at {K} i (x ∷ xs) m h e = at (same_id i x.id) refl e (λ f. found_at i xs m h.1 f)
  where
    at : (w : Bool) → same_id i x.id ≡ w → cond w (Some x) (find i xs) ≡ Some m → (find i xs ≡ Some m → slice_get xs (rank m.to i.sender i.seq xs) ≡ Some m) → slice_get (x ∷ xs) (rank m.to i.sender i.seq (x ∷ xs)) ≡ Some m
    at true is e r =
        let same : x ≡ m = cc in
        let id : i ≡ x.id = same_id_equal i x.id is in
        let no : before x.to x.id.sender x.id.seq m.to i.sender i.seq ≡ false =
        subst (λ (z : Msg K). before x.to x.id.sender x.id.seq z.to i.sender i.seq ≡ false) same (subst (λ (j : MsgId). before x.to x.id.sender x.id.seq x.to j.sender j.seq ≡ false) (sym id) (before_self x.to x.id.sender x.id.seq)) in
        ap (λ (w : Bool). slice_get (x ∷ xs) (cond w (suc (rank m.to i.sender i.seq xs)) 0)) no ∙ e
    at false is e r =
        let yes : precedes x m ≡ true = found_after x xs i m h.0 e in
        let yes' : before x.to x.id.sender x.id.seq m.to i.sender i.seq ≡ true = subst (λ (j : MsgId). before x.to x.id.sender x.id.seq m.to j.sender j.seq ≡ true) (sym (found_named i xs m e)) yes in
        ap (λ (w : Bool). slice_get (x ∷ xs) (cond w (suc (rank m.to i.sender i.seq xs)) 0)) yes' ∙ r e

-- what stands in the list is found
pub found_of : {K : Type 0} → (xs : List (Msg K)) (k : ℕ) (m : Msg K) → Distinct xs → slice_get xs k ≡ Some m → find m.id xs ≡ Some m
found_of [] k m h e = absurd (cc)
found_of {K} (x ∷ xs) zero m h e = let same : x ≡ m = cc in subst (λ (z : Msg K). find z.id (x ∷ xs) ≡ Some z) same (ap (λ (w : Bool). cond w (Some x) (find x.id xs)) (same_self x.id))
found_of {K} (x ∷ xs) (suc k) m h e = at (same_id m.id x.id) refl (found_of xs k m h.1 e)
  where
    at : (w : Bool) → same_id m.id x.id ≡ w → find m.id xs ≡ Some m → cond w (Some x) (find m.id xs) ≡ Some m
    at true is f = let none : find m.id xs ≡ None = subst (λ (j : MsgId). find j xs ≡ None) (sym (same_id_equal m.id x.id is)) h.0 in absurd (cc)
    at false is f = f

without_none : {K : Type 0} → (i : MsgId) (ms : List (Msg K)) → find i ms ≡ None → without i ms ≡ ms
without_none i [] e = refl
without_none {K} i (m ∷ ms) e = at (same_id i m.id) e (λ f. without_none i ms f)
  where
    at : (w : Bool) → cond w (Some m) (find i ms) ≡ None → (find i ms ≡ None → without i ms ≡ ms) → cond w (without i ms) (m ∷ without i ms) ≡ m ∷ ms
    at true e k = absurd (cc)
    at false e k = ap (λ (zs : List (Msg K)). m ∷ zs) (k e)

pub removed_is : {K : Type 0} → (xs : List (Msg K)) (k : ℕ) (m : Msg K) → Distinct xs → slice_get xs k ≡ Some m → take k xs ++ drop (suc k) xs ≡ without m.id xs
removed_is [] k m h e = absurd (cc)
removed_is {K} (x ∷ xs) zero m h e =
    let same : x ≡ m = cc in
    subst (λ (z : Msg K). xs ≡ without z.id (x ∷ xs)) same (sym (ap (λ (w : Bool). cond w (without x.id xs) (x ∷ without x.id xs)) (same_self x.id) ∙ without_none x.id xs h.0))
removed_is {K} (x ∷ xs) (suc k) m h e = at (same_id m.id x.id) refl (removed_is xs k m h.1 e) (found_of xs k m h.1 e)
  where
    at : (w : Bool) → same_id m.id x.id ≡ w → take k xs ++ drop (suc k) xs ≡ without m.id xs → find m.id xs ≡ Some m → x ∷ (take k xs ++ drop (suc k) xs) ≡ cond w (without m.id xs) (x ∷ without m.id xs)
    at true is f g = let none : find m.id xs ≡ None = subst (λ (j : MsgId). find j xs ≡ None) (sym (same_id_equal m.id x.id is)) h.0 in absurd (cc)
    at false is f g = ap (λ (zs : List (Msg K)). x ∷ zs) f
