-- Entries, their slots and their messages.
use Rattle.std.proofs.Common.{◌≡◌, ℕ, zero, suc, ◌+◌, ◌<◌, Bool, true, false, cond, nat_eq, arith, refl, sym, subst, List, [], ◌∷◌, ◌++◌, take, drop, length, slice_get, slice_set, Option, None, Some, ap, ap₂}
use Rattle.std.proofs.Math.Path.{◌∙◌}
use Rattle.std.proofs.lemmas.Bool.Decides.{nat_tests}
use Rattle.og_runs.specs.declared.Msg.{Msg}
use Rattle.og_runs.specs.World.{InPlace}
use Rattle.og_flight.specs.declared.IndexEntry.{IndexEntry}
use Rattle.og_flight.specs.Flight.{before, rank, rank_of, IsRanked, with_some, messages_of, AllOf, uses, spares}
use Rattle.og_flight.proofs.Ranks.{rank_above}

-- the messages in two parts
pub messages_append : {K : Type 0} → (slab : List (Msg K)) (xs ys : List IndexEntry) → messages_of slab (xs ++ ys) ≡ messages_of slab xs ++ messages_of slab ys
messages_append slab [] ys = refl
messages_append {K} slab (x ∷ xs) ys = at (slice_get slab x.slot) (messages_append slab xs ys)
  where
    at : (o : Option (Msg K)) → messages_of slab (xs ++ ys) ≡ messages_of slab xs ++ messages_of slab ys → with_some o (messages_of slab (xs ++ ys)) ≡ with_some o (messages_of slab xs) ++ messages_of slab ys
    at None h = h
    at (Some m) h = ap (λ (zs : List (Msg K)). m ∷ zs) h

pub messages_length : {K : Type 0} → (slab : List (Msg K)) (es : List IndexEntry) → AllOf slab es → length (messages_of slab es) ≡ length es
messages_length slab [] h = refl
messages_length {K} slab (e ∷ es) h = ap (λ (o : Option (Msg K)). length (with_some o (messages_of slab es))) h.0.1 ∙ ap (λ (n : ℕ). suc n) (messages_length slab es h.1)

pub messages_take : {K : Type 0} → (slab : List (Msg K)) (es : List IndexEntry) (k : ℕ) → AllOf slab es → messages_of slab (take k es) ≡ take k (messages_of slab es)
messages_take slab [] zero h = refl
messages_take slab [] (suc k) h = refl
messages_take slab (e ∷ es) zero h = refl
messages_take {K} slab (e ∷ es) (suc k) h =
    ap (λ (o : Option (Msg K)). with_some o (messages_of slab (take k es))) h.0.1 ∙ (ap (λ (zs : List (Msg K)). h.0.0 ∷ zs) (messages_take slab es k h.1) ∙ sym (ap (λ (o : Option (Msg K)). take (suc k) (with_some o (messages_of slab es))) h.0.1))

pub messages_drop : {K : Type 0} → (slab : List (Msg K)) (es : List IndexEntry) (k : ℕ) → AllOf slab es → messages_of slab (drop k es) ≡ drop k (messages_of slab es)
messages_drop slab [] zero h = refl
messages_drop slab [] (suc k) h = refl
messages_drop slab (e ∷ es) zero h = refl
messages_drop {K} slab (e ∷ es) (suc k) h = messages_drop slab es k h.1 ∙ sym (ap (λ (o : Option (Msg K)). drop (suc k) (with_some o (messages_of slab es))) h.0.1)

pub messages_get : {K : Type 0} → (slab : List (Msg K)) (es : List IndexEntry) (k : ℕ) (e : IndexEntry) → AllOf slab es → slice_get es k ≡ Some e → slice_get (messages_of slab es) k ≡ slice_get slab e.slot
messages_get slab [] k e h is = absurd (cc)
messages_get {K} slab (x ∷ es) zero e h is = let same : x ≡ e = cc in subst (λ (z : IndexEntry). slice_get (messages_of slab (x ∷ es)) 0 ≡ slice_get slab z.slot) same (ap (λ (o : Option (Msg K)). slice_get (with_some o (messages_of slab es)) 0) h.0.1 ∙ sym h.0.1)
messages_get {K} slab (x ∷ es) (suc k) e h is = ap (λ (o : Option (Msg K)). slice_get (with_some o (messages_of slab es)) (suc k)) h.0.1 ∙ messages_get slab es k e h.1 is

-- what is known of one entry
abbrev pub IsOne : {K : Type 0} → List (Msg K) → IndexEntry → Type 0
IsOne {K} slab e = (m : Msg K) × (slice_get slab e.slot ≡ Some m) × (m.to ≡ e.to) × (m.id.sender ≡ e.sender) × (m.id.seq ≡ e.seq)

pub all_get : {K : Type 0} → (slab : List (Msg K)) (es : List IndexEntry) (k : ℕ) (e : IndexEntry) → AllOf slab es → slice_get es k ≡ Some e → IsOne slab e
all_get slab [] k e h is = absurd (cc)
all_get slab (x ∷ es) zero e h is = let same : x ≡ e = cc in subst (λ (z : IndexEntry). IsOne slab z) same h.0
all_get slab (x ∷ es) (suc k) e h is = all_get slab es k e h.1 is

pub all_take : {K : Type 0} → (slab : List (Msg K)) (es : List IndexEntry) (k : ℕ) → AllOf slab es → AllOf slab (take k es)
all_take slab [] zero h = tt
all_take slab [] (suc k) h = tt
all_take slab (e ∷ es) zero h = tt
all_take slab (e ∷ es) (suc k) h = (h.0, all_take slab es k h.1)

pub all_drop : {K : Type 0} → (slab : List (Msg K)) (es : List IndexEntry) (k : ℕ) → AllOf slab es → AllOf slab (drop k es)
all_drop slab [] zero h = tt
all_drop slab [] (suc k) h = tt
all_drop slab (e ∷ es) zero h = h
all_drop slab (e ∷ es) (suc k) h = all_drop slab es k h.1

pub all_append : {K : Type 0} → (slab : List (Msg K)) (xs ys : List IndexEntry) → AllOf slab xs → AllOf slab ys → AllOf slab (xs ++ ys)
all_append slab [] ys h k = k
all_append slab (x ∷ xs) ys h k = (h.0, all_append slab xs ys h.1 k)

pub rank_same : {K : Type 0} → (a s q : ℕ) (slab : List (Msg K)) (es : List IndexEntry) → AllOf slab es → rank a s q (messages_of slab es) ≡ rank_of a s q es
rank_same a s q slab [] h = refl
rank_same {K} a s q slab (e ∷ es) h =
    let m : Msg K = h.0.0 in
    let key : before m.to m.id.sender m.id.seq a s q ≡ before e.to e.sender e.seq a s q = key_same m.to e.to m.id.sender e.sender m.id.seq e.seq h.0.2 h.0.3 h.0.4 in
    ap (λ (o : Option (Msg K)). rank a s q (with_some o (messages_of slab es))) h.0.1 ∙ ap₂ (λ (w : Bool) (n : ℕ). cond w (suc n) 0) key (rank_same a s q slab es h.1)
  where
    key_same : (b b' t t' r r' : ℕ) → b ≡ b' → t ≡ t' → r ≡ r' → before b t r a s q ≡ before b' t' r' a s q
    key_same b b' t t' r r' e f g = rw (e, f, g) refl

pub is_ranked : {K : Type 0} → (a s q : ℕ) (slab : List (Msg K)) (es : List IndexEntry) → AllOf slab es → InPlace (messages_of slab es) → IsRanked a s q es
is_ranked {K} a s q slab es h order k e is b =
    let one : IsOne slab e = all_get slab es k e h is in
    let m : Msg K = one.0 in
    let stands : slice_get (messages_of slab es) k ≡ Some m = messages_get slab es k e h is ∙ one.1 in
    let key : before m.to m.id.sender m.id.seq a s q ≡ true = key_same m.to e.to m.id.sender e.sender m.id.seq e.seq one.2 one.3 one.4 b in
    let r : k < rank a s q (messages_of slab es) = rank_above a s q (messages_of slab es) k m order stands key in
    let same : rank a s q (messages_of slab es) ≡ rank_of a s q es = rank_same a s q slab es h in omega arith
  where
    key_same : (b b' t t' r r' : ℕ) → b ≡ b' → t ≡ t' → r ≡ r' → before b' t' r' a s q ≡ true → before b t r a s q ≡ true
    key_same b b' t t' r r' e f g h = rw (e, f, g) h

-- ------------------------------------------------------------------------------ slabs that say the same of the entries

abbrev pub Agree : {K : Type 0} → List (Msg K) → List (Msg K) → List IndexEntry → Type 0
Agree s t [] = Unit {0}
Agree s t (e ∷ es) = (slice_get t e.slot ≡ slice_get s e.slot) × Agree s t es

pub messages_agree : {K : Type 0} → (s t : List (Msg K)) (es : List IndexEntry) → Agree s t es → messages_of t es ≡ messages_of s es
messages_agree s t [] h = refl
messages_agree {K} s t (e ∷ es) h = ap₂ (λ (o : Option (Msg K)) (zs : List (Msg K)). with_some o zs) h.0 (messages_agree s t es h.1)

pub all_agree : {K : Type 0} → (s t : List (Msg K)) (es : List IndexEntry) → Agree s t es → AllOf s es → AllOf t es
all_agree s t [] h k = tt
all_agree s t (e ∷ es) h k = ((k.0.0, h.0 ∙ k.0.1, k.0.2, k.0.3, k.0.4), all_agree s t es h.1 k.1)

pub slice_get_set_other : {X : Type 0} → (xs : List X) (p q : ℕ) (x : X) → nat_eq q p ≡ false → slice_get (slice_set xs p x) q ≡ slice_get xs q
slice_get_set_other [] p q x ne = refl
slice_get_set_other (y ∷ xs) zero zero x ne = absurd (cc)
slice_get_set_other (y ∷ xs) zero (suc q) x ne = refl
slice_get_set_other (y ∷ xs) (suc p) zero x ne = refl
slice_get_set_other (y ∷ xs) (suc p) (suc q) x ne = slice_get_set_other xs p q x (grind (arith, nat_tests))

pub slice_get_set_same : {X : Type 0} → (xs : List X) (p : ℕ) (x : X) → p < length xs → slice_get (slice_set xs p x) p ≡ Some x
slice_get_set_same [] p x lt = absurd (omega arith)
slice_get_set_same (y ∷ xs) zero x lt = refl
slice_get_set_same (y ∷ xs) (suc p) x lt = slice_get_set_same xs p x (omega arith)

pub slice_get_end : {X : Type 0} → (xs : List X) (x : X) → slice_get (xs ++ x ∷ []) (length xs) ≡ Some x
slice_get_end [] x = refl
slice_get_end (y ∷ xs) x = slice_get_end xs x

slice_get_more : {X : Type 0} → (xs ys : List X) (k : ℕ) (x : X) → slice_get xs k ≡ Some x → slice_get (xs ++ ys) k ≡ Some x
slice_get_more [] ys k x e = absurd (cc)
slice_get_more (y ∷ xs) ys zero x e = e
slice_get_more (y ∷ xs) ys (suc k) x e = slice_get_more xs ys k x e

pub agree_set : {K : Type 0} → (slab : List (Msg K)) (s : ℕ) (m : Msg K) (es : List IndexEntry) → uses s es ≡ 0 → Agree slab (slice_set slab s m) es
agree_set slab s m [] u = tt
agree_set {K} slab s m (e ∷ es) u = at (nat_eq e.slot s) refl u (λ v. agree_set slab s m es v)
  where
    at : (w : Bool) → nat_eq e.slot s ≡ w → cond w (suc (uses s es)) (uses s es) ≡ 0 → (uses s es ≡ 0 → Agree slab (slice_set slab s m) es) → (slice_get (slice_set slab s m) e.slot ≡ slice_get slab e.slot) × Agree slab (slice_set slab s m) es
    at true is u r = absurd (omega arith)
    at false is u r = (slice_get_set_other slab s e.slot m is, r u)

pub agree_more : {K : Type 0} → (slab : List (Msg K)) (m : Msg K) (es : List IndexEntry) → AllOf slab es → Agree slab (slab ++ m ∷ []) es
agree_more slab m [] h = tt
agree_more slab m (e ∷ es) h = (slice_get_more slab (m ∷ []) e.slot h.0.0 h.0.1 ∙ sym h.0.1, agree_more slab m es h.1)

-- ------------------------------------------------------------------------------ counts of slots

pub uses_append : (s : ℕ) (xs ys : List IndexEntry) → uses s (xs ++ ys) ≡ uses s xs + uses s ys
uses_append s [] ys = omega arith
uses_append s (x ∷ xs) ys = at (nat_eq x.slot s) (uses_append s xs ys)
  where
    at : (w : Bool) → uses s (xs ++ ys) ≡ uses s xs + uses s ys → cond w (suc (uses s (xs ++ ys))) (uses s (xs ++ ys)) ≡ cond w (suc (uses s xs)) (uses s xs) + uses s ys
    at true h = omega arith
    at false h = h

pub uses_parts : (s : ℕ) (es : List IndexEntry) (k : ℕ) → uses s (take k es) + uses s (drop k es) ≡ uses s es
uses_parts s [] zero = refl
uses_parts s [] (suc k) = refl
uses_parts s (e ∷ es) zero = omega arith
uses_parts s (e ∷ es) (suc k) = at (nat_eq e.slot s) (uses_parts s es k)
  where
    at : (w : Bool) → uses s (take k es) + uses s (drop k es) ≡ uses s es → cond w (suc (uses s (take k es))) (uses s (take k es)) + uses s (drop k es) ≡ cond w (suc (uses s es)) (uses s es)
    at true h = omega arith
    at false h = h

-- one more entry, at any place
pub uses_insert : (s : ℕ) (es : List IndexEntry) (k : ℕ) (e : IndexEntry) → uses s (take k es ++ e ∷ drop k es) ≡ cond (nat_eq e.slot s) 1 0 + uses s es
uses_insert s es k e = let a : uses s (take k es ++ e ∷ drop k es) ≡ uses s (take k es) + uses s (e ∷ drop k es) = uses_append s (take k es) (e ∷ drop k es) in let b : uses s (take k es) + uses s (drop k es) ≡ uses s es = uses_parts s es k in at (nat_eq e.slot s) a b
  where
    at : (w : Bool) → uses s (take k es ++ e ∷ drop k es) ≡ uses s (take k es) + cond w (suc (uses s (drop k es))) (uses s (drop k es)) → uses s (take k es) + uses s (drop k es) ≡ uses s es → uses s (take k es ++ e ∷ drop k es) ≡ cond w 1 0 + uses s es
    at true a b = omega arith
    at false a b = omega arith

-- one entry less
pub uses_remove : (s : ℕ) (es : List IndexEntry) (k : ℕ) (e : IndexEntry) → slice_get es k ≡ Some e → cond (nat_eq e.slot s) 1 0 + uses s (take k es ++ drop (suc k) es) ≡ uses s es
uses_remove s [] k e is = absurd (cc)
uses_remove s (x ∷ es) zero e is = let same : x ≡ e = cc in subst (λ (z : IndexEntry). cond (nat_eq z.slot s) 1 0 + uses s es ≡ uses s (x ∷ es)) same (at (nat_eq x.slot s))
  where
    at : (w : Bool) → cond w 1 0 + uses s es ≡ cond w (suc (uses s es)) (uses s es)
    at true = omega arith
    at false = omega arith
uses_remove s (x ∷ es) (suc k) e is = at (nat_eq x.slot s) (uses_remove s es k e is)
  where
    at : (w : Bool) → cond (nat_eq e.slot s) 1 0 + uses s (take k es ++ drop (suc k) es) ≡ uses s es →
        cond (nat_eq e.slot s) 1 0 + cond w (suc (uses s (take k es ++ drop (suc k) es))) (uses s (take k es ++ drop (suc k) es)) ≡ cond w (suc (uses s es)) (uses s es)
    at true h = omega arith
    at false h = h

pub spares_push : (s : ℕ) (ts : List ℕ) (t : ℕ) → spares s (ts ++ t ∷ []) ≡ spares s ts + cond (nat_eq t s) 1 0
spares_push s [] t = at (nat_eq t s)
  where
    at : (w : Bool) → cond w 1 0 ≡ 0 + cond w 1 0
    at true = refl
    at false = refl
spares_push s (x ∷ ts) t = at (nat_eq x s) (spares_push s ts t)
  where
    at : (w : Bool) → spares s (ts ++ t ∷ []) ≡ spares s ts + cond (nat_eq t s) 1 0 → cond w (suc (spares s (ts ++ t ∷ []))) (spares s (ts ++ t ∷ [])) ≡ cond w (suc (spares s ts)) (spares s ts) + cond (nat_eq t s) 1 0
    at true h = omega arith
    at false h = h
