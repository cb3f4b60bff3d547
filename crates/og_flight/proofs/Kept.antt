-- What sending and taking keep.
use Rattle.std.proofs.Common.{◌≡◌, ℕ, suc, ◌+◌, ◌≤◌, ◌<◌, Bool, true, false, cond, nat_eq, nat_lt, arith, refl, sym, subst, List, [], ◌∷◌, ◌++◌, take, drop, length, slice_get, slice_set, Option, None, Some, ap, ap₂, length-append, inl, inr}
use Rattle.std.proofs.Math.Path.{◌∙◌}
use Rattle.std.proofs.lemmas.Bool.Decides.{nat_tests}
use Rattle.std.proofs.lemmas.Grind.{common_steps}
use Rattle.og_runs.specs.declared.MsgId.{MsgId}
use Rattle.og_runs.specs.declared.Msg.{Msg}
use Rattle.og_runs.specs.World.{find, without, placed, Distinct, InPlace}
use Rattle.og_runs.proofs.Placed.{in_place_insert, distinct_insert, in_place_without, distinct_without}
use Rattle.og_runs.proofs.Shown.{slice_get_some, slice_get_below}
use Rattle.og_flight.specs.declared.IndexEntry.{IndexEntry}
use Rattle.og_flight.specs.Flight.{with_some, rank, rank_of, for_actor, found_for, messages_of, AllOf, uses, spares, IsWell, Went, AllSlots, is_named, place_of}
use Rattle.og_flight.proofs.Ranks.{placed_is, found_at, found_of, found_named, removed_is}
use Rattle.og_flight.proofs.Slots.{IsOne, all_get, all_take, all_drop, all_append, messages_append, messages_take, messages_drop, messages_get, messages_length, rank_same, Agree, messages_agree, all_agree, agree_set, agree_more, slice_get_set_same, slice_get_end, uses_insert, uses_remove, spares_push}

spare_none : (n : ℕ) (free : List ℕ) → ((s : ℕ) → n ≤ s → spares s free ≡ 0) → AllSlots n free
spare_none n [] h = tt
spare_none n (t ∷ ts) h = (here (nat_lt t n) refl (h t), spare_none n ts (λ s le. tail s (nat_eq t s) (h s le)))
  where
    tail : (s : ℕ) (w : Bool) → cond w (suc (spares s ts)) (spares s ts) ≡ 0 → spares s ts ≡ 0
    tail s true e = absurd (omega arith)
    tail s false e = e

    here : (w : Bool) → nat_lt t n ≡ w → (n ≤ t → cond (nat_eq t t) (suc (spares t ts)) (spares t ts) ≡ 0) → t < n
    here true e k = grind (arith, nat_tests)
    here false e k =
        let le : n ≤ t = grind (arith, nat_tests) in
        let same : nat_eq t t ≡ true = grind (arith, nat_tests) in
        let z : suc (spares t ts) ≡ 0 = sym (ap (λ (w : Bool). cond w (suc (spares t ts)) (spares t ts)) same) ∙ k le in absurd (omega arith)

pub all_slots : {K : Type 0} → (es : List IndexEntry) (slab : List (Msg K)) (free : List ℕ) (r s f : ℕ) → IsWell es slab free r s f → AllSlots (length slab) free
all_slots {K} es slab free r s f w = spare_none (length slab) free (λ t le. let no : nat_lt t (length slab) ≡ false = grind (arith, nat_tests) in let k : spares t free + uses t es ≡ 0 = w.once t ∙ ap (λ (b : Bool). cond b 1 0) no in omega arith)

pub slot_last : (n : ℕ) (ts : List ℕ) (t : ℕ) → AllSlots n (ts ++ t ∷ []) → t < n
slot_last n [] t h = h.0
slot_last n (x ∷ ts) t h = slot_last n ts t h.1

-- ------------------------------------------------------------------------------ sending

-- after the message went into its slot
pub record Sent {K : Type 0} (es : List IndexEntry) (slab slab' : List (Msg K)) (free free' : List ℕ) (slot room : ℕ) (m : Msg K) : Type 0 where
  pub agree : Agree slab slab' es
  pub there : slice_get slab' slot ≡ Some m
  pub once : (s : ℕ) → spares s free' + (cond (nat_eq slot s) 1 0 + uses s es) ≡ cond (nat_lt s (length slab')) 1 0
  pub total : length free' + (length es + 1) ≡ length slab'
  pub within : length slab' ≤ room

length_set : {X : Type 0} → (xs : List X) (k : ℕ) (x : X) → length (slice_set xs k x) ≡ length xs
length_set xs k x = grind (arith, common_steps)

pub sent_is : {K : Type 0} → (es : List IndexEntry) (slab slab' : List (Msg K)) (free free' : List ℕ) (r s f slot : ℕ) (m : Msg K) → IsWell es slab free r s f → length es < r → Went slab slab' free free' slot m → Sent es slab slab' free free' slot r m
sent_is {K} es slab slab' free free' r s f slot m w lt (inl k) =
    let yes : nat_lt slot (length slab) ≡ true = let l : slot < length slab = k.2 in grind (arith, nat_tests) in
    let same : nat_eq slot slot ≡ true = grind (arith, nat_tests) in
    let total : spares slot free + uses slot es ≡ 1 = w.once slot ∙ ap (λ (b : Bool). cond b 1 0) yes in
    let one : spares slot free ≡ spares slot free' + 1 = (ap (λ (zs : List ℕ). spares slot zs) k.0 ∙ spares_push slot free' slot) ∙ ap (λ (b : Bool). spares slot free' + cond b 1 0) same in
    let size : length slab' ≡ length slab = ap (λ (zs : List (Msg K)). length zs) k.1 ∙ length_set slab slot m in
    let sum : length free + length es ≡ length slab = w.total in
    let le : length slab ≤ r = w.within in
    let less : length free ≡ length free' + 1 = ap (λ (zs : List ℕ). length zs) k.0 ∙ length-append free' (slot ∷ []) in
    record {
      agree = subst (λ (zs : List (Msg K)). Agree slab zs es) (sym k.1) (agree_set slab slot m es (omega arith));
      there = ap (λ (zs : List (Msg K)). slice_get zs slot) k.1 ∙ slice_get_set_same slab slot m k.2;
      once = λ t. let o : spares t free + uses t es ≡ cond (nat_lt t (length slab)) 1 0 = w.once t in
          let p : spares t free ≡ spares t free' + cond (nat_eq slot t) 1 0 = ap (λ (zs : List ℕ). spares t zs) k.0 ∙ spares_push t free' slot in
          let q : spares t free' + (cond (nat_eq slot t) 1 0 + uses t es) ≡ spares t free + uses t es = moved (spares t free) (spares t free') (cond (nat_eq slot t) 1 0) (uses t es) p in
          q ∙ (o ∙ ap (λ (n : ℕ). cond (nat_lt t n) 1 0) (sym size));
      total = omega arith;
      within = omega arith;
    }
  where
    moved : (a b c d : ℕ) → a ≡ b + c → b + (c + d) ≡ a + d
    moved a b c d e = omega arith
sent_is {K} es slab slab' free free' r s f slot m w lt (inr k) =
    let none : length free ≡ 0 = ap (λ (zs : List ℕ). length zs) k.0 in
    let none' : length free' ≡ 0 = ap (λ (zs : List ℕ). length zs) k.1 in
    let sum : length free + length es ≡ length slab = w.total in
    let size : length slab' ≡ length slab + 1 = ap (λ (zs : List (Msg K)). length zs) k.3 ∙ length-append slab (m ∷ []) in
    record {
      agree = subst (λ (zs : List (Msg K)). Agree slab zs es) (sym k.3) (agree_more slab m es w.all_of);
      there = ap₂ (λ (zs : List (Msg K)) (n : ℕ). slice_get zs n) k.3 k.2 ∙ slice_get_end slab m;
      once = λ t. let o : uses t es ≡ cond (nat_lt t (length slab)) 1 0 = zero_first (spares t free) (uses t es) (cond (nat_lt t (length slab)) 1 0) (ap (λ (zs : List ℕ). spares t zs) k.0) (w.once t) in
          let p : spares t free' ≡ 0 = ap (λ (zs : List ℕ). spares t zs) k.1 in
          grown t (length slab) slot (length slab') (uses t es) (spares t free') k.2 size p o;
      total = omega arith;
      within = omega arith;
    }
  where
    zero_first : (a b c : ℕ) → a ≡ 0 → a + b ≡ c → b ≡ c
    zero_first a b c e f = omega arith

    cases : (t n : ℕ) (x y z : Bool) → nat_eq n t ≡ x → nat_lt t n ≡ y → nat_lt t (n + 1) ≡ z → cond x 1 0 + cond y 1 0 ≡ cond z 1 0
    cases t n true true z e f g = absurd (grind (arith, nat_tests))
    cases t n true false true e f g = omega arith
    cases t n true false false e f g = absurd (grind (arith, nat_tests))
    cases t n false true true e f g = omega arith
    cases t n false true false e f g = absurd (grind (arith, nat_tests))
    cases t n false false true e f g = absurd (grind (arith, nat_tests))
    cases t n false false false e f g = omega arith

    grown : (t n slot n' u p : ℕ) → slot ≡ n → n' ≡ n + 1 → p ≡ 0 → u ≡ cond (nat_lt t n) 1 0 → p + (cond (nat_eq slot t) 1 0 + u) ≡ cond (nat_lt t n') 1 0
    grown t n slot n' u p a b c d =
        let e : cond {A = ℕ} (nat_eq slot t) 1 0 ≡ cond {A = ℕ} (nat_eq n t) 1 0 = ap (λ (z : ℕ). cond {A = ℕ} (nat_eq z t) 1 0) a in
        let f : cond {A = ℕ} (nat_lt t n') 1 0 ≡ cond {A = ℕ} (nat_lt t (n + 1)) 1 0 = ap (λ (z : ℕ). cond {A = ℕ} (nat_lt t z) 1 0) b in
        let g : cond (nat_eq n t) 1 0 + cond (nat_lt t n) 1 0 ≡ cond (nat_lt t (n + 1)) 1 0 = cases t n (nat_eq n t) (nat_lt t n) (nat_lt t (n + 1)) refl refl refl in omega arith

abbrev pub entry_of : {K : Type 0} → ℕ → Msg K → IndexEntry
entry_of slot m = record { slot = slot; to = m.to; sender = m.id.sender; seq = m.id.seq }

pub sent_messages : {K : Type 0} → (es es' : List IndexEntry) (slab slab' : List (Msg K)) (free free' : List ℕ) (r s f slot at : ℕ) (m : Msg K) → IsWell es slab free r s f → Sent es slab slab' free free' slot r m →
    at ≡ rank_of m.to m.id.sender m.id.seq es → es' ≡ take at es ++ entry_of slot m ∷ drop at es → messages_of slab' es' ≡ placed m (messages_of slab es)
sent_messages {K} es es' slab slab' free free' r s f slot at m w x rank_is new =
    let ms : List (Msg K) = messages_of slab es in
    let all : AllOf slab' es = all_agree slab slab' es x.agree w.all_of in
    let same : messages_of slab' es ≡ messages_of slab es = messages_agree slab slab' es x.agree in
    let front : messages_of slab' (take at es) ≡ take at (messages_of slab es) = messages_take slab' es at all ∙ ap (λ (zs : List (Msg K)). take at zs) same in
    let back : messages_of slab' (drop at es) ≡ drop at (messages_of slab es) = messages_drop slab' es at all ∙ ap (λ (zs : List (Msg K)). drop at zs) same in
    let tail : messages_of slab' (entry_of slot m ∷ drop at es) ≡ m ∷ drop at (messages_of slab es) = ap₂ (λ (o : Option (Msg K)) (zs : List (Msg K)). with_some o zs) x.there back in
    let place : rank m.to m.id.sender m.id.seq (messages_of slab es) ≡ at = rank_same m.to m.id.sender m.id.seq slab es w.all_of ∙ sym rank_is in
    ap (λ (zs : List IndexEntry). messages_of slab' zs) new ∙ (messages_append slab' (take at es) (entry_of slot m ∷ drop at es) ∙ (ap₂ (λ (xs ys : List (Msg K)). xs ++ ys) front tail ∙
    (ap (λ (n : ℕ). take n (messages_of slab es) ++ m ∷ drop n (messages_of slab es)) (sym place) ∙ sym (placed_is m (messages_of slab es)))))

pub sent_well : {K : Type 0} → (es es' : List IndexEntry) (slab slab' : List (Msg K)) (free free' : List ℕ) (r s f slot at : ℕ) (m : Msg K) → IsWell es slab free r s f → Sent es slab slab' free free' slot r m →
    at ≡ rank_of m.to m.id.sender m.id.seq es → es' ≡ take at es ++ entry_of slot m ∷ drop at es → find m.id (messages_of slab es) ≡ None → length es' ≡ length es + 1 → IsWell es' slab' free' r s f
sent_well {K} es es' slab slab' free free' r s f slot at m w x rank_is new none size =
    let all : AllOf slab' es = all_agree slab slab' es x.agree w.all_of in
    let view : messages_of slab' es' ≡ placed m (messages_of slab es) = sent_messages es es' slab slab' free free' r s f slot at m w x rank_is new in
    let sum : length free' + (length es + 1) ≡ length slab' = x.total in
    record {
      all_of = subst (λ (zs : List IndexEntry). AllOf slab' zs) (sym new) (all_append slab' (take at es) (entry_of slot m ∷ drop at es) (all_take slab' es at all) ((m, x.there, refl, refl, refl), all_drop slab' es at all));
      in_place = subst (λ (zs : List (Msg K)). InPlace zs) (sym view) (in_place_insert m (messages_of slab es) w.in_place none);
      distinct = subst (λ (zs : List (Msg K)). Distinct zs) (sym view) (distinct_insert m (messages_of slab es) w.distinct none);
      once = λ t. ap (λ (zs : List IndexEntry). spares t free' + uses t zs) new ∙ (ap (λ (n : ℕ). spares t free' + n) (uses_insert t es at (entry_of slot m)) ∙ x.once t);
      total = omega arith;
      within = x.within;
      slots_is = w.slots_is;
      frees_is = w.frees_is;
      small = w.small;
    }

-- ------------------------------------------------------------------------------ looking

pub record Stands {K : Type 0} (es : List IndexEntry) (slab : List (Msg K)) (a : ℕ) (i : MsgId) (k : ℕ) : Type 0 where
  pub entry : IndexEntry
  pub message : Msg K
  pub at : slice_get es k ≡ Some entry
  pub kept : slice_get slab entry.slot ≡ Some message
  pub stands : slice_get (messages_of slab es) k ≡ Some message
  pub found : find i (messages_of slab es) ≡ Some message
  pub found_for : found_for a i (messages_of slab es) ≡ Some message

pub stands : {K : Type 0} → (es : List IndexEntry) (slab : List (Msg K)) (free : List ℕ) (r s f : ℕ) (a : ℕ) (i : MsgId) (k : ℕ) → IsWell es slab free r s f → place_of a i es ≡ Some k → Stands es slab a i k
stands {K} es slab free r s f a i k w is = go (is_named a i (slice_get es (rank_of a i.sender i.seq es))) refl is
  where
    named : (e : IndexEntry) → slice_get es k ≡ Some e → is_named a i (Some e) ≡ true → Stands es slab a i k
    named e at is =
        let one : IsOne slab e = all_get slab es k e w.all_of at in
        let m : Msg K = one.0 in
        let whole : slice_get (messages_of slab es) k ≡ Some m = messages_get slab es k e w.all_of at ∙ one.1 in
        let a' : m.to ≡ a = let x : m.to ≡ e.to = one.2 in let y : e.to ≡ a = grind (arith, nat_tests) in x ∙ y in
        let b' : m.id.sender ≡ i.sender = let x : m.id.sender ≡ e.sender = one.3 in let y : e.sender ≡ i.sender = grind (arith, nat_tests) in x ∙ y in
        let c' : m.id.seq ≡ i.seq = let x : m.id.seq ≡ e.seq = one.4 in let y : e.seq ≡ i.seq = grind (arith, nat_tests) in x ∙ y in
        let id : m.id ≡ i = ap₂ (λ (x y : ℕ). record { sender = x; seq = y }) b' c' in
        let found : find i (messages_of slab es) ≡ Some m = subst (λ (j : MsgId). find j (messages_of slab es) ≡ Some m) id (found_of (messages_of slab es) k m w.distinct whole) in
        let mine : nat_eq m.to a ≡ true = grind (arith, nat_tests) in
        record { entry = e; message = m; at = at; kept = one.1; stands = whole; found = found; found_for = ap (λ (o : Option (Msg K)). for_actor a o) found ∙ ap (λ (b : Bool). cond b (Some m) None) mine }

    open_it : (o : Option IndexEntry) → slice_get es k ≡ o → is_named a i o ≡ true → Stands es slab a i k
    open_it None at is = absurd (cc)
    open_it (Some e) at is = named e at is

    go : (b : Bool) → is_named a i (slice_get es (rank_of a i.sender i.seq es)) ≡ b → cond b (Some (rank_of a i.sender i.seq es)) None ≡ Some k → Stands es slab a i k
    go false e is = absurd (cc)
    go true e is = let same : rank_of a i.sender i.seq es ≡ k = cc in open_it (slice_get es k) refl (subst (λ (n : ℕ). is_named a i (slice_get es n) ≡ true) same e)

pub missing : {K : Type 0} → (es : List IndexEntry) (slab : List (Msg K)) (free : List ℕ) (r s f : ℕ) (a : ℕ) (i : MsgId) → IsWell es slab free r s f → place_of a i es ≡ None → found_for a i (messages_of slab es) ≡ None
missing {K} es slab free r s f a i w is = go (find i (messages_of slab es)) refl
  where
    there : (m : Msg K) → find i (messages_of slab es) ≡ Some m → m.to ≡ a → ⊥
    there m found to =
        let k : ℕ = rank_of a i.sender i.seq es in
        let place : rank m.to i.sender i.seq (messages_of slab es) ≡ rank_of a i.sender i.seq es = ap (λ (b : ℕ). rank b i.sender i.seq (messages_of slab es)) to ∙ rank_same a i.sender i.seq slab es w.all_of in
        let whole : slice_get (messages_of slab es) k ≡ Some m = ap (λ (n : ℕ). slice_get (messages_of slab es) n) (sym place) ∙ found_at i (messages_of slab es) m w.in_place found in
        let lt : k < length (messages_of slab es) = slice_get_below (messages_of slab es) k m whole in
        let size : length (messages_of slab es) ≡ length es = messages_length slab es w.all_of in
        let e : (e : IndexEntry) × (slice_get es k ≡ Some e) = slice_get_some es k (omega arith) in
        let one : IsOne slab e.0 = all_get slab es k e.0 w.all_of e.1 in
        let both : Some one.0 ≡ Some m = sym one.1 ∙ (sym (messages_get slab es k e.0 w.all_of e.1) ∙ whole) in
        let same : one.0 ≡ m = cc in
        let id : i ≡ m.id = found_named i (messages_of slab es) m found in
        let a' : e.0.to ≡ a = sym one.2 ∙ (ap (λ (z : Msg K). z.to) same ∙ to) in
        let b' : e.0.sender ≡ i.sender = sym one.3 ∙ (ap (λ (z : Msg K). z.id.sender) same ∙ ap (λ (j : MsgId). j.sender) (sym id)) in
        let c' : e.0.seq ≡ i.seq = sym one.4 ∙ (ap (λ (z : Msg K). z.id.seq) same ∙ ap (λ (j : MsgId). j.seq) (sym id)) in
        let yes : is_named a i (Some e.0) ≡ true = yes_named e.0 a' b' c' in
        let named : is_named a i (slice_get es k) ≡ true = ap (λ (o : Option IndexEntry). is_named a i o) e.1 ∙ yes in
        let clash : Some k ≡ None = sym (ap (λ (b : Bool). cond b (Some k) None) named) ∙ is in absurd (cc)
      where
        yes_named : (e : IndexEntry) → e.to ≡ a → e.sender ≡ i.sender → e.seq ≡ i.seq → is_named a i (Some e) ≡ true
        yes_named e p q r = grind (arith, nat_tests)

    mine : (m : Msg K) → find i (messages_of slab es) ≡ Some m → (b : Bool) → nat_eq m.to a ≡ b → cond b (Some m) None ≡ None
    mine m found true e = let to : m.to ≡ a = grind (arith, nat_tests) in absurd (there m found to)
    mine m found false e = refl

    go : (o : Option (Msg K)) → find i (messages_of slab es) ≡ o → for_actor a (find i (messages_of slab es)) ≡ None
    go None e = ap (λ (o : Option (Msg K)). for_actor a o) e
    go (Some m) e = ap (λ (o : Option (Msg K)). for_actor a o) e ∙ mine m e (nat_eq m.to a) refl

-- ------------------------------------------------------------------------------ taking

pub taken_messages : {K : Type 0} → (es es' : List IndexEntry) (slab : List (Msg K)) (free : List ℕ) (r s f k : ℕ) (m : Msg K) → IsWell es slab free r s f → slice_get (messages_of slab es) k ≡ Some m → es' ≡ take k es ++ drop (suc k) es →
    messages_of slab es' ≡ without m.id (messages_of slab es)
taken_messages {K} es es' slab free r s f k m w at new =
    ap (λ (zs : List IndexEntry). messages_of slab zs) new ∙ (messages_append slab (take k es) (drop (suc k) es) ∙ (ap₂ (λ (xs ys : List (Msg K)). xs ++ ys) (messages_take slab es k w.all_of) (messages_drop slab es (suc k) w.all_of) ∙ removed_is (messages_of slab es) k m w.distinct at))

pub taken_well : {K : Type 0} → (es es' : List IndexEntry) (slab : List (Msg K)) (free free' : List ℕ) (r s f k : ℕ) (e : IndexEntry) (m : Msg K) → IsWell es slab free r s f → slice_get es k ≡ Some e → slice_get (messages_of slab es) k ≡ Some m →
    es' ≡ take k es ++ drop (suc k) es → free' ≡ free ++ e.slot ∷ [] → length es' + 1 ≡ length es → IsWell es' slab free' r s f
taken_well {K} es es' slab free free' r s f k e m w at stands new more size =
    let view : messages_of slab es' ≡ without m.id (messages_of slab es) = taken_messages es es' slab free r s f k m w stands new in
    let sum : length free + length es ≡ length slab = w.total in
    let one : length free' ≡ length free + 1 = ap (λ (zs : List ℕ). length zs) more ∙ length-append free (e.slot ∷ []) in
    record {
      all_of = subst (λ (zs : List IndexEntry). AllOf slab zs) (sym new) (all_append slab (take k es) (drop (suc k) es) (all_take slab es k w.all_of) (all_drop slab es (suc k) w.all_of));
      in_place = subst (λ (zs : List (Msg K)). InPlace zs) (sym view) (in_place_without m.id (messages_of slab es) w.in_place);
      distinct = subst (λ (zs : List (Msg K)). Distinct zs) (sym view) (distinct_without m.id (messages_of slab es) w.distinct);
      once = λ t. let a : spares t free' ≡ spares t free + cond (nat_eq e.slot t) 1 0 = ap (λ (zs : List ℕ). spares t zs) more ∙ spares_push t free e.slot in
          let b : cond (nat_eq e.slot t) 1 0 + uses t es' ≡ uses t es = ap (λ (zs : List IndexEntry). cond (nat_eq e.slot t) 1 0 + uses t zs) new ∙ uses_remove t es k e at in
          moved (spares t free') (spares t free) (cond (nat_eq e.slot t) 1 0) (uses t es') (uses t es) a b ∙ w.once t;
      total = omega arith;
      within = w.within;
      slots_is = w.slots_is;
      frees_is = w.frees_is;
      small = w.small;
    }
  where
    moved : (a b c d e : ℕ) → a ≡ b + c → c + d ≡ e → a + d ≡ b + e
    moved a b c d e p q = omega arith

-- ------------------------------------------------------------------------------ picking

pub record Picked {K : Type 0} (es : List IndexEntry) (slab : List (Msg K)) (k : ℕ) : Type 0 where
  pub entry : IndexEntry
  pub message : Msg K
  pub at : slice_get es k ≡ Some entry
  pub kept : slice_get slab entry.slot ≡ Some message
  pub stands : slice_get (messages_of slab es) k ≡ Some message
  pub to : message.to ≡ entry.to
  pub id : message.id ≡ record { sender = entry.sender; seq = entry.seq }

pub picked : {K : Type 0} → (es : List IndexEntry) (slab : List (Msg K)) (k : ℕ) → AllOf slab es → k < length (messages_of slab es) → Picked es slab k
picked {K} es slab k all lt =
    let size : length (messages_of slab es) ≡ length es = messages_length slab es all in
    let e : (e : IndexEntry) × (slice_get es k ≡ Some e) = slice_get_some es k (omega arith) in
    let one : IsOne slab e.0 = all_get slab es k e.0 all e.1 in
    record { entry = e.0; message = one.0; at = e.1; kept = one.1; stands = messages_get slab es k e.0 all e.1 ∙ one.1; to = one.2; id = ap₂ (λ s n. record { sender = s; seq = n }) one.3 one.4 }
