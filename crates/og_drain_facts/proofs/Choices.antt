-- Which choice the drain makes: a message that is in flight, or the mover's act.
use Rattle.std.proofs.Common.{◌≡◌, ◌∙◌, ℕ, zero, suc, ◌+◌, ◌⊎◌, inl, inr, Bool, true, false, not, cond, arith, refl, sym, ap, subst, Option, None, Some, List, [], ◌∷◌, slice_get}
use Rattle.std.specs.List.{filter}
use Rattle.og_runs.specs.declared.Choice.{Choice}
use Rattle.og_runs.specs.declared.Choice.TheVariants.{Act, Take}
use Rattle.og_runs.specs.declared.MsgId.{MsgId}
use Rattle.og_runs.specs.declared.Msg.{Msg}
use Rattle.og_runs.specs.declared.Seat.{Seat}
use Rattle.og_runs.specs.Runs.{same_id}
use Rattle.og_runs.specs.World.{find, Distinct}
use Rattle.og_runs.proofs.Placed.{same_id_equal, same_self}
use Rattle.og_msg.specs.declared.Kind.{Kind}
use Rattle.og_flight.specs.Flight.{first_sent, sooner_of, sent_before}
use Rattle.og_mover.specs.Table.{MoverState, has_act}
use Rattle.og_machine.specs.Machine.{Setup, ActorState, Node, Mover, Machine, or_else, mover_may}
use Rattle.og_machine.specs.Choices.{act_by, is_poison_read, take_it, first_answer, mover_act_by, mover_choice, drain_of}

-- ---- a message of a list

-- the message is one of these
abbrev pub IsIn : Msg Kind → List (Msg Kind) → Type 0
IsIn m [] = ⊥
IsIn m (x ∷ xs) = (x ≡ m) ⊎ IsIn m xs

-- it is found by its id
pub found_in : (m : Msg Kind) (ms : List (Msg Kind)) → Distinct ms → IsIn m ms → find m.id ms ≡ Some m
found_in m [] d i = absurd i
found_in m (x ∷ xs) d (inl e) = subst (λ (y : Msg Kind). find y.id (x ∷ xs) ≡ Some y) e (ap (λ (t : Bool). cond t (Some x) (find x.id xs)) (same_self x.id))
found_in m (x ∷ xs) d (inr i) = by (found_in m xs d.1 i) (same_id m.id x.id) refl
  where
    by : find m.id xs ≡ Some m → (t : Bool) → same_id m.id x.id ≡ t → cond t (Some x) (find m.id xs) ≡ Some m
    by rest true e = absurd (let none : find m.id xs ≡ None = subst (λ (i : MsgId). find i xs ≡ None) (sym (same_id_equal m.id x.id e)) d.0 in cc)
    by rest false e = rest

pub is_in_found : (i : MsgId) (m : Msg Kind) (ms : List (Msg Kind)) → find i ms ≡ Some m → IsIn m ms
is_in_found i m [] e = absurd (cc)
is_in_found i m (x ∷ xs) e = by (λ f. is_in_found i m xs f) (same_id i x.id) e
  where
    by : (find i xs ≡ Some m → IsIn m xs) → (t : Bool) → cond t (Some x) (find i xs) ≡ Some m → (x ≡ m) ⊎ IsIn m xs
    by rest true f = inl (cc)
    by rest false f = inr (rest f)

-- what was sent first is one of the messages
sooner_in : (x m : Msg Kind) (o : Option (Msg Kind)) (xs : List (Msg Kind)) → ((y : Msg Kind) → o ≡ Some y → IsIn y xs) → sooner_of x o ≡ Some m → (x ≡ m) ⊎ IsIn m xs
sooner_in x m None xs h e = inl (cc)
sooner_in x m (Some y) xs h e = by (sent_before x y) e
  where
    by : (t : Bool) → cond t (Some x) (Some y) ≡ Some m → (x ≡ m) ⊎ IsIn m xs
    by true f = inl (cc)
    by false f = inr (h m f)

pub first_in : (m : Msg Kind) (ms : List (Msg Kind)) → first_sent ms ≡ Some m → IsIn m ms
first_in m [] e = absurd (cc)
first_in m (x ∷ xs) e = sooner_in x m (first_sent xs) xs (λ y f. first_in y xs f) e

sooner_some : (x : Msg Kind) (o : Option (Msg Kind)) → sooner_of x o ≡ None → ⊥
sooner_some x None e = absurd (cc)
sooner_some x (Some y) e = by (sent_before x y) e
  where
    by : (t : Bool) → cond t (Some x) (Some y) ≡ None → ⊥
    by true f = absurd (cc)
    by false f = absurd (cc)

pub first_none : (ms : List (Msg Kind)) → first_sent ms ≡ None → ms ≡ []
first_none [] e = refl
first_none (x ∷ xs) e = absurd (sooner_some x (first_sent xs) e)

-- what is left by a filter is one of the list, and passes
pub in_filter : (p : Msg Kind → Bool) (m : Msg Kind) (ms : List (Msg Kind)) → IsIn m (filter p ms) → IsIn m ms × (p m ≡ true)
in_filter p m [] i = absurd i
in_filter p m (x ∷ xs) i = by (λ j. in_filter p m xs j) (p x) refl i
  where
    by : (IsIn m (filter p xs) → IsIn m xs × (p m ≡ true)) → (t : Bool) → p x ≡ t → IsIn m (cond t (x ∷ filter p xs) (filter p xs)) → ((x ≡ m) ⊎ IsIn m xs) × (p m ≡ true)
    by rest true e (inl same) = (inl same, subst (λ (y : Msg Kind). p y ≡ true) same e)
    by rest true e (inr j) = (let r = rest j in (inr r.0, r.1))
    by rest false e j = (let r = rest j in (inr r.0, r.1))

pub nothing_passes : (p : Msg Kind → Bool) (m : Msg Kind) (ms : List (Msg Kind)) → filter p ms ≡ [] → IsIn m ms → p m ≡ false
nothing_passes p m [] e i = absurd i
nothing_passes p m (x ∷ xs) e i = by (λ f j. nothing_passes p m xs f j) (p x) refl e i
  where
    by : (filter p xs ≡ [] → IsIn m xs → p m ≡ false) → (t : Bool) → p x ≡ t → cond t (x ∷ filter p xs) (filter p xs) ≡ [] → (x ≡ m) ⊎ IsIn m xs → p m ≡ false
    by rest true f g j = absurd (cc)
    by rest false f g (inl same) = subst (λ (y : Msg Kind). p y ≡ false) same f
    by rest false f g (inr j) = rest g j

-- ---- the mover's act

act_same : (k : ℕ) (c : Choice) → Some (Act k) ≡ Some c → Act k ≡ c
act_same k c e = cc

-- it is an act of the mover, which may be made
pub mover_acts : (setup : Setup) (k : ℕ) (xs : List (Seat ActorState)) (c : Choice) → mover_choice setup k xs ≡ Some c → (a : ℕ) × (x : Seat ActorState) × (m : MoverState) × (slice_get xs a ≡ Some x) × (x.local ≡ Mover m) × (has_act m.job ≡ true) × (c ≡ Act (k + a))
mover_acts setup k [] c e = absurd (cc)
mover_acts setup k (x ∷ xs) c e = by (λ f. mover_acts setup (suc k) xs c f) x.local refl e
  where
    Found : ℕ → List (Seat ActorState) → Type 0
    Found n ys = (a : ℕ) × (y : Seat ActorState) × (m : MoverState) × (slice_get ys a ≡ Some y) × (y.local ≡ Mover m) × (has_act m.job ≡ true) × (c ≡ Act (n + a))

    behind : Found (suc k) xs → Found k (x ∷ xs)
    behind r = let same : suc k + r.0 ≡ k + suc r.0 = omega arith in (suc r.0, r.1, r.2, r.3, r.4, r.5, r.6 ∙ ap (λ (n : ℕ). Act n) same)

    by : (mover_choice setup (suc k) xs ≡ Some c → Found (suc k) xs) → (local : ActorState) → x.local ≡ local → or_else (mover_act_by setup k local) (mover_choice setup (suc k) xs) ≡ Some c → Found k (x ∷ xs)
    by rest (Node n) is f = behind (rest f)
    by rest (Mover m) is f = at (has_act m.job) refl f
      where
        at : (t : Bool) → has_act m.job ≡ t → or_else (slice_get (act_by k (mover_may t)) 0) (mover_choice setup (suc k) xs) ≡ Some c → Found k (x ∷ xs)
        at true may g = (let same : k ≡ k + 0 = omega arith in let two : Act k ≡ c = act_same k c g in (0, x, m, refl, is, may, sym two ∙ ap (λ (n : ℕ). Act n) same))
        at false may g = behind (rest g)

-- where there is none, no mover has an act
pub mover_rests : (setup : Setup) (k : ℕ) (xs : List (Seat ActorState)) → mover_choice setup k xs ≡ None → (a : ℕ) (x : Seat ActorState) (m : MoverState) → slice_get xs a ≡ Some x → x.local ≡ Mover m → has_act m.job ≡ false
mover_rests setup k [] e a x m there is = absurd (cc)
mover_rests setup k (y ∷ ys) e zero x m there is =
    let one : y ≡ x = cc in
    let local : y.local ≡ Mover m = ap (λ (z : Seat ActorState). z.local) one ∙ is in
    at (has_act m.job) refl (subst (λ (z : ActorState). or_else (mover_act_by setup k z) (mover_choice setup (suc k) ys) ≡ None) local e)
  where
    at : (t : Bool) → has_act m.job ≡ t → or_else (slice_get (act_by k (mover_may t)) 0) (mover_choice setup (suc k) ys) ≡ None → has_act m.job ≡ false
    at true may g = absurd (let one : Some (Act k) ≡ None = g in cc)
    at false may g = may
mover_rests setup k (y ∷ ys) e (suc a) x m there is = mover_rests setup (suc k) ys (later (mover_act_by setup k y.local) e) a x m there is
  where
    later : (o : Option Choice) → or_else o (mover_choice setup (suc k) ys) ≡ None → mover_choice setup (suc k) ys ≡ None
    later None f = f
    later (Some c) f = absurd (cc)

-- and the other way round
pub mover_silent : (setup : Setup) (k : ℕ) (xs : List (Seat ActorState)) → ((a : ℕ) (x : Seat ActorState) (m : MoverState) → slice_get xs a ≡ Some x → x.local ≡ Mover m → has_act m.job ≡ false) → mover_choice setup k xs ≡ None
mover_silent setup k [] h = refl
mover_silent setup k (x ∷ xs) h = by (mover_silent setup (suc k) xs (λ a y m there is. h (suc a) y m there is)) x.local refl
  where
    by : mover_choice setup (suc k) xs ≡ None → (local : ActorState) → x.local ≡ local → or_else (mover_act_by setup k local) (mover_choice setup (suc k) xs) ≡ None
    by rest (Node n) is = rest
    by rest (Mover m) is = ap (λ (t : Bool). or_else (slice_get (act_by k (mover_may t)) 0) (mover_choice setup (suc k) xs)) (h 0 x m refl is) ∙ rest

-- ---- the drain's choice

-- a message in flight is taken: the mover's request for a block only where all are such
abbrev pub TakesOne : Machine → Choice → Type 0
TakesOne w c = (m : Msg Kind) × IsIn m w.flight × (c ≡ Take m.to m.id) × (is_poison_read m.kind ≡ true → (n : Msg Kind) → IsIn n w.flight → is_poison_read n.kind ≡ true)

some_take : (o : Option (Msg Kind)) (c : Choice) → take_it o ≡ Some c → (m : Msg Kind) × (o ≡ Some m) × (c ≡ Take m.to m.id)
some_take None c e = absurd (cc)
some_take (Some m) c e = let one : Some (Take m.to m.id) ≡ Some c = e in (m, refl, cc)

no_take : (o : Option (Msg Kind)) → take_it o ≡ None → o ≡ None
no_take None e = refl
no_take (Some m) e = absurd (let one : Some (Take m.to m.id) ≡ None = e in cc)

not_not : (t : Bool) → not t ≡ false → t ≡ true
not_not true e = refl
not_not false e = absurd (cc)

not_false : (t : Bool) → not t ≡ true → t ≡ true → ⊥
not_false true e f = absurd (cc)
not_false false e f = absurd (cc)

pub drained : (setup : Setup) (w : Machine) (c : Choice) → drain_of setup w ≡ Some c → TakesOne w c ⊎ ((w.flight ≡ []) × (mover_choice setup 0 w.seats ≡ Some c))
unfolding drain_of
drained setup w c e = by (first_answer w.flight) refl e
  where
    others : List (Msg Kind)
    others = filter (λ m. not (is_poison_read m.kind)) w.flight

    by_rest : first_answer w.flight ≡ None → (o : Option Choice) → take_it (first_sent w.flight) ≡ o → or_else o (mover_choice setup 0 w.seats) ≡ Some c → TakesOne w c ⊎ ((w.flight ≡ []) × (mover_choice setup 0 w.seats ≡ Some c))
    by_rest none None f g = inr (first_none w.flight (no_take (first_sent w.flight) f), g)
    by_rest none (Some d) f g =
        let same : d ≡ c = cc in
        let t = some_take (first_sent w.flight) c (f ∙ ap (λ (x : Choice). Some x) same) in
        let empty : others ≡ [] = first_none others (no_take (first_sent others) none) in
        inl (t.0, first_in t.0 w.flight t.1, t.2, λ poison n i. not_not (is_poison_read n.kind) (nothing_passes (λ m. not (is_poison_read m.kind)) n w.flight empty i))

    by : (o : Option Choice) → first_answer w.flight ≡ o → or_else o (or_else (take_it (first_sent w.flight)) (mover_choice setup 0 w.seats)) ≡ Some c → TakesOne w c ⊎ ((w.flight ≡ []) × (mover_choice setup 0 w.seats ≡ Some c))
    by None f g = by_rest f (take_it (first_sent w.flight)) refl g
    by (Some d) f g =
        let same : d ≡ c = cc in
        let t = some_take (first_sent others) c (f ∙ ap (λ (x : Choice). Some x) same) in
        let i = in_filter (λ m. not (is_poison_read m.kind)) t.0 w.flight (first_in t.0 others t.1) in
        inl (t.0, i.0, t.2, λ poison n j. absurd (not_false (is_poison_read t.0.kind) i.1 poison))

pub undrained : (setup : Setup) (w : Machine) → drain_of setup w ≡ None → (w.flight ≡ []) × (mover_choice setup 0 w.seats ≡ None)
unfolding drain_of
undrained setup w e = by (first_answer w.flight) e
  where
    by_rest : (o : Option Choice) → take_it (first_sent w.flight) ≡ o → or_else o (mover_choice setup 0 w.seats) ≡ None → (w.flight ≡ []) × (mover_choice setup 0 w.seats ≡ None)
    by_rest None f g = (first_none w.flight (no_take (first_sent w.flight) f), g)
    by_rest (Some d) f g = absurd (cc)

    by : (o : Option Choice) → or_else o (or_else (take_it (first_sent w.flight)) (mover_choice setup 0 w.seats)) ≡ None → (w.flight ≡ []) × (mover_choice setup 0 w.seats ≡ None)
    by None g = by_rest (take_it (first_sent w.flight)) refl g
    by (Some d) g = absurd (cc)

pub nothing_drained : (setup : Setup) (w : Machine) → w.flight ≡ [] → mover_choice setup 0 w.seats ≡ None → drain_of setup w ≡ None
unfolding drain_of
nothing_drained setup w empty none = ap (λ (ms : List (Msg Kind)). or_else (first_answer ms) (or_else (take_it (first_sent ms)) (mover_choice setup 0 w.seats))) empty ∙ none
