-- What a log says of its actor's lists.
use Rattle.std.proofs.Common.{◌≡◌, ℕ, zero, suc, ◌<◌, ◌≤◌, Bool, true, false, cond, nat_eq, arith, refl, sym, List, [], ◌∷◌, ◌++◌, length, slice_get, Option, None, Some, append_assoc, ap}
use Rattle.std.proofs.lemmas.Bool.Decides.{nat_tests}
use Rattle.std.proofs.lemmas.List.{append-nil}
use Rattle.og_runs.specs.declared.MsgId.{MsgId}
use Rattle.og_runs.specs.declared.Letter.{Letter}
use Rattle.og_runs.specs.declared.Msg.{Msg}
use Rattle.og_runs.specs.declared.Event.{Event}
use Rattle.og_runs.specs.Runs.{Outcome, Rules, History, Histories, posted, outcome_of, history_after, event_of, move_of, move_with, clock_after, Local, own_events, ClocksRise, EachTaken, has_id, same_id, sent_as}

-- a move that is made, opened
abbrev pub MoveMade : {A K N : Type 0} → Rules A K N → ℕ → History A K → Option (Msg K) → History A K → Event N → Type 0
MoveMade {A} {K} {N} r a p v u e = (o : Outcome A K N) × (outcome_of r a p.local v ≡ Some o) × (history_after a p v o ≡ u) × (event_of a p.clock v o ≡ e)

pub move_made : {A K N : Type 0} → (r : Rules A K N) (a : ℕ) (p : History A K) (v : Option (Msg K)) (u : History A K) (e : Event N) → move_of r a p v ≡ Some (u, e) → MoveMade r a p v u e
move_made {A} {K} {N} r a p v u e m = go (outcome_of r a p.local v) refl m
  where
    go : (x : Option (Outcome A K N)) → outcome_of r a p.local v ≡ x → move_with a p v x ≡ Some (u, e) → MoveMade r a p v u e
    go None is h = absurd (cc)
    go (Some o) is h = let k : Some (history_after a p v o, event_of a p.clock v o) ≡ Some (u, e) = h in let j : (history_after a p v o, event_of a p.clock v o) ≡ (u, e) = cc in (o, is, ap (λ (x : History A K × Event N). x.0) j, ap (λ (x : History A K × Event N). x.1) j)

-- the posted messages have the clock of their event
pub posted_clock : {K : Type 0} → (a c k : ℕ) (ls : List (Letter K)) (i : ℕ) (m : Msg K) → slice_get (posted a c k ls) i ≡ Some m → m.stamp.clock ≡ c
posted_clock a c k [] i m e = absurd (cc)
posted_clock a c k (l ∷ ls) zero m e = grind arith
posted_clock a c k (l ∷ ls) (suc i) m e = posted_clock a c (suc k) ls i m e

earlier : {K : Type 0} → (a c k : ℕ) (ls : List (Letter K)) (xs : List (Msg K)) (i : ℕ) (m : Msg K) → slice_get (xs ++ posted a c k ls) i ≡ Some m → m.stamp.clock < c → slice_get xs i ≡ Some m
earlier a c k ls [] i m e lt = let same : m.stamp.clock ≡ c = posted_clock a c k ls i m e in absurd (omega arith)
earlier a c k ls (x ∷ xs) zero m e lt = e
earlier a c k ls (x ∷ xs) (suc i) m e lt = earlier a c k ls xs i m e lt

pub rising_from : {N : Type 0} → (b c : ℕ) (es : List (Event N)) → b ≤ c → ClocksRise c es → ClocksRise b es
rising_from b c [] le h = tt
rising_from b c (e ∷ es) le h = (omega (arith, h.0), h.1)

pub own_events_rise : {N : Type 0} → (a c : ℕ) (es : List (Event N)) → ClocksRise c es → ClocksRise c (own_events a es)
own_events_rise a c [] h = tt
own_events_rise {N} a c (e ∷ es) h = at (nat_eq e.stamp.actor a) (own_events_rise a e.stamp.clock es h.1)
  where
    at : (w : Bool) → ClocksRise e.stamp.clock (own_events a es) → ClocksRise c (cond w (e ∷ own_events a es) (own_events a es))
    at true k = (h.0, k)
    at false k = rising_from c e.stamp.clock (own_events a es) h.0 k

-- what is sent with a clock below those of a log was sent before it
pub sent_before : {A K N : Type 0} → (r : Rules A K N) (a : ℕ) (p : History A K) (es : List (Event N)) (q : History A K) (c i : ℕ) (m : Msg K) →
    Local r a p es q → ClocksRise c es → slice_get q.sent i ≡ Some m → m.stamp.clock < c → slice_get p.sent i ≡ Some m
sent_before r a p [] q c i m l up is lt = let same : p ≡ q = l in cc
sent_before {A} {K} {N} r a p (e ∷ es) q c i m l up is lt =
    let later : ClocksRise c es = rising_from c e.stamp.clock es up.0 up.1 in
    let next : slice_get l.0.sent i ≡ Some m = sent_before r a l.0 es q c i m l.3 later is lt in
    let x : MoveMade r a p l.1 l.0 e = move_made r a p l.1 l.0 e l.2 in
    let sent : l.0.sent ≡ p.sent ++ posted a (clock_after p.clock l.1) (length p.sent) x.0.letters = cc in
    let clock : clock_after p.clock l.1 ≡ e.stamp.clock = ap (λ (z : Event N). z.stamp.clock) x.3 in
    earlier a (clock_after p.clock l.1) (length p.sent) x.0.letters p.sent i m (rw sent at next) (omega (arith, up.0))

-- a log only adds to the taken list
pub taken_more : {A K N : Type 0} → (r : Rules A K N) (a : ℕ) (p : History A K) (es : List (Event N)) (q : History A K) → Local r a p es q → (ts : List (Msg K)) × (q.taken ≡ p.taken ++ ts)
taken_more {A} {K} r a p [] q l = ([], rw append-nil (ap (λ (x : History A K). x.taken) (sym l)))
taken_more {A} {K} {N} r a p (e ∷ es) q l = go l.1 (move_made r a p l.1 l.0 e l.2) (taken_more r a l.0 es q l.3)
  where
    go : (v : Option (Msg K)) → MoveMade r a p v l.0 e → (ts : List (Msg K)) × (q.taken ≡ l.0.taken ++ ts) → (ts : List (Msg K)) × (q.taken ≡ p.taken ++ ts)
    go None x h = let same : l.0.taken ≡ p.taken = cc in (h.0, cc)
    go (Some m) x h = let same : l.0.taken ≡ p.taken ++ m ∷ [] = cc in (m ∷ h.0, let k : q.taken ≡ (p.taken ++ m ∷ []) ++ h.0 = cc in rw append_assoc at k)

pub test_false : (w x : Bool) → cond w true x ≡ false → (w ≡ false) × (x ≡ false)
test_false true x e = absurd (cc)
test_false false x e = (refl, e)

has_id_middle : {K : Type 0} → (xs : List (Msg K)) (m : Msg K) (ys : List (Msg K)) (i : MsgId) → has_id i (xs ++ m ∷ ys) ≡ false → same_id i m.id ≡ false
has_id_middle [] m ys i e = (test_false (same_id i m.id) (has_id i ys) e).0
has_id_middle (x ∷ xs) m ys i e = has_id_middle xs m ys i (test_false (same_id i x.id) (has_id i (xs ++ m ∷ ys)) e).1

pub same_id_comm : (i j : MsgId) → same_id i j ≡ same_id j i
same_id_comm i j = grind (arith, nat_tests)

-- a taken message that stands after xs
pub each_taken_at : {A K : Type 0} → (s : Histories A K) (a : ℕ) (xs : List (Msg K)) (m : Msg K) (ys : List (Msg K)) → EachTaken s a (xs ++ m ∷ ys) → (sent_as s m.id ≡ Some m) × (m.to ≡ a) × (has_id m.id xs ≡ false)
each_taken_at s a [] m ys h = (h.0, h.1, refl)
each_taken_at {A} {K} s a (x ∷ xs) m ys h =
    let r : (sent_as s m.id ≡ Some m) × (m.to ≡ a) × (has_id m.id xs ≡ false) = each_taken_at s a xs m ys h.3 in
    let ne : same_id x.id m.id ≡ false = has_id_middle xs m ys x.id h.2 in
    let ne' : same_id m.id x.id ≡ false = rw same_id_comm at ne in
    let rest : has_id m.id xs ≡ false = r.2 in
    (r.0, r.1, rw (ne', rest) refl)
