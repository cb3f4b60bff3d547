-- Logs that are local and consistent, in an order in which clocks rise, are a run.
use Rattle.std.proofs.Common.{◌≡◌, ℕ, Bool, true, false, cond, nat_eq, arith, refl, sym, subst, List, [], ◌∷◌, ◌++◌, Option, None, Some, append_assoc, ap}
use Rattle.std.proofs.lemmas.Bool.Decides.{nat_tests}
use Rattle.og_runs.specs.declared.Choice.{Choice}
use Rattle.og_runs.specs.declared.Msg.{Msg}
use Rattle.og_runs.specs.declared.Event.{Event}
use Rattle.og_runs.specs.Runs.{Rules, History, Histories, move_of, clock_after, choice_of, Local, own_events, ClocksRise, EachTaken, Consistent, has_id, sent_as, in_flight, step, put, Run, choices}
use Rattle.og_runs.proofs.Locals.{MoveMade, move_made, own_events_rise, sent_before, taken_more, each_taken_at}

eq_self : (a : ℕ) → nat_eq a a ≡ true
eq_self a = grind (arith, nat_tests)

-- the first event is the next of its actor's log
first_is_next : {A K N : Type 0} → (r : Rules A K N) (s t : Histories A K) (e : Event N) (es : List (Event N)) → ((a : ℕ) → Local r a (s a) (own_events a (e ∷ es)) (t a)) →
    Local r e.stamp.actor (s e.stamp.actor) (e ∷ own_events e.stamp.actor es) (t e.stamp.actor)
first_is_next {A} {K} {N} r s t e es h = subst (λ (w : Bool). Local r e.stamp.actor (s e.stamp.actor) (cond w (e ∷ own_events e.stamp.actor es) (own_events e.stamp.actor es)) (t e.stamp.actor)) (eq_self e.stamp.actor) (h e.stamp.actor)

-- the logs after the first event
logs_after : {A K N : Type 0} → (r : Rules A K N) (s t : Histories A K) (e : Event N) (es : List (Event N)) (a : ℕ) (u : History A K) → e.stamp.actor ≡ a → Local r a u (own_events a es) (t a) → ((b : ℕ) → Local r b (s b) (own_events b (e ∷ es)) (t b)) →
    (b : ℕ) → Local r b (put s a u b) (own_events b es) (t b)
logs_after {A} {K} {N} r s t e es a u is l h b = at (nat_eq a b) refl (subst (λ (x : ℕ). Local r b (s b) (cond (nat_eq x b) (e ∷ own_events b es) (own_events b es)) (t b)) is (h b))
  where
    at : (w : Bool) → nat_eq a b ≡ w → Local r b (s b) (cond w (e ∷ own_events b es) (own_events b es)) (t b) → Local r b (cond w u (s b)) (own_events b es) (t b)
    at true same k = let eq : a ≡ b = grind (arith, nat_tests) in subst (λ (x : ℕ). Local r x u (own_events x es) (t x)) eq l
    at false same k = k

-- the message that the next event takes is in flight
take_in_flight : {A K N : Type 0} → (r : Rules A K N) (s t : Histories A K) (e : Event N) (es : List (Event N)) (c : ℕ) (a : ℕ) (u : History A K) (m : Msg K) →
    ((b : ℕ) → Local r b (s b) (own_events b (e ∷ es)) (t b)) → Consistent t → ClocksRise c (e ∷ es) →
    MoveMade r a (s a) (Some m) u e → Local r a u (own_events a es) (t a) → (in_flight s m.id ≡ Some m) × (m.to ≡ a)
take_in_flight {A} {K} {N} r s t e es c a u m h all up x l =
    let more : (ts : List (Msg K)) × ((t a).taken ≡ u.taken ++ ts) = taken_more r a u (own_events a es) (t a) l in
    let took : u.taken ≡ (s a).taken ++ m ∷ [] = ap (λ (z : History A K). z.taken) (sym x.2) in
    let both : (t a).taken ≡ ((s a).taken ++ m ∷ []) ++ more.0 = subst (λ (z : List (Msg K)). (t a).taken ≡ z ++ more.0) took more.1 in
    let list : (t a).taken ≡ (s a).taken ++ m ∷ more.0 = rw append_assoc at both in
    let y : (sent_as t m.id ≡ Some m) × (m.to ≡ a) × (has_id m.id (s a).taken ≡ false) = each_taken_at t a (s a).taken m more.0 (subst (λ (z : List (Msg K)). EachTaken t a z) list (all a)) in
    let clock : clock_after (s a).clock (Some m) ≡ e.stamp.clock = ap (λ (z : Event N). z.stamp.clock) x.3 in
    let rising : ClocksRise e.stamp.clock (e ∷ es) = (omega arith, up.1) in
    let there : sent_as s m.id ≡ Some m = sent_before r m.id.sender (s m.id.sender) (own_events m.id.sender (e ∷ es)) (t m.id.sender) e.stamp.clock m.id.seq m (h m.id.sender) (own_events_rise m.id.sender e.stamp.clock (e ∷ es) rising) y.0 (omega (arith, clock)) in
    let free : has_id m.id (s m.to).taken ≡ false = rw y.1 y.2 in
    (rw (there, free) refl, y.1)

-- the next event is a step
steps : {A K N : Type 0} → (r : Rules A K N) (s : Histories A K) (e : Event N) (a : ℕ) (u : History A K) (v : Option (Msg K)) → move_of r a (s a) v ≡ Some (u, e) → MoveMade r a (s a) v u e → ((m : Msg K) → v ≡ Some m → (in_flight s m.id ≡ Some m) × (m.to ≡ a)) →
    step r s e.choice ≡ Some (put s a u, e)
steps {A} {K} {N} r s e a u None is x k =
    let choice : choice_of {K = K} a None ≡ e.choice = ap (λ (z : Event N). z.choice) x.3 in
    subst (λ (z : Choice). step r s z ≡ Some (put s a u, e)) choice (rw is refl)
steps {A} {K} {N} r s e a u (Some m) is x k =
    let choice : choice_of a (Some m) ≡ e.choice = ap (λ (z : Event N). z.choice) x.3 in
    let f : (in_flight s m.id ≡ Some m) × (m.to ≡ a) = k m refl in
    let same : nat_eq m.to a ≡ true = grind (arith, nat_tests) in
    subst (λ (z : Choice). step r s z ≡ Some (put s a u, e)) choice (rw (f.0, same, is) refl)

pub merged : {A K N : Type 0} → (r : Rules A K N) (s t : Histories A K) (c : ℕ) (es : List (Event N)) →
    ((a : ℕ) → Local r a (s a) (own_events a es) (t a)) → Consistent t → ClocksRise c es → Run r s (choices es) t es
merged r s t c [] h all up = (λ i a. h a i, refl)
merged {A} {K} {N} r s t c (e ∷ es) h all up =
    let a : ℕ = e.stamp.actor in
    let f : Local r a (s a) (e ∷ own_events a es) (t a) = first_is_next r s t e es h in
    let x : MoveMade r a (s a) f.1 f.0 e = move_made r a (s a) f.1 f.0 e f.2 in
    let is : step r s e.choice ≡ Some (put s a f.0, e) = steps r s e a f.0 f.1 f.2 x (λ m v. take_in_flight r s t e es c a f.0 m h all up (subst (λ (z : Option (Msg K)). MoveMade r a (s a) z f.0 e) v x) f.3) in
    (put s a f.0, e, es, is, refl, merged r (put s a f.0) t e.stamp.clock es (logs_after r s t e es a f.0 refl f.3 h) all up.1)
