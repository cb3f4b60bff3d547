-- Laws of runs.
use Rattle.std.proofs.Common.{◌≡◌, ℕ, ◌<◌, false, nat_eq, arith, ◌≢◌, refl, sym, subst, List, [], ◌∷◌, ◌++◌, Option, Some, ap}
use Rattle.std.proofs.Math.Path.{◌∙◌}
use Rattle.std.proofs.lemmas.Bool.Decides.{nat_tests}
use Rattle.og_runs.specs.declared.MsgId.{MsgId}
use Rattle.og_runs.specs.declared.Choice.{Choice}
use Rattle.og_runs.specs.declared.Msg.{Msg}
use Rattle.og_runs.specs.declared.Event.{Event}
use Rattle.og_runs.specs.Runs.{Rules, History, Histories, move_of, clock_after, Local, sent_as, step, put, Run, IsNumbered, IsSound, start}
use Rattle.og_runs.proofs.Locals.{MoveMade, move_made}
use Rattle.og_runs.proofs.Back.{Stepped, stepped, SentStays, sent_stays_put, sent_after, clock_grows, event_actor}

-- runs follow one another
pub run_append : {A K N : Type 0} → (r : Rules A K N) (cs ds : List Choice) (s t u : Histories A K) (es fs : List (Event N)) → Run r s cs t es → Run r t ds u fs → Run r s (cs ++ ds) u (es ++ fs)
run_append {A} {K} {N} r [] ds s t u es fs h k = rw h.1 (subst (λ (z : Histories A K). Run r z ds u fs) (sym h.0) k)
run_append {A} {K} {N} r (c ∷ cs) ds s t u es fs h k = (h.0, h.1, h.2 ++ fs, h.3, ap (λ (z : List (Event N)). z ++ fs) h.4, run_append r cs ds h.0 t u h.2 fs h.5 k)

pub run_split : {A K N : Type 0} → (r : Rules A K N) (cs ds : List Choice) (s u : Histories A K) (es : List (Event N)) → Run r s (cs ++ ds) u es →
    (t : Histories A K) × (fs : List (Event N)) × (gs : List (Event N)) × Run r s cs t fs × Run r t ds u gs × (es ≡ fs ++ gs)
run_split r [] ds s u es h = (s, [], es, (refl, refl), h, refl)
run_split {A} {K} {N} r (c ∷ cs) ds s u es h =
    let x : (t : Histories A K) × (fs : List (Event N)) × (gs : List (Event N)) × Run r h.0 cs t fs × Run r t ds u gs × (h.2 ≡ fs ++ gs) = run_split r cs ds h.0 u h.2 h.5 in
    (x.0, h.1 ∷ x.1, x.2, (h.0, h.1, x.1, h.3, refl, x.3), x.4, h.4 ∙ ap (λ (z : List (Event N)). h.1 ∷ z) x.5)

-- clocks above c, each above the one before
abbrev pub ClocksRiseStrictly : {N : Type 0} → ℕ → List (Event N) → Type 0
ClocksRiseStrictly c [] = Unit {0}
ClocksRiseStrictly c (e ∷ es) = (c < e.stamp.clock) × ClocksRiseStrictly e.stamp.clock es

-- the events of one actor have strictly rising clocks
pub log_rises : {A K N : Type 0} → (r : Rules A K N) (a : ℕ) (p : History A K) (es : List (Event N)) (q : History A K) → Local r a p es q → ClocksRiseStrictly p.clock es
log_rises r a p [] q l = tt
log_rises {A} {K} {N} r a p (e ∷ es) q l =
    let x : MoveMade r a p l.1 l.0 e = move_made r a p l.1 l.0 e l.2 in
    let clock : clock_after p.clock l.1 ≡ e.stamp.clock = ap (λ (z : Event N). z.stamp.clock) x.3 in
    let same : clock_after p.clock l.1 ≡ l.0.clock = ap (λ (z : History A K). z.clock) x.2 in
    let more : p.clock < clock_after p.clock l.1 = clock_grows p.clock l.1 in
    let rest : ClocksRiseStrictly l.0.clock es = log_rises r a l.0 es q l.3 in
    (omega (arith, clock, more), subst (λ (z : ℕ). ClocksRiseStrictly z es) (sym same ∙ clock) rest)

-- a take's stamp is above the message's, which is the clock of the event that sent it
pub take_later : {A K N : Type 0} → (r : Rules A K N) (a : ℕ) (p : History A K) (m : Msg K) (u : History A K) (e : Event N) → move_of r a p (Some m) ≡ Some (u, e) → m.stamp.clock < e.stamp.clock
take_later {A} {K} {N} r a p m u e h =
    let x : MoveMade r a p (Some m) u e = move_made r a p (Some m) u e h in
    let clock : clock_after p.clock (Some m) ≡ e.stamp.clock = ap (λ (z : Event N). z.stamp.clock) x.3 in omega (arith, clock)

-- an event is of the actor that its choice names, and changes that actor's history only
pub others_stay : {A K N : Type 0} → (r : Rules A K N) (s : Histories A K) (c : Choice) (u : Histories A K) (e : Event N) (b : ℕ) → ((a : ℕ) → IsNumbered a (s a)) → step r s c ≡ Some (u, e) → e.stamp.actor ≢ b → u b ≡ s b
others_stay {A} {K} {N} r s c u e b own h ne =
    let x : Stepped r s c u e = stepped r s c u e own h in
    let who : e.stamp.actor ≡ x.actor = event_actor r x.actor (s x.actor) x.move x.history e (move_made r x.actor (s x.actor) x.move x.history e x.makes) in
    let other : nat_eq x.actor b ≡ false = grind (arith, nat_tests) in
    let is : put s x.actor x.history b ≡ u b = ap (λ (z : Histories A K). z b) x.state in
    let there : put s x.actor x.history b ≡ s b = rw other refl in
    sym is ∙ there

-- a message that was sent stays in the sent list of its sender: its number is never given again
pub sent_stays_step : {A K N : Type 0} → (r : Rules A K N) (s : Histories A K) (c : Choice) (u : Histories A K) (e : Event N) → ((a : ℕ) → IsNumbered a (s a)) → step r s c ≡ Some (u, e) → SentStays s u
sent_stays_step {A} {K} {N} r s c u e own h =
    let x : Stepped r s c u e = stepped r s c u e own h in
    let y : (ys : List (Msg K)) × (x.history.sent ≡ (s x.actor).sent ++ ys) = sent_after r x.actor (s x.actor) x.move x.history e (move_made r x.actor (s x.actor) x.move x.history e x.makes) in
    subst (λ (z : Histories A K). SentStays s z) x.state (sent_stays_put s x.actor x.history y.0 y.1)

-- in flight a message is known by its id
pub one_id : {A K : Type 0} → (s : Histories A K) (i j : MsgId) (m : Msg K) → ((a : ℕ) → IsNumbered a (s a)) → sent_as s i ≡ Some m → sent_as s j ≡ Some m → i ≡ j
one_id s i j m own e f = sym (own i.sender i.seq m e).0 ∙ (own j.sender j.seq m f).0

-- the start
pub start_sound : {A K : Type 0} → (f : ℕ → A) → IsSound (start {K = K} f)
start_sound {A} {K} f = record { own = λ a k m e. absurd (cc); consistent = λ a. tt }

-- one move more at the end of a log
pub local_more : {A K N : Type 0} → (r : Rules A K N) (a : ℕ) (p q u : History A K) (es : List (Event N)) (v : Option (Msg K)) (e : Event N) → Local r a p es q → move_of r a q v ≡ Some (u, e) → Local r a p (es ++ e ∷ []) u
local_more {A} {K} {N} r a p q u [] v e l m = (u, v, subst (λ (z : History A K). move_of r a z v ≡ Some (u, e)) (sym l) m, refl)
local_more r a p q u (d ∷ es) v e l m = (l.0, l.1, l.2, local_more r a l.0 q u es v e l.3 m)
