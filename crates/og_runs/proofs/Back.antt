-- What a run keeps, and that its events in another order of rising clocks are a run too.
use Rattle.std.proofs.Common.{◌≡◌, ℕ, zero, suc, ◌+◌, ◌<◌, ◌≤◌, Bool, true, false, cond, nat_eq, arith, refl, sym, subst, List, [], ◌∷◌, ◌++◌, length, slice_get, Option, None, Some, ap, ap₂}
use Rattle.std.proofs.Math.Path.{◌∙◌}
use Rattle.std.proofs.lemmas.Bool.Decides.{nat_tests}
use Rattle.og_runs.specs.declared.MsgId.{MsgId}
use Rattle.og_runs.specs.declared.Choice.{Choice}
use Rattle.og_runs.specs.declared.Choice.TheVariants.{Act, Take}
use Rattle.og_runs.specs.declared.Letter.{Letter}
use Rattle.og_runs.specs.declared.Msg.{Msg}
use Rattle.og_runs.specs.declared.Event.{Event}
use Rattle.og_runs.specs.Runs.{Rules, History, Histories, posted, history_after, move_of, clock_after, choice_of, Local, own_events, ClocksRise, EachTaken, has_id, same_id, sent_as, unless_taken, in_flight, step_with, step_taking, step, put, Run, choices, IsNumbered, IsSound}
use Rattle.og_runs.proofs.Locals.{MoveMade, move_made, test_false, same_id_comm}
use Rattle.og_runs.proofs.Forward.{merged}

-- the message of a take
abbrev pub IsTakeable : {A K : Type 0} → Histories A K → ℕ → Option (Msg K) → Type 0
IsTakeable s a None = Unit {0}
IsTakeable s a (Some m) = (sent_as s m.id ≡ Some m) × (has_id m.id (s m.to).taken ≡ false) × (m.to ≡ a)

-- a step, opened
pub record Stepped {A K N : Type 0} (r : Rules A K N) (s : Histories A K) (c : Choice) (u : Histories A K) (e : Event N) : Type 0 where
  pub actor : ℕ
  pub history : History A K
  pub move : Option (Msg K)
  pub makes : move_of r actor (s actor) move ≡ Some (history, e)
  pub state : put s actor history ≡ u
  pub choice : choice_of actor move ≡ c
  pub flies : IsTakeable s actor move

step_with_is : {A K N : Type 0} → (s u : Histories A K) (a : ℕ) (e : Event N) (x : Option (History A K × Event N)) → step_with s a x ≡ Some (u, e) → (p : History A K) × (x ≡ Some (p, e)) × (put s a p ≡ u)
step_with_is s u a e None h = absurd (cc)
step_with_is {A} {K} {N} s u a e (Some y) h =
    let k : Some (put s a y.0, y.1) ≡ Some (u, e) = h in
    let j : (put s a y.0, y.1) ≡ (u, e) = cc in
    let f : y.1 ≡ e = ap (λ (x : Histories A K × Event N). x.1) j in
    let pair : Event N → Option (History A K × Event N) = λ z. Some (y.0, z) in
    (y.0, ap pair f, ap (λ (x : Histories A K × Event N). x.0) j)

pub unless_taken_is : {A K : Type 0} → (s : Histories A K) (i : MsgId) (x : Option (Msg K)) (m : Msg K) → unless_taken s i x ≡ Some m → (x ≡ Some m) × (has_id i (s m.to).taken ≡ false)
unless_taken_is s i None m h = absurd (cc)
unless_taken_is {A} {K} s i (Some y) m h = at (has_id i (s y.to).taken) refl h
  where
    at : (w : Bool) → has_id i (s y.to).taken ≡ w → cond w None (Some y) ≡ Some m → (Some y ≡ Some m) × (has_id i (s m.to).taken ≡ false)
    at true is h = absurd (cc)
    at false is h = let same : y ≡ m = cc in (h, subst (λ (z : Msg K). has_id i (s z.to).taken ≡ false) same is)

pub stepped : {A K N : Type 0} → (r : Rules A K N) (s : Histories A K) (c : Choice) (u : Histories A K) (e : Event N) → ((a : ℕ) → IsNumbered a (s a)) → step r s c ≡ Some (u, e) → Stepped r s c u e
stepped {A} {K} {N} r s (Act a) u e own h =
    let l : (p : History A K) × (move_of r a (s a) None ≡ Some (p, e)) × (put s a p ≡ u) = step_with_is s u a e (move_of r a (s a) None) h in
    record { actor = a; history = l.0; move = None; makes = l.1; state = l.2; choice = refl; flies = tt }
stepped {A} {K} {N} r s (Take a i) u e own h = go (in_flight s i) refl h
  where
    go : (x : Option (Msg K)) → in_flight s i ≡ x → step_taking r s a x ≡ Some (u, e) → Stepped r s (Take a i) u e
    go None is h = absurd (cc)
    go (Some m) is h = at (nat_eq m.to a) refl h
      where
        at : (w : Bool) → nat_eq m.to a ≡ w → cond w (step_with s a (move_of r a (s a) (Some m))) None ≡ Some (u, e) → Stepped r s (Take a i) u e
        at false to h = absurd (cc)
        at true to h =
            let l : (p : History A K) × (move_of r a (s a) (Some m) ≡ Some (p, e)) × (put s a p ≡ u) = step_with_is s u a e (move_of r a (s a) (Some m)) h in
            let f : (sent_as s i ≡ Some m) × (has_id i (s m.to).taken ≡ false) = unless_taken_is s i (sent_as s i) m is in
            let o : (m.id ≡ record { sender = i.sender; seq = i.seq }) × (m.stamp.actor ≡ i.sender) × (m.stamp.clock ≤ (s i.sender).clock) = own i.sender i.seq m f.0 in
            let id : i ≡ m.id = sym o.0 in
            record { actor = a; history = l.0; move = Some m; makes = l.1; state = l.2; choice = ap (λ (z : MsgId). Take a z) o.0; flies = (subst (λ (z : MsgId). sent_as s z ≡ Some m) id f.0, subst (λ (z : MsgId). has_id z (s m.to).taken ≡ false) id f.1, grind (arith, nat_tests)) }

-- ------------------------------------------------------------------------------ what a step keeps

pub slice_get_append_left : {X : Type 0} → (xs ys : List X) (k : ℕ) (x : X) → slice_get xs k ≡ Some x → slice_get (xs ++ ys) k ≡ Some x
slice_get_append_left [] ys k x e = absurd (cc)
slice_get_append_left (y ∷ xs) ys zero x e = e
slice_get_append_left (y ∷ xs) ys (suc k) x e = slice_get_append_left xs ys k x e

-- a sent message stays
abbrev pub SentStays : {A K : Type 0} → Histories A K → Histories A K → Type 0
SentStays {A} {K} s u = (i : MsgId) (m : Msg K) → sent_as s i ≡ Some m → sent_as u i ≡ Some m

pub sent_stays_put : {A K : Type 0} → (s : Histories A K) (a : ℕ) (p : History A K) (ys : List (Msg K)) → p.sent ≡ (s a).sent ++ ys → SentStays s (put s a p)
sent_stays_put {A} {K} s a p ys is i m e = at (nat_eq a i.sender) refl
  where
    at : (w : Bool) → nat_eq a i.sender ≡ w → slice_get (cond w p (s i.sender)).sent i.seq ≡ Some m
    at true t = let same : i.sender ≡ a = grind (arith, nat_tests) in
        let there : slice_get (s a).sent i.seq ≡ Some m = subst (λ (b : ℕ). slice_get (s b).sent i.seq ≡ Some m) same e in
        rw is (slice_get_append_left (s a).sent ys i.seq m there)
    at false t = e

numbered_posted : {K : Type 0} → (a c k : ℕ) (ls : List (Letter K)) (j : ℕ) (m : Msg K) → slice_get (posted a c k ls) j ≡ Some m → (m.id ≡ record { sender = a; seq = k + j }) × (m.stamp.actor ≡ a) × (m.stamp.clock ≤ c)
numbered_posted a c k [] j m e = absurd (cc)
numbered_posted {K} a c k (l ∷ ls) zero m e =
    let k0 : k + 0 ≡ k = omega arith in
    let h : Some (record { id = record { sender = a; seq = k }; to = l.to; stamp = record { clock = c; actor = a }; kind = l.kind }) ≡ Some m = e in
    let same : record { id = record { sender = a; seq = k }; to = l.to; stamp = record { clock = c; actor = a }; kind = l.kind } ≡ m = cc in
    (rw k0 (ap (λ (z : Msg K). z.id) (sym same)), ap (λ (z : Msg K). z.stamp.actor) (sym same), let t : m.stamp.clock ≡ c = ap (λ (z : Msg K). z.stamp.clock) (sym same) in omega arith)
numbered_posted a c k (l ∷ ls) (suc j) m e = let k1 : k + suc j ≡ suc k + j = omega arith in rw k1 (numbered_posted a c (suc k) ls j m e)

numbered_append : {K : Type 0} → (a c d n : ℕ) (ls : List (Letter K)) (xs : List (Msg K)) (k : ℕ) (m : Msg K) → d ≤ c →
    ((j : ℕ) (m : Msg K) → slice_get xs j ≡ Some m → (m.id ≡ record { sender = a; seq = n + j }) × (m.stamp.actor ≡ a) × (m.stamp.clock ≤ d)) →
    slice_get (xs ++ posted a c (n + length xs) ls) k ≡ Some m → (m.id ≡ record { sender = a; seq = n + k }) × (m.stamp.actor ≡ a) × (m.stamp.clock ≤ c)
numbered_append {K} a c d n ls [] k m le h e = let n0 : n + 0 ≡ n = omega arith in numbered_posted a c n ls k m (subst (λ (z : ℕ). slice_get (posted a c z ls) k ≡ Some m) n0 e)
numbered_append {K} a c d n ls (x ∷ xs) zero m le h e = let r : (m.id ≡ record { sender = a; seq = n + 0 }) × (m.stamp.actor ≡ a) × (m.stamp.clock ≤ d) = h 0 m e in (r.0, r.1, omega (arith, r.2))
numbered_append {K} a c d n ls (x ∷ xs) (suc k) m le h e =
    let n1 : n + suc (length xs) ≡ suc n + length xs = omega arith in
    let nk : suc n + k ≡ n + suc k = omega arith in
    let r : (m.id ≡ record { sender = a; seq = suc n + k }) × (m.stamp.actor ≡ a) × (m.stamp.clock ≤ c) =
    numbered_append a c d (suc n) ls xs k m le (λ j y f. let nj : suc n + j ≡ n + suc j = omega arith in rw nj (h (suc j) y f)) (subst (λ (z : ℕ). slice_get (xs ++ posted a c z ls) k ≡ Some m) n1 e) in
    rw nk at r

pub clock_grows : {K : Type 0} → (c : ℕ) (v : Option (Msg K)) → c < clock_after c v
clock_grows c None = omega arith
clock_grows c (Some m) = omega arith

numbered_after : {A K N : Type 0} → (r : Rules A K N) (a : ℕ) (p : History A K) (v : Option (Msg K)) (u : History A K) (e : Event N) → MoveMade r a p v u e → IsNumbered a p → IsNumbered a u
numbered_after {A} {K} {N} r a p v u e x own = subst (λ (z : History A K). IsNumbered a z) x.2 here
  where
    here : IsNumbered a (history_after a p v x.0)
    here k m is =
        let z : 0 + length p.sent ≡ length p.sent = omega arith in
        let zk : 0 + k ≡ k = omega arith in
        let less : p.clock < clock_after p.clock v = clock_grows p.clock v in
        let r : (m.id ≡ record { sender = a; seq = 0 + k }) × (m.stamp.actor ≡ a) × (m.stamp.clock ≤ clock_after p.clock v) =
        numbered_append a (clock_after p.clock v) p.clock 0 x.0.letters p.sent k m (omega arith) (λ j y f. let zj : 0 + j ≡ j = omega arith in rw zj (own j y f)) (rw z is) in
        rw zk at r

pub each_taken_stays : {A K : Type 0} → (s u : Histories A K) (a : ℕ) → SentStays s u → (ms : List (Msg K)) → EachTaken s a ms → EachTaken u a ms
each_taken_stays s u a g [] h = tt
each_taken_stays s u a g (m ∷ ms) h = (g m.id m h.0, h.1, h.2, each_taken_stays s u a g ms h.3)

pub has_id_push : {K : Type 0} → (i : MsgId) (ms : List (Msg K)) (m : Msg K) → has_id i ms ≡ false → same_id i m.id ≡ false → has_id i (ms ++ m ∷ []) ≡ false
has_id_push i [] m h ne = rw ne refl
has_id_push i (x ∷ ms) m h ne = let t : (same_id i x.id ≡ false) × (has_id i ms ≡ false) = test_false (same_id i x.id) (has_id i ms) h in let r : has_id i (ms ++ m ∷ []) ≡ false = has_id_push i ms m t.1 ne in let f : same_id i x.id ≡ false = t.0 in rw (f, r) refl

each_taken_push : {A K : Type 0} → (s : Histories A K) (a : ℕ) (ms : List (Msg K)) (m : Msg K) → EachTaken s a ms → sent_as s m.id ≡ Some m → m.to ≡ a → has_id m.id ms ≡ false → EachTaken s a (ms ++ m ∷ [])
each_taken_push s a [] m h is to new = (is, to, refl, tt)
each_taken_push s a (x ∷ ms) m h is to new =
    let t : (same_id m.id x.id ≡ false) × (has_id m.id ms ≡ false) = test_false (same_id m.id x.id) (has_id m.id ms) new in
    let f : same_id x.id m.id ≡ false = rw same_id_comm at t.0 in
    (h.0, h.1, has_id_push x.id ms m h.2 f, each_taken_push s a ms m h.3 is to t.1)

-- the taken list after a move
each_taken_after : {A K N : Type 0} → (r : Rules A K N) (s u : Histories A K) (a : ℕ) (v : Option (Msg K)) (p : History A K) (e : Event N) → MoveMade r a (s a) v p e → SentStays s u → IsTakeable s a v → EachTaken s a (s a).taken → EachTaken u a p.taken
each_taken_after {A} {K} {N} r s u a None p e x g f h = subst (λ (z : History A K). EachTaken u a z.taken) x.2 (each_taken_stays s u a g (s a).taken h)
each_taken_after {A} {K} {N} r s u a (Some m) p e x g f h =
    subst (λ (z : History A K). EachTaken u a z.taken) x.2 (each_taken_push u a (s a).taken m (each_taken_stays s u a g (s a).taken h) (g m.id m f.0) f.2 (subst (λ (b : ℕ). has_id m.id (s b).taken ≡ false) f.2 f.1))

pub sent_after : {A K N : Type 0} → (r : Rules A K N) (a : ℕ) (p : History A K) (v : Option (Msg K)) (u : History A K) (e : Event N) → MoveMade r a p v u e → (ys : List (Msg K)) × (u.sent ≡ p.sent ++ ys)
sent_after {A} {K} {N} r a p v u e x = (posted a (clock_after p.clock v) (length p.sent) x.0.letters, ap (λ (z : History A K). z.sent) (sym x.2))

pub sound_put : {A K N : Type 0} → (r : Rules A K N) (s : Histories A K) (a : ℕ) (v : Option (Msg K)) (p : History A K) (e : Event N) → MoveMade r a (s a) v p e → IsTakeable s a v → IsSound s → IsSound (put s a p)
sound_put {A} {K} {N} r s a v p e x f sound = record { own = λ b. own b (nat_eq a b) refl; consistent = λ b. each b (nat_eq a b) refl }
  where
    own : (b : ℕ) (w : Bool) → nat_eq a b ≡ w → IsNumbered b (cond w p (s b))
    own b true t = let same : a ≡ b = grind (arith, nat_tests) in subst (λ (z : ℕ). IsNumbered z p) same (numbered_after r a (s a) v p e x (sound.own a))
    own b false t = sound.own b

    g : SentStays s (put s a p)
    g = let y : (ys : List (Msg K)) × (p.sent ≡ (s a).sent ++ ys) = sent_after r a (s a) v p e x in sent_stays_put s a p y.0 y.1

    each : (b : ℕ) (w : Bool) → nat_eq a b ≡ w → EachTaken (put s a p) b (cond w p (s b)).taken
    each b true t = let same : a ≡ b = grind (arith, nat_tests) in subst (λ (z : ℕ). EachTaken (put s a p) z p.taken) same (each_taken_after r s (put s a p) a v p e x g f (sound.consistent a))
    each b false t = each_taken_stays s (put s a p) b g (s b).taken (sound.consistent b)

pub sound_step : {A K N : Type 0} → (r : Rules A K N) (s : Histories A K) (c : Choice) (u : Histories A K) (e : Event N) → IsSound s → step r s c ≡ Some (u, e) → IsSound u
sound_step {A} {K} {N} r s c u e sound h =
    let x : Stepped r s c u e = stepped r s c u e sound.own h in
    subst (λ (z : Histories A K). IsSound z) x.state (sound_put r s x.actor x.move x.history e (move_made r x.actor (s x.actor) x.move x.history e x.makes) x.flies sound)

pub sound_run : {A K N : Type 0} → (r : Rules A K N) (cs : List Choice) (s t : Histories A K) (es : List (Event N)) → IsSound s → Run r s cs t es → IsSound t
sound_run {A} {K} r [] s t es sound h = subst (λ (z : Histories A K). IsSound z) h.0 sound
sound_run r (c ∷ cs) s t es sound h = sound_run r cs h.0 t h.2 (sound_step r s c h.0 h.1 sound h.3) h.5

-- ------------------------------------------------------------------------------ a run's events are logs

pub event_actor : {A K N : Type 0} → (r : Rules A K N) (a : ℕ) (p : History A K) (v : Option (Msg K)) (u : History A K) (e : Event N) → MoveMade r a p v u e → e.stamp.actor ≡ a
event_actor {A} {K} {N} r a p v u e x = ap (λ (z : Event N). z.stamp.actor) (sym x.3)

-- each actor's events of a run are a log of it
pub locals : {A K N : Type 0} → (r : Rules A K N) (cs : List Choice) (s t : Histories A K) (es : List (Event N)) → IsSound s → Run r s cs t es → (b : ℕ) → Local r b (s b) (own_events b es) (t b)
locals {A} {K} {N} r [] s t es sound h b = rw h.1 (ap (λ (z : Histories A K). z b) h.0)
locals {A} {K} {N} r (c ∷ cs) s t es sound h b =
    let x : Stepped r s c h.0 h.1 = stepped r s c h.0 h.1 sound.own h.3 in
    let who : x.actor ≡ h.1.stamp.actor = sym (event_actor r x.actor (s x.actor) x.move x.history h.1 (move_made r x.actor (s x.actor) x.move x.history h.1 x.makes)) in
    let rest : Local r b (h.0 b) (own_events b h.2) (t b) = locals r cs h.0 t h.2 (sound_step r s c h.0 h.1 sound h.3) h.5 b in
    let put_rest : Local r b (put s x.actor x.history b) (own_events b h.2) (t b) = subst (λ (z : Histories A K). Local r b (z b) (own_events b h.2) (t b)) (sym x.state) rest in
    let done : Local r b (s b) (cond (nat_eq x.actor b) (h.1 ∷ own_events b h.2) (own_events b h.2)) (t b) = at x (nat_eq x.actor b) refl put_rest in
    rw h.4 (subst (λ (z : ℕ). Local r b (s b) (cond (nat_eq z b) (h.1 ∷ own_events b h.2) (own_events b h.2)) (t b)) who done)
  where
    at : (x : Stepped r s c h.0 h.1) (w : Bool) → nat_eq x.actor b ≡ w → Local r b (cond w x.history (s b)) (own_events b h.2) (t b) → Local r b (s b) (cond w (h.1 ∷ own_events b h.2) (own_events b h.2)) (t b)
    at x true e k = let same : x.actor ≡ b = grind (arith, nat_tests) in (x.history, x.move, subst (λ (z : ℕ). move_of r z (s z) x.move ≡ Some (x.history, h.1)) same x.makes, k)
    at x false e k = k

-- the events name the choices
pub same_choices : {A K N : Type 0} → (r : Rules A K N) (cs : List Choice) (s t : Histories A K) (es : List (Event N)) → IsSound s → Run r s cs t es → choices es ≡ cs
same_choices r [] s t es sound h = rw h.1 refl
same_choices {A} {K} {N} r (c ∷ cs) s t es sound h =
    let x : Stepped r s c h.0 h.1 = stepped r s c h.0 h.1 sound.own h.3 in
    let m : MoveMade r x.actor (s x.actor) x.move x.history h.1 = move_made r x.actor (s x.actor) x.move x.history h.1 x.makes in
    let one : choice_of {K = K} x.actor x.move ≡ h.1.choice = ap (λ (z : Event N). z.choice) m.3 in
    let first : h.1.choice ≡ c = sym one ∙ x.choice in
    let rest : choices h.2 ≡ cs = same_choices r cs h.0 t h.2 (sound_step r s c h.0 h.1 sound h.3) h.5 in
    rw h.4 (ap₂ (λ (y : Choice) (ys : List Choice). y ∷ ys) first rest)

-- the events of a run, in any order in which clocks rise and each actor's events stand as they were, are those of a run to the same histories
pub resorted : {A K N : Type 0} → (r : Rules A K N) (cs : List Choice) (s t : Histories A K) (es fs : List (Event N)) (c : ℕ) → IsSound s → Run r s cs t es →
    ((a : ℕ) → own_events a fs ≡ own_events a es) → ClocksRise c fs → Run r s (choices fs) t fs
resorted {A} {K} {N} r cs s t es fs c sound h same up =
    merged r s t c fs (λ a. rw (same a) (locals r cs s t es sound h a)) (sound_run r cs s t es sound h).consistent up
