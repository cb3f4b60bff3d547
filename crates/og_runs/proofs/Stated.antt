-- The laws as they are promised, of worlds from a start.
use Rattle.std.proofs.Common.{◌≡◌, ℕ, zero, suc, ◌+◌, ◌<◌, ◌≤◌, Bool, cond, arith, inl, refl, sym, subst, List, [], ◌∷◌, ◌++◌, length, slice_get, slice_index_or, Option, None, Some, ap}
use Rattle.std.proofs.Math.Path.{◌∙◌}
use Rattle.std.specs.List.{All}
use Rattle.og_runs.specs.declared.MsgId.{MsgId}
use Rattle.og_runs.specs.declared.Choice.{Choice}
use Rattle.og_runs.specs.declared.Choice.TheVariants.{Act, Take}
use Rattle.og_runs.specs.declared.Msg.{Msg}
use Rattle.og_runs.specs.declared.Event.{Event}
use Rattle.og_runs.specs.declared.Seat.{Seat}
use Rattle.og_runs.specs.Runs.{Rules, Histories, own_events, start, Strict, IsSound, Run, step, sent_as, in_flight, put, posted, clock_after, choice_of}
use Rattle.og_runs.specs.World.{World, find, world_step, WorldRun, Distinct, Shows, InPlace}
use Rattle.og_runs.specs.Laws.{IsStart, RunsFrom, NamesStay, ClocksWithin}
use Rattle.og_runs.proofs.Locals.{MoveMade, move_made}
use Rattle.og_runs.proofs.Back.{IsTakeable, Stepped, stepped, SentStays, sound_step, unless_taken_is, locals}
use Rattle.og_runs.proofs.RunLaws.{ClocksRiseStrictly, log_rises, sent_stays_step, start_sound}
use Rattle.og_runs.proofs.Shown.{ShownStep, shown_step, ShownRun, shown_run, in_flight_after, find_posted_none, slice_get_below, slice_get_some, taken_stays, is_of}
use Rattle.og_runs.proofs.Placed.{or_else, same_self}
use Rattle.og_runs.proofs.Young.{ClocksBelow, clock_after_below, clocks_below_step, clocks_below_world}

pub start_shows : {A K : Type 0} → (f : ℕ → A) (w : World A K) → IsStart f w → Shows w (start {K = K} f)
start_shows {A} {K} f w h = record {
  seat = λ a x e. sym (h.seat a x e);
  flight = λ i. ap (λ (ms : List (Msg K)). find i ms) h.flight;
  distinct = subst (λ (ms : List (Msg K)). Distinct ms) (sym h.flight) tt;
  in_place = subst (λ (ms : List (Msg K)). InPlace ms) (sym h.flight) tt;
}

-- a run from a start, with the histories that its end shows
pub shown_from : {A K N : Type 0} → (r : Rules A K N) (f : ℕ → A) (w : World A K) (cs : List Choice) (u : World A K) (es : List (Event N)) → RunsFrom r f w cs u es → ShownRun r w (start f) cs u es
shown_from r f w cs u es h = shown_run r cs w (start f) u es (start_shows f w h.start) (start_sound f) h.run

-- ------------------------------------------------------------------------------ stamps and names

strict_from : {N : Type 0} → (c : ℕ) (es : List (Event N)) → ClocksRiseStrictly c es → Strict es
strict_from c [] h = tt
strict_from c (e ∷ []) h = (tt, tt)
strict_from c (e ∷ d ∷ es) h = (inl h.1.0, strict_from e.stamp.clock (d ∷ es) h.1)

pub stamps_rise : {A K N : Type 0} → (r : Rules A K N) (f : ℕ → A) (w : World A K) (cs : List Choice) (u : World A K) (es : List (Event N)) → RunsFrom r f w cs u es → (a : ℕ) → Strict (own_events a es)
stamps_rise {A} {K} {N} r f w cs u es h a =
    let x : ShownRun r w (start f) cs u es = shown_from r f w cs u es h in
    strict_from 0 (own_events a es) (log_rises r a (start f a) (own_events a es) (x.state a) (locals r cs (start f) x.state es (start_sound f) x.runs a))

-- a run only adds to the sent lists
sent_stays_run : {A K N : Type 0} → (r : Rules A K N) (cs : List Choice) (s t : Histories A K) (es : List (Event N)) → IsSound s → Run r s cs t es → SentStays s t
sent_stays_run {A} {K} r [] s t es sound h i m e = subst (λ (z : Histories A K). sent_as z i ≡ Some m) h.0 e
sent_stays_run r (c ∷ cs) s t es sound h i m e = sent_stays_run r cs h.0 t h.2 (sound_step r s c h.0 h.1 sound h.3) h.5 i m (sent_stays_step r s c h.0 h.1 sound.own h.3 i m e)

flying_was_sent : {A K : Type 0} → (u : World A K) (s : Histories A K) (i : MsgId) (m : Msg K) → Shows u s → find i u.flight ≡ Some m → sent_as s i ≡ Some m
flying_was_sent u s i m sh e = (unless_taken_is s i (sent_as s i) m (sym (sh.flight i) ∙ e)).0

below_all : (n m : ℕ) → ((k : ℕ) → k < n → k < m) → n ≤ m
below_all zero m h = omega arith
below_all (suc n) m h = let lt : n < m = h n (omega arith) in omega arith

sent_grows : {A K : Type 0} → (s t : Histories A K) (a : ℕ) → SentStays s t → length (s a).sent ≤ length (t a).sent
sent_grows {A} {K} s t a h = below_all (length (s a).sent) (length (t a).sent)
    (λ k lt. let m : (m : Msg K) × (slice_get (s a).sent k ≡ Some m) = slice_get_some (s a).sent k lt in slice_get_below (t a).sent k m.0 (h (record { sender = a; seq = k }) m.0 m.1))

seat_next : {A K : Type 0} → (u : World A K) (s : Histories A K) (a : ℕ) (x : Seat A) → Shows u s → slice_get u.seats a ≡ Some x → x.next ≡ length (s a).sent
seat_next {A} u s a x sh e = ap (λ (z : Seat A). z.next) (sym (sh.seat a x e))

pub names_stay : {A K N : Type 0} → (r : Rules A K N) (f : ℕ → A) (w : World A K) (cs : List Choice) (u : World A K) (es : List (Event N)) (ds : List Choice) (v : World A K) (fs : List (Event N)) →
    RunsFrom r f w cs u es → WorldRun r u ds v fs → NamesStay u v
names_stay {A} {K} {N} r f w cs u es ds v fs h k = record { distinct = x.shows.distinct; same = same; below_next = below_next; next_grows = next_grows }
  where
    x : ShownRun r w (start f) cs u es
    x = shown_from r f w cs u es h

    y : ShownRun r u x.state ds v fs
    y = shown_run r ds u x.state v fs x.shows x.sound k

    stays : SentStays x.state y.state
    stays = sent_stays_run r ds x.state y.state fs x.sound y.runs

    same : (i : MsgId) (m n : Msg K) → find i u.flight ≡ Some m → find i v.flight ≡ Some n → m ≡ n
    same i m n e d =
        let before : sent_as y.state i ≡ Some m = stays i m (flying_was_sent u x.state i m x.shows e) in
        let after : sent_as y.state i ≡ Some n = flying_was_sent v y.state i n y.shows d in
        let both : Some m ≡ Some n = sym before ∙ after in cc

    below_next : (i : MsgId) (m : Msg K) (z : Seat A) → find i u.flight ≡ Some m → slice_get u.seats i.sender ≡ Some z → i.seq < z.next
    below_next i m z e is =
        let lt : i.seq < length (x.state i.sender).sent = slice_get_below (x.state i.sender).sent i.seq m (flying_was_sent u x.state i m x.shows e) in
        let next : z.next ≡ length (x.state i.sender).sent = seat_next u x.state i.sender z x.shows is in omega arith

    next_grows : (a : ℕ) (z y' : Seat A) → slice_get u.seats a ≡ Some z → slice_get v.seats a ≡ Some y' → z.next ≤ y'.next
    next_grows a z y' e d =
        let le : length (x.state a).sent ≤ length (y.state a).sent = sent_grows x.state y.state a stays in
        let one : z.next ≡ length (x.state a).sent = seat_next u x.state a z x.shows e in
        let two : y'.next ≡ length (y.state a).sent = seat_next v y.state a y' y.shows d in omega arith

-- ------------------------------------------------------------------------------ taken messages

-- right after its take a message isn't in flight, and it was sent
taken_now : {A K N : Type 0} → (r : Rules A K N) (s : Histories A K) (a : ℕ) (i : MsgId) (t : Histories A K) (e : Event N) → IsSound s → step r s (Take a i) ≡ Some (t, e) →
    (m : Msg K) × (sent_as t i ≡ Some m) × (in_flight t i ≡ None)
taken_now {A} {K} {N} r s a i t e sound h = go x.move x.choice x.flies (move_made r x.actor (s x.actor) x.move x.history e x.makes)
  where
    x : Stepped r s (Take a i) t e
    x = stepped r s (Take a i) t e sound.own h

    go : (v : Option (Msg K)) → choice_of x.actor v ≡ Take a i → IsTakeable s x.actor v → MoveMade r x.actor (s x.actor) v x.history e → (m : Msg K) × (sent_as t i ≡ Some m) × (in_flight t i ≡ None)
    go None choice takeable made = let no : Act x.actor ≡ Take a i = choice in absurd (cc)
    go (Some m) choice takeable made =
        let both : Take x.actor m.id ≡ Take a i = choice in
        let name : m.id ≡ i = cc in
        let was : sent_as s m.id ≡ Some m = takeable.0 in
        let ps : List (Msg K) = posted x.actor (clock_after (s x.actor).clock (Some m)) (length (s x.actor).sent) made.0.letters in
        let after : in_flight (put s x.actor x.history) m.id ≡ or_else (cond (is_of m.id (Some m)) None (in_flight s m.id)) (find m.id ps) =
        in_flight_after r s x.actor (Some m) x.history e made takeable sound m.id in
        let none : find m.id ps ≡ None = find_posted_none x.actor (clock_after (s x.actor).clock (Some m)) (length (s x.actor).sent) made.0.letters m.id
        (λ same. slice_get_below (s x.actor).sent m.id.seq m (subst (λ (b : ℕ). slice_get (s b).sent m.id.seq ≡ Some m) same was)) in
        let gone : in_flight (put s x.actor x.history) m.id ≡ None = after ∙ (ap (λ (w : Bool). or_else (cond w None (in_flight s m.id)) (find m.id ps)) (same_self m.id) ∙ none) in
        let stays : sent_as t m.id ≡ Some m = sent_stays_step r s (Take a i) t e sound.own h m.id m was in
        let there : in_flight t m.id ≡ None = subst (λ (z : Histories A K). in_flight z m.id ≡ None) x.state gone in
        (m, subst (λ (j : MsgId). sent_as t j ≡ Some m) name stays, subst (λ (j : MsgId). in_flight t j ≡ None) name there)

taken_stays_run : {A K N : Type 0} → (r : Rules A K N) (cs : List Choice) (s t : Histories A K) (es : List (Event N)) (i : MsgId) (m : Msg K) → IsSound s → Run r s cs t es → sent_as s i ≡ Some m → in_flight s i ≡ None → in_flight t i ≡ None
taken_stays_run {A} {K} r [] s t es i m sound h sent none = subst (λ (z : Histories A K). in_flight z i ≡ None) h.0 none
taken_stays_run r (c ∷ cs) s t es i m sound h sent none =
    taken_stays_run r cs h.0 t h.2 i m (sound_step r s c h.0 h.1 sound h.3) h.5 (sent_stays_step r s c h.0 h.1 sound.own h.3 i m sent) (taken_stays r s c h.0 h.1 i m sound h.3 sent none)

pub taken_never_flies : {A K N : Type 0} → (r : Rules A K N) (f : ℕ → A) (w : World A K) (cs : List Choice) (u : World A K) (es : List (Event N)) (a : ℕ) (i : MsgId) (v : World A K) (e : Event N) (ds : List Choice) (z : World A K) (fs : List (Event N)) →
    RunsFrom r f w cs u es → world_step r u (Take a i) ≡ Some (v, e) → WorldRun r v ds z fs → find i z.flight ≡ None
taken_never_flies {A} {K} {N} r f w cs u es a i v e ds z fs h is k =
    let x : ShownRun r w (start f) cs u es = shown_from r f w cs u es h in
    let one : ShownStep r u x.state (Take a i) v e = shown_step r u x.state (Take a i) v e x.shows x.sound is in
    let y : ShownRun r v one.state ds z fs = shown_run r ds v one.state z fs one.shows one.sound k in
    let now : (m : Msg K) × (sent_as one.state i ≡ Some m) × (in_flight one.state i ≡ None) = taken_now r x.state a i one.state e x.sound one.steps in
    y.shows.flight i ∙ taken_stays_run r ds one.state y.state fs i now.0 one.sound y.runs now.1 now.2

-- ------------------------------------------------------------------------------ parts of runs

pub world_split : {A K N : Type 0} → (r : Rules A K N) (cs ds : List Choice) (w v : World A K) (es : List (Event N)) → WorldRun r w (cs ++ ds) v es →
    (u : World A K) × (fs : List (Event N)) × (gs : List (Event N)) × WorldRun r w cs u fs × WorldRun r u ds v gs × (es ≡ fs ++ gs)
world_split r [] ds w v es h = (w, [], es, (refl, refl), h, refl)
world_split {A} {K} {N} r (c ∷ cs) ds w v es h =
    let x : (u : World A K) × (fs : List (Event N)) × (gs : List (Event N)) × WorldRun r h.0 cs u fs × WorldRun r u ds v gs × (h.2 ≡ fs ++ gs) = world_split r cs ds h.0 v h.2 h.5 in
    (x.0, h.1 ∷ x.1, x.2, (h.0, h.1, x.1, h.3, refl, x.3), x.4, h.4 ∙ ap (λ (zs : List (Event N)). h.1 ∷ zs) x.5)

count_of_run : {A K N : Type 0} → (r : Rules A K N) (cs : List Choice) (w u : World A K) (es : List (Event N)) → WorldRun r w cs u es → length es ≡ length cs
count_of_run {A} {K} {N} r [] w u es h = ap (λ (zs : List (Event N)). length zs) h.1
count_of_run {A} {K} {N} r (c ∷ cs) w u es h = ap (λ (zs : List (Event N)). length zs) h.4 ∙ ap (λ (n : ℕ). suc n) (count_of_run r cs h.0 u h.2 h.5)

event_clock : {A K N : Type 0} → (r : Rules A K N) (s : Histories A K) (c : Choice) (u : Histories A K) (e : Event N) (b : ℕ) → IsSound s → ClocksBelow b s → step r s c ≡ Some (u, e) → e.stamp.clock ≤ suc b
event_clock {A} {K} {N} r s c u e b sound low h =
    let x : Stepped r s c u e = stepped r s c u e sound.own h in
    let clock : clock_after (s x.actor).clock x.move ≡ e.stamp.clock = ap (λ (z : Event N). z.stamp.clock) (move_made r x.actor (s x.actor) x.move x.history e x.makes).3 in
    let le : clock_after (s x.actor).clock x.move ≤ suc b = clock_after_below b s x.actor x.move sound low x.flies in omega (arith, clock)

events_below : {A K N : Type 0} → (r : Rules A K N) (cs : List Choice) (b : ℕ) (s t : Histories A K) (es : List (Event N)) → IsSound s → ClocksBelow b s → Run r s cs t es → All (λ e. e.stamp.clock ≤ b + length cs) es
events_below {A} {K} {N} r [] b s t es sound low h = subst (λ (zs : List (Event N)). All (λ e. e.stamp.clock ≤ b + 0) zs) (sym h.1) (λ k d lt. absurd (omega arith))
events_below {A} {K} {N} r (c ∷ cs) b s t es sound low h =
    subst (λ (zs : List (Event N)). All (λ e. e.stamp.clock ≤ b + suc (length cs)) zs) (sym h.4)
    (at (events_below r cs (suc b) h.0 t h.2 (sound_step r s c h.0 h.1 sound h.3) (clocks_below_step r b s h.0 c h.1 sound low h.3) h.5))
  where
    at : All (λ e. e.stamp.clock ≤ suc b + length cs) h.2 → (k : ℕ) (d : Event N) → k < length (h.1 ∷ h.2) → (slice_index_or (h.1 ∷ h.2) k d).stamp.clock ≤ b + suc (length cs)
    at later zero d lt = let le : h.1.stamp.clock ≤ suc b = event_clock r s c h.0 h.1 b sound low h.3 in omega arith
    at later (suc k) d lt = let le : (slice_index_or h.2 k d).stamp.clock ≤ suc b + length cs = later k d (omega arith) in omega arith

pub clocks_within : {A K N : Type 0} → (r : Rules A K N) (f : ℕ → A) (w : World A K) (cs : List Choice) (u : World A K) (es : List (Event N)) → RunsFrom r f w cs u es → ClocksWithin cs u es
clocks_within {A} {K} {N} r f w cs u es h =
    let x : ShownRun r w (start f) cs u es = shown_from r f w cs u es h in
    let low : ClocksBelow 0 (start {K = K} f) = λ a. omega arith in
    let zero_more : 0 + length cs ≡ length cs = omega arith in
    let bound : ((a : ℕ) (y : Seat A) → slice_get u.seats a ≡ Some y → y.clock ≤ 0 + length cs) × ((i : MsgId) (m : Msg K) → find i u.flight ≡ Some m → m.stamp.clock ≤ 0 + length cs) =
    clocks_below_world r cs 0 w u (start f) es (start_shows f w h.start) (start_sound f) low h.run in
    record {
      count = count_of_run r cs w u es h.run;
      events = subst (λ (n : ℕ). All (λ e. e.stamp.clock ≤ n) es) zero_more (events_below r cs 0 (start f) x.state es (start_sound f) low x.runs);
      seats = λ a y e. let le : y.clock ≤ 0 + length cs = bound.0 a y e in omega arith;
      flight = λ i m e. let le : m.stamp.clock ≤ 0 + length cs = bound.1 i m e in omega arith;
    }
