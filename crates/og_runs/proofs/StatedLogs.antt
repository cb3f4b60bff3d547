-- The laws of logs as they are promised: from logs to a run, and from a run to logs.
use Rattle.std.proofs.Common.{◌≡◌, ℕ, zero, suc, ◌+◌, ◌<◌, ◌≤◌, Bool, true, false, cond, nat_eq, nat_lt, arith, refl, sym, subst, List, [], ◌∷◌, length, slice_get, Option, None, Some, ap}
use Rattle.std.proofs.Math.Path.{◌∙◌}
use Rattle.std.proofs.lemmas.Bool.Decides.{nat_tests}
use Rattle.og_runs.specs.declared.MsgId.{MsgId}
use Rattle.og_runs.specs.declared.Choice.{Choice}
use Rattle.og_runs.specs.declared.Msg.{Msg}
use Rattle.og_runs.specs.declared.Event.{Event}
use Rattle.og_runs.specs.declared.Seat.{Seat}
use Rattle.og_runs.specs.Runs.{Rules, History, Histories, Local, choices, own_events, start, start_history, has_id, joined, IsSorted, Strict, sent_as, unless_taken, EachTaken}
use Rattle.og_runs.specs.World.{World, WorldRun, find, seat_of, Inside, Shows}
use Rattle.og_runs.specs.Views.{View, LocalViews, ConsistentViews, TakenOnce, logs_of, sent_list, taken_list}
use Rattle.og_runs.specs.Laws.{IsStart, RunsFrom, unless_taken_in, left_in_flight, EndsAsLogs}
use Rattle.og_runs.proofs.Back.{locals, same_choices}
use Rattle.og_runs.proofs.RunLaws.{start_sound}
use Rattle.og_runs.proofs.Shown.{ShownRun, DataRun, slice_get_below, slice_get_some}
use Rattle.og_runs.proofs.Whole.{sorted_run, run_strict, inside_none}
use Rattle.og_runs.proofs.Views.{ends, ends_lists, sorted_views}
use Rattle.og_runs.proofs.Stated.{start_shows, shown_from}

-- ------------------------------------------------------------------------------ from logs to a run

length_logs : {K N : Type 0} → (vs : List (View K N)) → length (logs_of vs) ≡ length vs
length_logs [] = refl
length_logs (v ∷ vs) = ap (λ (n : ℕ). suc n) (length_logs vs)

-- each actor's log leads to where the logs end
ends_local : {A K N : Type 0} → (r : Rules A K N) (f : ℕ → A) (k : ℕ) (vs : List (View K N)) (h : LocalViews r f k vs) (j a : ℕ) (v : View K N) → a ≡ k + j → slice_get vs j ≡ Some v →
    Local r a (start_history (f a)) v.log (ends r f k vs h a)
ends_local r f k [] h j a v e is = absurd (cc)
ends_local {A} {K} {N} r f k (x ∷ vs) h zero a v e is =
    let same : k ≡ a = omega (arith, e) in
    let first : x ≡ v = cc in
    let test : nat_eq k a ≡ true = grind (arith, nat_tests) in
    let one : h.0.0 ≡ cond (nat_eq k a) h.0.0 (ends r f (suc k) vs h.1 a) = sym (ap (λ (w : Bool). cond w h.0.0 (ends r f (suc k) vs h.1 a)) test) in
    subst (λ (p : History A K). Local r a (start_history (f a)) v.log p) one
    (subst (λ (z : View K N). Local r a (start_history (f a)) z.log h.0.0) first (subst (λ (b : ℕ). Local r b (start_history (f b)) x.log h.0.0) same h.0.1))
ends_local {A} {K} {N} r f k (x ∷ vs) h (suc j) a v e is =
    let test : nat_eq k a ≡ false = grind (arith, nat_tests) in
    let one : ends r f (suc k) vs h.1 a ≡ cond (nat_eq k a) h.0.0 (ends r f (suc k) vs h.1 a) = sym (ap (λ (w : Bool). cond w h.0.0 (ends r f (suc k) vs h.1 a)) test) in
    subst (λ (p : History A K). Local r a (start_history (f a)) v.log p) one (ends_local r f (suc k) vs h.1 j a v (omega (arith, e)) is)

-- an actor without a log hasn't moved
ends_past : {A K N : Type 0} → (r : Rules A K N) (f : ℕ → A) (k : ℕ) (vs : List (View K N)) (h : LocalViews r f k vs) (a : ℕ) → k + length vs ≤ a → ends r f k vs h a ≡ start_history (f a)
ends_past r f k [] h a le = refl
ends_past {A} {K} {N} r f k (x ∷ vs) h a le =
    let test : nat_eq k a ≡ false = grind (arith, nat_tests) in
    ap (λ (w : Bool). cond w h.0.0 (ends r f (suc k) vs h.1 a)) test ∙ ends_past r f (suc k) vs h.1 a (omega arith)

-- seats of one history are one seat
seats_alike : {A K : Type 0} → (w u : World A K) (s t : Histories A K) (a : ℕ) → Shows w s → Shows u t → length w.seats ≡ length u.seats → s a ≡ t a → slice_get w.seats a ≡ slice_get u.seats a
seats_alike {A} {K} w u s t a x y size e = at (slice_get w.seats a) refl (slice_get u.seats a) refl
  where
    at : (o : Option (Seat A)) → slice_get w.seats a ≡ o → (p : Option (Seat A)) → slice_get u.seats a ≡ p → slice_get w.seats a ≡ slice_get u.seats a
    at None d None g = d ∙ sym g
    at (Some p) d (Some q) g = d ∙ (ap (λ (z : Seat A). Some z) (sym (x.seat a p d) ∙ (ap (λ (z : History A K). seat_of z) e ∙ y.seat a q g)) ∙ sym g)
    at (Some p) d None g = let lt : a < length w.seats = slice_get_below w.seats a p d in let z : (z : Seat A) × (slice_get u.seats a ≡ Some z) = slice_get_some u.seats a (omega arith) in absurd (cc)
    at None d (Some q) g = let lt : a < length u.seats = slice_get_below u.seats a q g in let z : (z : Seat A) × (slice_get w.seats a ≡ Some z) = slice_get_some w.seats a (omega arith) in absurd (cc)

pub logs_run : {A K N : Type 0} → (r : Rules A K N) (f : ℕ → A) (w : World A K) (vs : List (View K N)) (fs : List (Event N)) →
    IsStart f w → length vs ≤ length w.seats → LocalViews r f 0 vs → ConsistentViews vs → IsSorted (joined (logs_of vs)) fs →
    (u : World A K) × WorldRun r w (choices fs) u fs × EndsAsLogs r f w vs u
logs_run {A} {K} {N} r f w vs fs begin size h all sort = (d.world, d.runs, record { seat = seat; others = others; flight = flight; distinct = d.shows.distinct })
  where
    d : DataRun r w (choices fs) (ends r f 0 vs h) fs
    d = let same : length (logs_of vs) ≡ length vs = length_logs vs in sorted_views r f w vs fs (start_shows f w begin) (omega arith) h all sort

    lists : (a : ℕ) → ((ends r f 0 vs h a).sent ≡ sent_list (slice_get vs a)) × ((ends r f 0 vs h a).taken ≡ taken_list (slice_get vs a))
    lists a = ends_lists r f 0 vs h a a (omega arith)

    seat : (a : ℕ) (v : View K N) → slice_get vs a ≡ Some v →
        (q : History A K) × Local r a (start_history (f a)) v.log q × (q.sent ≡ v.sent) × (q.taken ≡ v.taken) × (slice_get d.world.seats a ≡ Some (seat_of q))
    seat a v is =
        let lt : a < length vs = slice_get_below vs a v is in
        let size' : length d.world.seats ≡ length w.seats = d.size in
        let y : (y : Seat A) × (slice_get d.world.seats a ≡ Some y) = slice_get_some d.world.seats a (omega arith) in (
          ends r f 0 vs h a,
          ends_local r f 0 vs h a a v (omega arith) is,
          (lists a).0 ∙ ap (λ (o : Option (View K N)). sent_list o) is,
          (lists a).1 ∙ ap (λ (o : Option (View K N)). taken_list o) is,
          y.1 ∙ ap (λ (z : Seat A). Some z) (sym (d.shows.seat a y.0 y.1)),
        )

    others : (a : ℕ) → length vs ≤ a → slice_get d.world.seats a ≡ slice_get w.seats a
    others a le = seats_alike d.world w (ends r f 0 vs h) (start f) a d.shows (start_shows f w begin) d.size (ends_past r f 0 vs h a (omega arith))

    flight : (i : MsgId) → find i d.world.flight ≡ left_in_flight vs i
    flight i = d.shows.flight i ∙ (ap (λ (ms : List (Msg K)). unless_taken (ends r f 0 vs h) i (slice_get ms i.seq)) (lists i.sender).0 ∙ left (slice_get (sent_list (slice_get vs i.sender)) i.seq))
      where
        left : (o : Option (Msg K)) → unless_taken (ends r f 0 vs h) i o ≡ unless_taken_in vs i o
        left None = refl
        left (Some m) = ap (λ (ms : List (Msg K)). cond (has_id i ms) None (Some m)) (lists m.to).1

pub sorted_events_run : {A K N : Type 0} → (r : Rules A K N) (f : ℕ → A) (w : World A K) (cs : List Choice) (u : World A K) (es fs : List (Event N)) → RunsFrom r f w cs u es → IsSorted es fs →
    (v : World A K) × WorldRun r w (choices fs) v fs × (v.seats ≡ u.seats) × (v.flight ≡ u.flight) × Strict fs
sorted_events_run {A} {K} {N} r f w cs u es fs h sort =
    let x : (v : World A K) × WorldRun r w (choices fs) v fs × (v.seats ≡ u.seats) × (v.flight ≡ u.flight) = sorted_run r cs w u (start f) es fs (start_shows f w h.start) (start_sound f) h.run sort in
    (x.0, x.1, x.2, x.3, run_strict r (choices fs) w x.0 (start f) fs (start_shows f w h.start) (start_sound f) x.1 sort.ordered)

-- ------------------------------------------------------------------------------ from a run to logs

-- what contracts see of actor a
abbrev view_of : {A K N : Type 0} → List (Event N) → Histories A K → ℕ → View K N
view_of es t a = record { log = own_events a es; sent = (t a).sent; taken = (t a).taken }

-- of the n actors from k on
abbrev views_from : {A K N : Type 0} → ℕ → ℕ → List (Event N) → Histories A K → List (View K N)
views_from k zero es t = []
views_from k (suc n) es t = view_of es t k ∷ views_from (suc k) n es t

length_views : {A K N : Type 0} → (k n : ℕ) (es : List (Event N)) (t : Histories A K) → length (views_from k n es t) ≡ n
length_views k zero es t = refl
length_views k (suc n) es t = ap (λ (m : ℕ). suc m) (length_views (suc k) n es t)

views_get : {A K N : Type 0} → (k n : ℕ) (es : List (Event N)) (t : Histories A K) (j a : ℕ) → a ≡ k + j → j < n → slice_get (views_from k n es t) j ≡ Some (view_of es t a)
views_get k zero es t j a e lt = absurd (omega arith)
views_get {A} {K} {N} k (suc n) es t zero a e lt = let same : k ≡ a = omega (arith, e) in ap (λ (b : ℕ). Some (view_of es t b)) same
views_get k (suc n) es t (suc j) a e lt = views_get (suc k) n es t j a (omega (arith, e)) (omega arith)

views_local : {A K N : Type 0} → (r : Rules A K N) (f : ℕ → A) (k n : ℕ) (es : List (Event N)) (t : Histories A K) → ((a : ℕ) → Local r a (start f a) (own_events a es) (t a)) → LocalViews r f k (views_from k n es t)
views_local r f k zero es t h = tt
views_local r f k (suc n) es t h = ((t k, h k, refl, refl), views_local r f (suc k) n es t h)

-- what was sent, was sent by an actor that there is
sender_inside : {A K N : Type 0} → (r : Rules A K N) (f : ℕ → A) (n : ℕ) (es : List (Event N)) (t : Histories A K) (i : MsgId) (m : Msg K) → ((a : ℕ) → Local r a (start f a) (own_events a es) (t a)) → Inside n es → sent_as t i ≡ Some m → i.sender < n
sender_inside {A} {K} {N} r f n es t i m h inside is = go (nat_lt i.sender n) refl
  where
    go : (w : Bool) → nat_lt i.sender n ≡ w → i.sender < n
    go true e = grind (arith, nat_tests)
    go false e =
        let le : n ≤ i.sender = grind (arith, nat_tests) in
        let still : start f i.sender ≡ t i.sender = subst (λ (zs : List (Event N)). Local r i.sender (start f i.sender) zs (t i.sender)) (inside_none n i.sender es le inside) (h i.sender) in
        let none : slice_get (start {K = K} f i.sender).sent i.seq ≡ Some m = ap (λ (p : History A K). slice_get p.sent i.seq) still ∙ is in absurd (cc)

taken_once : {A K N : Type 0} → (r : Rules A K N) (f : ℕ → A) (n : ℕ) (es : List (Event N)) (t : Histories A K) (a : ℕ) → ((a : ℕ) → Local r a (start f a) (own_events a es) (t a)) → Inside n es →
    (ms : List (Msg K)) → EachTaken t a ms → TakenOnce (views_from 0 n es t) a ms
taken_once r f n es t a h inside [] all = tt
taken_once {A} {K} {N} r f n es t a h inside (m ∷ ms) all =
    let lt : m.id.sender < n = sender_inside r f n es t m.id m h inside all.0 in
    let view : slice_get (views_from 0 n es t) m.id.sender ≡ Some (view_of es t m.id.sender) = views_get 0 n es t m.id.sender m.id.sender (omega arith) lt in
    (ap (λ (o : Option (View K N)). slice_get (sent_list o) m.id.seq) view ∙ all.0, all.1, all.2, taken_once r f n es t a h inside ms all.3)

pub run_logs : {A K N : Type 0} → (r : Rules A K N) (f : ℕ → A) (w : World A K) (cs : List Choice) (u : World A K) (es : List (Event N)) → RunsFrom r f w cs u es →
    (choices es ≡ cs) × ((vs : List (View K N)) × (length vs ≡ length w.seats) × LocalViews r f 0 vs × ConsistentViews vs × ((a : ℕ) (v : View K N) → slice_get vs a ≡ Some v → v.log ≡ own_events a es))
run_logs {A} {K} {N} r f w cs u es h = (same_choices r cs (start f) x.state es (start_sound f) x.runs, (views_from 0 n es x.state, length_views 0 n es x.state, views_local r f 0 n es x.state local, consistent, logs))
  where
    n : ℕ
    n = length w.seats

    x : ShownRun r w (start f) cs u es
    x = shown_from r f w cs u es h

    local : (a : ℕ) → Local r a (start f a) (own_events a es) (x.state a)
    local a = locals r cs (start f) x.state es (start_sound f) x.runs a

    is_view : (a : ℕ) (v : View K N) → slice_get (views_from 0 n es x.state) a ≡ Some v → view_of es x.state a ≡ v
    is_view a v is =
        let lt : a < length (views_from 0 n es x.state) = slice_get_below (views_from 0 n es x.state) a v is in
        let size : length (views_from 0 n es x.state) ≡ n = length_views 0 n es x.state in
        let there : slice_get (views_from 0 n es x.state) a ≡ Some (view_of es x.state a) = views_get 0 n es x.state a a (omega arith) (omega arith) in
        let both : Some (view_of es x.state a) ≡ Some v = sym there ∙ is in
        let one : view_of es x.state a ≡ v = cc in one

    consistent : ConsistentViews (views_from 0 n es x.state)
    consistent a v is =
        subst (λ (z : View K N). TakenOnce (views_from 0 n es x.state) a z.taken) (is_view a v is)
        (taken_once r f n es x.state a local x.inside (x.state a).taken (x.sound.consistent a))

    logs : (a : ℕ) (v : View K N) → slice_get (views_from 0 n es x.state) a ≡ Some v → v.log ≡ own_events a es
    logs a v is = ap (λ (z : View K N). z.log) (sym (is_view a v is))
