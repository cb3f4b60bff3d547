-- What is outstanding is in flight in some run: so the laws of a scheme bound it, and its receiver can take it.
use Rattle.std.proofs.Common.{◌≡◌, ℕ, zero, suc, ◌+◌, ◌*◌, ◌<◌, ◌≤◌, Bool, true, false, cond, nat_eq, nat_lt, arith, refl, sym, subst, List, [], ◌∷◌, ◌++◌, length, slice_get, Option, None, Some, ap}
use Rattle.std.proofs.Math.Path.{◌∙◌}
use Rattle.std.proofs.lemmas.Bool.Decides.{nat_tests}
use Rattle.std.proofs.lemmas.List.{length-append, append-nil}
use Rattle.og_runs.specs.declared.MsgId.{MsgId}
use Rattle.og_runs.specs.declared.Msg.{Msg}
use Rattle.og_runs.specs.declared.Event.{Event}
use Rattle.og_runs.specs.declared.Seat.{Seat}
use Rattle.og_runs.specs.Runs.{Outcome, Rules, History, Histories, Local, choices, put, start_history, has_id, joined, same_id, sent_as, unless_taken}
use Rattle.og_runs.specs.World.{World, find, without, seat_of}
use Rattle.og_runs.specs.Views.{View, LocalViews, ConsistentViews, TakenOnce, logs_of, sent_list}
use Rattle.og_runs.specs.Laws.{IsStart, ClocksWithin}
use Rattle.og_runs.proofs.Placed.{same_self, find_without}
use Rattle.og_runs.proofs.Shown.{DataRun, slice_get_some}
use Rattle.og_runs.proofs.Views.{ends, sorted_views}
use Rattle.og_runs.proofs.Stated.{start_shows, clocks_within}
use Rattle.og_fabric.specs.declared.rule.Side.{Side}
use Rattle.og_fabric.specs.Sides.{Each, times, Place, in_queue, in_taken, Sides, sent_in, Fits, IsReadyFor, IsMetBy, IsKept}
use Rattle.og_fabric.specs.Sides.Place.{Nowhere, Queue, Hand, Taken}
use Rattle.og_fabric.specs.Scheme.{IsRunOf, HasRoom, IsReady, takes}
use Rattle.og_fabric.proofs.Lists.{each_map, get_more, put_all, put_here}
use Rattle.og_fabric.proofs.Sorting.{sorted, sorted_is, length_sorted}

-- ------------------------------------------------------------------------------ a log for each actor

-- a log that makes the lists of an actor fit
pub record IsWitness {A K N : Type 0} (r : Rules A K N) (f : ℕ → A) (most a : ℕ) (sent taken : List (Msg K)) (c : List (Event N) × History A K) : Type 0 where
  pub local : Local r a (start_history (f a)) c.0 c.1
  pub size : length c.0 ≤ most
  pub took : c.1.taken ≡ taken
  pub rest : List (Msg K)
  pub more : c.1.sent ≡ sent ++ rest

abbrev view_at : {A K N : Type 0} → List (Event N) × History A K → View K N
view_at c = record { log = c.0; sent = c.1.sent; taken = c.1.taken }

abbrev views_from : {A K N : Type 0} → ℕ → ℕ → (ℕ → List (Event N) × History A K) → List (View K N)
views_from k zero c = []
views_from k (suc n) c = view_at (c k) ∷ views_from (suc k) n c

views_get : {A K N : Type 0} → (k n : ℕ) (c : ℕ → List (Event N) × History A K) (j a : ℕ) → a ≡ k + j → j < n → slice_get (views_from k n c) j ≡ Some (view_at (c a))
views_get k zero c j a e lt = absurd (omega arith)
views_get {A} {K} {N} k (suc n) c zero a e lt = let same : k ≡ a = omega (arith, e) in ap (λ (b : ℕ). Some (view_at (c b))) same
views_get k (suc n) c (suc j) a e lt = views_get (suc k) n c j a (omega (arith, e)) (omega arith)

views_length : {A K N : Type 0} → (k n : ℕ) (c : ℕ → List (Event N) × History A K) → (length (views_from k n c) ≡ n) × (length (logs_of (views_from k n c)) ≡ n)
views_length k zero c = (refl, refl)
views_length k (suc n) c = (ap (λ (m : ℕ). suc m) (views_length (suc k) n c).0, ap (λ (m : ℕ). suc m) (views_length (suc k) n c).1)

views_past : {A K N : Type 0} → (k n : ℕ) (c : ℕ → List (Event N) × History A K) (j : ℕ) → n ≤ j → slice_get (views_from k n c) j ≡ None
views_past k zero c j le = refl
views_past k (suc n) c zero le = absurd (omega arith)
views_past k (suc n) c (suc j) le = views_past (suc k) n c j (omega arith)

abbrev views_local : {A K N : Type 0} → (r : Rules A K N) (f : ℕ → A) (k n : ℕ) (c : ℕ → List (Event N) × History A K) → ((a : ℕ) → Local r a (start_history (f a)) (c a).0 (c a).1) → LocalViews r f k (views_from k n c)
views_local r f k zero c h = tt
views_local r f k (suc n) c h = ((((c k).1, h k, refl, refl)), views_local r f (suc k) n c h)

-- the logs end where they should
ends_at : {A K N : Type 0} → (r : Rules A K N) (f : ℕ → A) (k n : ℕ) (c : ℕ → List (Event N) × History A K) (h : (a : ℕ) → Local r a (start_history (f a)) (c a).0 (c a).1) (a : ℕ) → k ≤ a → a < k + n →
    ends r f k (views_from k n c) (views_local r f k n c h) a ≡ (c a).1
ends_at r f k zero c h a le lt = absurd (omega arith)
ends_at {A} {K} {N} r f k (suc n) c h a le lt = at (nat_eq k a) refl (λ le'. ends_at r f (suc k) n c h a le' (omega arith))
  where
    at : (w : Bool) → nat_eq k a ≡ w → (suc k ≤ a → ends r f (suc k) (views_from (suc k) n c) (views_local r f (suc k) n c h) a ≡ (c a).1) → cond w (c k).1 (ends r f (suc k) (views_from (suc k) n c) (views_local r f (suc k) n c h) a) ≡ (c a).1
    at true is rec = let same : k ≡ a = grind (arith, nat_tests) in ap (λ (b : ℕ). (c b).1) same
    at false is rec = let lt' : k < a = grind (arith, nat_tests) in rec (omega arith)

ends_past : {A K N : Type 0} → (r : Rules A K N) (f : ℕ → A) (k n : ℕ) (c : ℕ → List (Event N) × History A K) (h : (a : ℕ) → Local r a (start_history (f a)) (c a).0 (c a).1) (a : ℕ) → k + n ≤ a →
    ends r f k (views_from k n c) (views_local r f k n c h) a ≡ start_history (f a)
ends_past r f k zero c h a le = refl
ends_past {A} {K} {N} r f k (suc n) c h a le =
    let ne : nat_eq k a ≡ false = grind (arith, nat_tests) in
    ap (λ (w : Bool). cond w (c k).1 (ends r f (suc k) (views_from (suc k) n c) (views_local r f (suc k) n c h) a)) ne ∙ ends_past r f (suc k) n c h a (omega arith)

logs_length : {A K N : Type 0} → (most k n : ℕ) (c : ℕ → List (Event N) × History A K) → ((a : ℕ) → length (c a).0 ≤ most) → length (joined (logs_of (views_from k n c))) ≤ n * most
logs_length most k zero c h = omega arith
logs_length {A} {K} {N} most k (suc n) c h =
    let l : length (joined (logs_of (views_from (suc k) n c))) ≤ n * most = logs_length most (suc k) n c h in
    let m : length (c k).0 ≤ most = h k in
    let e : length ((c k).0 ++ joined (logs_of (views_from (suc k) n c))) ≡ length (c k).0 + length (joined (logs_of (views_from (suc k) n c))) = length-append (c k).0 (joined (logs_of (views_from (suc k) n c))) in
    let d : suc n * most ≡ most + n * most = grind arith in
    omega (arith, l, m, e, d)

-- ------------------------------------------------------------------------------ their start

abbrev seats_from : {A : Type 0} → ℕ → ℕ → (ℕ → A) → List (Seat A)
seats_from k zero f = []
seats_from k (suc n) f = record { local = f k; clock = 0; next = 0 } ∷ seats_from (suc k) n f

seats_at : {A : Type 0} → (k n : ℕ) (f : ℕ → A) (j a : ℕ) (x : Seat A) → a ≡ k + j → slice_get (seats_from k n f) j ≡ Some x → x ≡ record { local = f a; clock = 0; next = 0 }
seats_at k zero f j a x e is = absurd (cc)
seats_at {A} k (suc n) f zero a x e is =
    let same : k ≡ a = omega (arith, e) in
    let one : record { local = f k; clock = 0; next = 0 } ≡ x = cc in
    sym one ∙ ap (λ (b : ℕ). record { local = f b; clock = 0; next = 0 }) same
seats_at k (suc n) f (suc j) a x e is = seats_at (suc k) n f j a x (omega (arith, e)) is

seats_length : {A : Type 0} → (k n : ℕ) (f : ℕ → A) → length (seats_from k n f) ≡ n
seats_length k zero f = refl
seats_length k (suc n) f = ap (λ (m : ℕ). suc m) (seats_length (suc k) n f)

abbrev begin : {A K : Type 0} → ℕ → (ℕ → A) → World A K
begin n f = record { seats = seats_from 0 n f; flight = [] }

begins : {A K : Type 0} → (n : ℕ) (f : ℕ → A) → IsStart {K = K} f (begin n f)
begins n f = record { seat = λ a x is. seats_at 0 n f a a x (omega arith) is; flight = refl }

-- ------------------------------------------------------------------------------ what is outstanding

pub once : (p : Place) (a : ℕ) → in_taken a p ≤ 1
once Nowhere a = omega arith
once Queue a = omega arith
once (Hand b) a = omega arith
once (Taken b) a = at (nat_eq a b)
  where
    at : (w : Bool) → cond w 1 0 ≤ 1
    at true = omega arith
    at false = omega arith

pub none_there : {K : Type 0} → (i : MsgId) (ms : List (Msg K)) → times i ms ≡ 0 → has_id i ms ≡ false
none_there i [] e = refl
none_there {K} i (m ∷ ms) e = at (same_id i m.id) (none_there i ms) e
  where
    at : (w : Bool) → (times i ms ≡ 0 → has_id i ms ≡ false) → cond w (suc (times i ms)) (times i ms) ≡ 0 → cond w true (has_id i ms) ≡ false
    at true k e = absurd (omega (arith, e))
    at false k e = k e

pub times_less : {K : Type 0} → (i : MsgId) (m : Msg K) (ms : List (Msg K)) → times i ms ≤ times i (m ∷ ms)
times_less {K} i m ms = at (same_id i m.id)
  where
    at : (w : Bool) → times i ms ≤ cond w (suc (times i ms)) (times i ms)
    at true = omega arith
    at false = omega arith

pub times_first : {K : Type 0} → (x : Msg K) (ms : List (Msg K)) → times x.id (x ∷ ms) ≡ suc (times x.id ms)
times_first {K} x ms = ap (λ (w : Bool). cond w (suc (times x.id ms)) (times x.id ms)) (same_self x.id)

-- lists in which each message is once and which a flight has are no longer than the flight
fewer : {K : Type 0} → (i : MsgId) (x : Msg K) (ms : List (Msg K)) → find i ms ≡ Some x → suc (length (without i ms)) ≤ length ms
fewer i x [] e = absurd (cc)
fewer {K} i x (m ∷ ms) e = at (same_id i m.id) (shorter i ms) (fewer i x ms) e
  where
    shorter : (i : MsgId) (ms : List (Msg K)) → length (without i ms) ≤ length ms
    shorter i [] = omega arith
    shorter i (y ∷ ys) = one (same_id i y.id) (shorter i ys)
      where
        one : (w : Bool) → length (without i ys) ≤ length ys → length (cond w (without i ys) (y ∷ without i ys)) ≤ suc (length ys)
        one true k = omega (arith, k)
        one false k = omega (arith, k)

    at : (w : Bool) → length (without i ms) ≤ length ms → (find i ms ≡ Some x → suc (length (without i ms)) ≤ length ms) → cond w (Some m) (find i ms) ≡ Some x → suc (length (cond w (without i ms) (m ∷ without i ms))) ≤ suc (length ms)
    at true l k e = omega (arith, l)
    at false l k e = let z : suc (length (without i ms)) ≤ length ms = k e in omega (arith, z)

fewer_all : {K : Type 0} → (items flight : List (Msg K)) → ((i : MsgId) → times i items ≤ 1) → Each (λ m. find m.id flight ≡ Some m) items → length items ≤ length flight
fewer_all [] flight one h = omega arith
fewer_all {K} (x ∷ xs) flight one h =
    let l : suc (length (without x.id flight)) ≤ length flight = fewer x.id x flight h.0 in
    let k : length xs ≤ length (without x.id flight) = fewer_all xs (without x.id flight) (λ i. let a : times i xs ≤ times i (x ∷ xs) = times_less i x xs in let b : times i (x ∷ xs) ≤ 1 = one i in omega (arith, a, b)) (keep xs zero_here h.1) in
    omega (arith, l, k)
  where
    zero_here : times x.id xs ≡ 0
    zero_here = let a : times x.id (x ∷ xs) ≤ 1 = one x.id in let b : times x.id (x ∷ xs) ≡ suc (times x.id xs) = times_first x xs in omega (arith, a, b)

    keep : (ms : List (Msg K)) → times x.id ms ≡ 0 → Each (λ m. find m.id flight ≡ Some m) ms → Each (λ m. find m.id (without x.id flight) ≡ Some m) ms
    keep [] z k = tt
    keep (m ∷ ms) z k = at (same_id x.id m.id) refl z (λ z. keep ms z k.1)
      where
        at : (w : Bool) → same_id x.id m.id ≡ w → cond w (suc (times x.id ms)) (times x.id ms) ≡ 0 → (times x.id ms ≡ 0 → Each (λ m. find m.id (without x.id flight) ≡ Some m) ms) → Each (λ m. find m.id (without x.id flight) ≡ Some m) (m ∷ ms)
        at true is z j = absurd (omega (arith, z))
        at false is z j =
            let flip : same_id m.id x.id ≡ false = grind (arith, nat_tests) in
            (find_without x.id m.id flight ∙ (ap (λ (w : Bool). cond w None (find m.id flight)) flip ∙ k.0), j z)

-- ------------------------------------------------------------------------------ the run

pub record InRun {A K N : Type 0} (r : Rules A K N) (f : ℕ → A) (actors most : ℕ) (items : List (Msg K)) (c : ℕ → List (Event N) × History A K) : Type 0 where
  pub world : World A K
  pub events : List (Event N)
  pub run : IsRunOf r f actors most (begin actors f) (choices events) world events
  pub flying : Each (λ m. find m.id world.flight ≡ Some m) items
  pub seats : (a : ℕ) → a < actors → slice_get world.seats a ≡ Some (seat_of (c a).1)

all_times : {K : Type 0} → (ms big : List (Msg K)) → ((i : MsgId) → times i ms ≤ times i big) → Each (λ m. 1 ≤ times m.id big) ms
all_times [] big h = tt
all_times (m ∷ ms) big h = (
  let a : times m.id (m ∷ ms) ≡ suc (times m.id ms) = times_first m ms in let b : times m.id (m ∷ ms) ≤ times m.id big = h m.id in omega (arith, a, b),
  all_times ms big (λ i. let a : times i ms ≤ times i (m ∷ ms) = times_less i m ms in let b : times i (m ∷ ms) ≤ times i big = h i in omega (arith, a, b)),
)

each_both : {X : Type 0} → (P Q : X → Type 0) (xs : List X) → Each P xs → Each Q xs → Each (λ x. P x × Q x) xs
each_both P Q [] h k = tt
each_both P Q (x ∷ xs) h k = ((h.0, k.0), each_both P Q xs h.1 k.1)

not_taken : (p : Place) (a : ℕ) → 1 ≤ in_queue p → in_taken a p ≡ 0
not_taken Nowhere a e = absurd (omega (arith, e))
not_taken Queue a e = refl
not_taken (Hand b) a e = refl
not_taken (Taken b) a e = absurd (omega (arith, e))

pub in_run : {A K N : Type 0} → (r : Rules A K N) (f : ℕ → A) (actors most : ℕ) (items : List (Msg K)) (s : Sides K) (k : IsKept r f actors most items s) (c : ℕ → List (Event N) × History A K) →
    ((a : ℕ) → IsWitness r f most a (s a).sent (s a).taken (c a)) → InRun r f actors most items c
in_run {A} {K} {N} r f actors most items s k c w = record {
  world = d.world;
  events = sorted all;
  run = record {
    run = record { start = begins actors f; run = d.runs };
    seats = seats_length 0 actors f;
    events = let a : length (sorted all) ≡ length all = length_sorted all in let b : length all ≤ actors * most = logs_length most 0 actors c (λ a. (w a).size) in omega (arith, a, b);
  };
  flying = each_map (λ (m : Msg K). (sent_in s m.id ≡ Some m) × (1 ≤ times m.id items)) (λ m. find m.id d.world.flight ≡ Some m) (λ m e. flies m e.0 e.1) items (each_both (λ (m : Msg K). sent_in s m.id ≡ Some m) (λ m. 1 ≤ times m.id items) items k.queue_sent (all_times items items (λ i. omega arith)));
  seats = seats;
}
  where
    vs : List (View K N)
    vs = views_from 0 actors c

    all : List (Event N)
    all = joined (logs_of (views_from 0 actors c))

    local : (a : ℕ) → Local r a (start_history (f a)) (c a).0 (c a).1
    local a = (w a).local

    h : LocalViews r f 0 (views_from 0 actors c)
    h = views_local r f 0 actors c (λ a. (w a).local)

    t : Histories A K
    t = ends r f 0 (views_from 0 actors c) (views_local r f 0 actors c (λ a. (w a).local))

    known : (i : MsgId) (m : Msg K) → sent_in s i ≡ Some m → i.sender < actors
    known i m is = at (nat_lt i.sender actors) refl
      where
        at : (v : Bool) → nat_lt i.sender actors ≡ v → i.sender < actors
        at true e = grind (arith, nat_tests)
        at false e =
            let le : actors ≤ i.sender = grind (arith, nat_tests) in
            let none : sent_in s i ≡ None = ap (λ (g : Side K). slice_get g.sent i.seq) (k.past i.sender le) in
            absurd (cc)

    sent_c : (i : MsgId) (m : Msg K) → sent_in s i ≡ Some m → slice_get (c i.sender).1.sent i.seq ≡ Some m
    sent_c i m is = ap (λ (ms : List (Msg K)). slice_get ms i.seq) (w i.sender).more ∙ get_more (s i.sender).sent (w i.sender).rest i.seq m is

    sent_vs : (i : MsgId) (m : Msg K) → sent_in s i ≡ Some m → slice_get (sent_list (slice_get (views_from 0 actors c) i.sender)) i.seq ≡ Some m
    sent_vs i m is = ap (λ (o : Option (View K N)). slice_get (sent_list o) i.seq) (views_get 0 actors c i.sender i.sender (omega arith) (known i m is)) ∙ sent_c i m is

    taken_once : (a : ℕ) (ms : List (Msg K)) → Each (λ m. (sent_in s m.id ≡ Some m) × (m.to ≡ a)) ms → ((i : MsgId) → times i ms ≤ 1) → TakenOnce (views_from 0 actors c) a ms
    taken_once a [] e one = tt
    taken_once a (m ∷ ms) e one = (
      sent_vs m.id m e.0.0,
      e.0.1,
      none_there m.id ms (let x : times m.id (m ∷ ms) ≡ suc (times m.id ms) = times_first m ms in let y : times m.id (m ∷ ms) ≤ 1 = one m.id in omega (arith, x, y)),
      taken_once a ms e.1 (λ i. let x : times i ms ≤ times i (m ∷ ms) = times_less i m ms in let y : times i (m ∷ ms) ≤ 1 = one i in omega (arith, x, y)),
    )

    consistent : ConsistentViews (views_from 0 actors c)
    consistent a v is = at (nat_lt a actors) refl
      where
        at : (b : Bool) → nat_lt a actors ≡ b → TakenOnce (views_from 0 actors c) a v.taken
        at true e =
            let lt : a < actors = grind (arith, nat_tests) in
            let same : Some (view_at (c a)) ≡ Some v = sym (views_get 0 actors c a a (omega arith) lt) ∙ is in
            let v' : view_at (c a) ≡ v = cc in
            let lists : (s a).taken ≡ v.taken = sym (w a).took ∙ ap (λ (z : View K N). z.taken) v' in
            subst (λ (ms : List (Msg K)). TakenOnce (views_from 0 actors c) a ms) lists
            (taken_once a (s a).taken (k.side a).taken_sent (λ i. let x : times i (s a).taken ≡ in_taken a (k.place i) = (k.side a).taken i in let y : in_taken a (k.place i) ≤ 1 = once (k.place i) a in omega (arith, x, y)))
        at false e =
            let le : actors ≤ a = grind (arith, nat_tests) in
            let none : slice_get (views_from 0 actors c) a ≡ None = views_past 0 actors c a le in
            absurd (cc)

    d : DataRun r (begin actors f) (choices (sorted (joined (logs_of (views_from 0 actors c))))) (ends r f 0 (views_from 0 actors c) (views_local r f 0 actors c (λ a. (w a).local))) (sorted (joined (logs_of (views_from 0 actors c))))
    d = sorted_views r f (begin actors f) (views_from 0 actors c) (sorted (joined (logs_of (views_from 0 actors c)))) (start_shows f (begin actors f) (begins actors f))
        (let x : length (logs_of (views_from 0 actors c)) ≡ actors = (views_length 0 actors c).1 in let y : length (seats_from 0 actors f) ≡ actors = seats_length 0 actors f in omega (arith, x, y))
        h consistent (sorted_is (joined (logs_of (views_from 0 actors c))))

    flies : (m : Msg K) → sent_in s m.id ≡ Some m → 1 ≤ times m.id items → find m.id d.world.flight ≡ Some m
    flies m is here = d.shows.flight m.id ∙ (ap (λ (o : Option (Msg K)). unless_taken t m.id o) sent_t ∙ ap (λ (b : Bool). cond b None (Some m)) (free (nat_lt m.to actors) refl))
      where
        sent_t : sent_as t m.id ≡ Some m
        sent_t = ap (λ (q : History A K). slice_get q.sent m.id.seq) (ends_at r f 0 actors c local m.id.sender (omega arith) (let lt : m.id.sender < actors = known m.id m is in omega (arith, lt))) ∙ sent_c m.id m is

        free : (b : Bool) → nat_lt m.to actors ≡ b → has_id m.id (t m.to).taken ≡ false
        free true e =
            let lt : m.to < actors = grind (arith, nat_tests) in
            let lists : (t m.to).taken ≡ (s m.to).taken = ap (λ (q : History A K). q.taken) (ends_at r f 0 actors c local m.to (omega arith) (omega (arith, lt))) ∙ (w m.to).took in
            ap (λ (ms : List (Msg K)). has_id m.id ms) lists ∙ none_there m.id (s m.to).taken ((k.side m.to).taken m.id ∙ not_taken (k.place m.id) m.to (let x : times m.id items ≡ in_queue (k.place m.id) = k.queue m.id in omega (arith, x, here)))
        free false e =
            let le : actors ≤ m.to = grind (arith, nat_tests) in
            ap (λ (q : History A K). has_id m.id q.taken) (ends_past r f 0 actors c local m.to (omega (arith, le)))

    seats : (a : ℕ) → a < actors → slice_get d.world.seats a ≡ Some (seat_of (c a).1)
    seats a lt =
        let size : length d.world.seats ≡ length (seats_from 0 actors f) = d.size in
        let size' : length (seats_from 0 actors f) ≡ actors = seats_length 0 actors f in
        let y : (y : Seat A) × (slice_get d.world.seats a ≡ Some y) = slice_get_some d.world.seats a (omega (arith, size, size', lt)) in
        y.1 ∙ ap (λ (z : Seat A). Some z) (sym (d.shows.seat a y.0 y.1) ∙ ap (λ (q : History A K). seat_of q) (ends_at r f 0 actors c local a (omega arith) (omega (arith, lt))))

abbrev first_log : {A K N : Type 0} → (r : Rules A K N) (f : ℕ → A) (most a : ℕ) (sent taken : List (Msg K)) → Fits r f most a sent taken → List (Event N) × History A K
first_log r f most a sent taken h = (h.0, h.1)

fits_witness : {A K N : Type 0} → (r : Rules A K N) (f : ℕ → A) (most a : ℕ) (sent taken : List (Msg K)) (h : Fits r f most a sent taken) → IsWitness r f most a sent taken (h.0, h.1)
fits_witness r f most a sent taken h = record { local = h.3; size = h.4; took = h.5; rest = h.2; more = h.6 }

one_place : (p : Place) → in_queue p ≤ 1
one_place Nowhere = omega arith
one_place Queue = omega arith
one_place (Hand b) = omega arith
one_place (Taken b) = omega arith

-- the queue never has more than there is room for
pub bounded : {A K N : Type 0} → (r : Rules A K N) (f : ℕ → A) (actors most room : ℕ) (items : List (Msg K)) (s : Sides K) → HasRoom r f actors most room → IsKept r f actors most items s → length items ≤ room
bounded {A} {K} {N} r f actors most room items s law k =
    let c : ℕ → List (Event N) × History A K = λ a. ((k.fits a).0, (k.fits a).1) in
    let x : InRun r f actors most items c = in_run r f actors most items s k c (λ a. fits_witness r f most a (s a).sent (s a).taken (k.fits a)) in
    let a : length x.world.flight ≤ room = law (begin actors f) (choices x.events) x.world x.events x.run in
    let b : length items ≤ length x.world.flight = fewer_all items x.world.flight (λ i. let y : times i items ≡ in_queue (k.place i) = k.queue i in let z : in_queue (k.place i) ≤ 1 = one_place (k.place i) in omega (arith, y, z)) x.flying in
    omega (arith, a, b)

-- the run of which an actor's own log is the part that is given
own_run : {A K N : Type 0} → (r : Rules A K N) (f : ℕ → A) (actors most a : ℕ) (items : List (Msg K)) (s : Sides K) (k : IsKept r f actors most items s) (es : List (Event N)) (q : History A K) →
    Local r a (start_history (f a)) es q → length es ≤ most → q.taken ≡ (s a).taken → q.sent ≡ (s a).sent → InRun r f actors most items (put (λ b. ((k.fits b).0, (k.fits b).1)) a (es, q))
own_run {A} {K} {N} r f actors most a items s k es q l size taken sent = in_run r f actors most items s k (put (λ b. ((k.fits b).0, (k.fits b).1)) a (es, q))
    (put_all (λ (b : ℕ) (z : List (Event N) × History A K). IsWitness r f most b (s b).sent (s b).taken z) (λ b. ((k.fits b).0, (k.fits b).1)) a (es, q)
    (record { local = l; size = size; took = taken; rest = []; more = rw append-nil sent })
    (λ b ne. fits_witness r f most b (s b).sent (s b).taken (k.fits b)))

own_seat : {A K N : Type 0} → (r : Rules A K N) (f : ℕ → A) (actors most a : ℕ) (items : List (Msg K)) (c : ℕ → List (Event N) × History A K) (es : List (Event N)) (q : History A K) (y : InRun r f actors most items (put c a (es, q))) → a < actors → slice_get y.world.seats a ≡ Some (seat_of q)
own_seat {A} {K} {N} r f actors most a items c es q y lt = y.seats a lt ∙ ap (λ (z : List (Event N) × History A K). Some (seat_of z.1)) (put_here c a (es, q))

-- the state of an actor, whatever its log is, is one that a run leads to
pub met : {A K N : Type 0} → (r : Rules A K N) (f : ℕ → A) (actors most a : ℕ) (items : List (Msg K)) (s : Sides K) → IsKept r f actors most items s → a < actors → IsMetBy r f actors most a (s a).sent (s a).taken None
met {A} {K} {N} r f actors most a items s k lt es q l size taken sent =
    let y : InRun r f actors most items (put (λ b. ((k.fits b).0, (k.fits b).1)) a (es, q)) = own_run r f actors most a items s k es q l size taken sent in
    record { start = begin actors f; choices = choices y.events; world = y.world; events = y.events; run = y.run; seat = seat_of q; there = own_seat r f actors most a items (λ b. ((k.fits b).0, (k.fits b).1)) es q y lt; state = refl; flies = tt }

-- with the first of the queue in flight, if that is to the actor
pub met_first : {A K N : Type 0} → (r : Rules A K N) (f : ℕ → A) (actors most : ℕ) (x : Msg K) (items : List (Msg K)) (s : Sides K) → IsKept r f actors most (x ∷ items) s → x.to < actors → IsMetBy r f actors most x.to (s x.to).sent (s x.to).taken (Some x)
met_first {A} {K} {N} r f actors most x items s k lt es q l size taken sent =
    let y : InRun r f actors most (x ∷ items) (put (λ b. ((k.fits b).0, (k.fits b).1)) x.to (es, q)) = own_run r f actors most x.to (x ∷ items) s k es q l size taken sent in
    record { start = begin actors f; choices = choices y.events; world = y.world; events = y.events; run = y.run; seat = seat_of q; there = own_seat r f actors most x.to (x ∷ items) (λ b. ((k.fits b).0, (k.fits b).1)) es q y lt; state = refl; flies = (y.flying.0, refl) }

-- the first of the queue can be taken by its receiver, whatever its log is
pub ready : {A K N : Type 0} → (r : Rules A K N) (f : ℕ → A) (actors most : ℕ) (x : Msg K) (items : List (Msg K)) (s : Sides K) → IsReady r f actors most → IsKept r f actors most (x ∷ items) s → x.to < actors →
    IsReadyFor r f actors most x.to (s x.to).sent (s x.to).taken x
ready {A} {K} {N} r f actors most x items s law k lt es q l size taken sent =
    let y : InRun r f actors most (x ∷ items) (put (λ b. ((k.fits b).0, (k.fits b).1)) x.to (es, q)) = own_run r f actors most x.to (x ∷ items) s k es q l size taken sent in
    let seat : slice_get y.world.seats x.to ≡ Some (seat_of q) = own_seat r f actors most x.to (x ∷ items) (λ b. ((k.fits b).0, (k.fits b).1)) es q y lt in
    let o : (o : Outcome A K N) × (takes r x (seat_of q) ≡ Some o) = law (begin actors f) (choices y.events) y.world y.events y.run x.id x (seat_of q) y.flying.0 seat in
    let clocks : ClocksWithin (choices y.events) y.world y.events = clocks_within r f (begin actors f) (choices y.events) y.world y.events y.run.run in
    let clock : x.stamp.clock ≤ length (choices y.events) = clocks.flight x.id x y.flying.0 in
    let count : length y.events ≡ length (choices y.events) = clocks.count in
    let size : length y.events ≤ actors * most = y.run.events in
    (o.0, o.1, omega (arith, clock, count, size))
