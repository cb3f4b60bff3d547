-- A world and its histories go together: each step of one is a step of the other..
use Rattle.std.proofs.Common.{◌≡◌, ℕ, zero, suc, ◌+◌, ◌<◌, Bool, true, false, cond, nat_eq, arith, refl, sym, subst, List, [], ◌∷◌, ◌++◌, length, slice_get, slice_set, Option, None, Some, length-append, ap, ap₂}
use Rattle.std.proofs.Math.Path.{◌∙◌}
use Rattle.std.proofs.lemmas.Bool.Decides.{nat_tests}
use Rattle.std.proofs.lemmas.Grind.{common_steps}
use Rattle.std.proofs.lemmas.Option.{gets}
use Rattle.og_runs.specs.declared.MsgId.{MsgId}
use Rattle.og_runs.specs.declared.Choice.{Choice}
use Rattle.og_runs.specs.declared.Choice.TheVariants.{Act, Take}
use Rattle.og_runs.specs.declared.Letter.{Letter}
use Rattle.og_runs.specs.declared.Msg.{Msg}
use Rattle.og_runs.specs.declared.Event.{Event}
use Rattle.og_runs.specs.declared.Seat.{Seat}
use Rattle.og_runs.specs.Runs.{Outcome, Rules, History, Histories, posted, outcome_of, history_after, event_of, move_of, move_with, clock_after, choice_of, EachTaken, Consistent, has_id, same_id, sent_as, unless_taken, in_flight, step_with, step_taking, step, put, Run, IsNumbered, IsSound}
use Rattle.og_runs.specs.World.{World, find, flight_after, seat_after, world_after, world_move_with, world_move, world_take, world_step, WorldRun, seat_of, Shows, Inside, Distinct, placed_all, InPlace}
use Rattle.og_runs.proofs.Placed.{or_else, same_id_equal, find_without, distinct_without, in_place_without, find_insert_all, distinct_insert_all, in_place_all}
use Rattle.og_runs.proofs.Locals.{MoveMade, move_made}
use Rattle.og_runs.proofs.Back.{IsTakeable, Stepped, stepped, has_id_push, sound_put, sent_stays_put, unless_taken_is, event_actor, sound_step}

slice_get_set : {X : Type 0} → (xs : List X) (p q : ℕ) (x : X) → p < length xs → slice_get (slice_set xs p x) q ≡ cond (nat_eq p q) (Some x) (slice_get xs q)
slice_get_set xs p q x lt = grind (arith, nat_tests, common_steps, gets)

-- the posted messages are found by their numbers
find_posted : {K : Type 0} → (a c k : ℕ) (ls : List (Letter K)) (j : MsgId) (d : ℕ) → j.sender ≡ a → j.seq ≡ k + d → find j (posted a c k ls) ≡ slice_get (posted a c k ls) d
find_posted a c k [] j d e f = refl
find_posted a c k (l ∷ ls) j zero e f = let same : same_id j (record { sender = a; seq = k }) ≡ true = grind (arith, nat_tests) in rw same refl
find_posted a c k (l ∷ ls) j (suc d) e f =
    let ne : same_id j (record { sender = a; seq = k }) ≡ false = grind (arith, nat_tests) in
    let r : find j (posted a c (suc k) ls) ≡ slice_get (posted a c (suc k) ls) d = find_posted a c (suc k) ls j d e (omega arith) in rw (ne, r) refl

-- and no others
pub find_posted_none : {K : Type 0} → (a c k : ℕ) (ls : List (Letter K)) (j : MsgId) → (j.sender ≡ a → j.seq < k) → find j (posted a c k ls) ≡ None
find_posted_none a c k [] j h = refl
find_posted_none a c k (l ∷ ls) j h =
    let ne : same_id j (record { sender = a; seq = k }) ≡ false = at (nat_eq j.sender a) refl in
    let r : find j (posted a c (suc k) ls) ≡ None = find_posted_none a c (suc k) ls j (λ e. let t : j.seq < k = h e in omega arith) in rw (ne, r) refl
  where
    at : (w : Bool) → nat_eq j.sender a ≡ w → same_id j (record { sender = a; seq = k }) ≡ false
    at true e = let same : j.sender ≡ a = grind (arith, nat_tests) in let t : j.seq < k = h same in grind (arith, nat_tests)
    at false e = grind (arith, nat_tests)

pub slice_get_below : {X : Type 0} → (xs : List X) (k : ℕ) (x : X) → slice_get xs k ≡ Some x → k < length xs
slice_get_below [] k x e = absurd (cc)
slice_get_below (y ∷ xs) zero x e = omega arith
slice_get_below (y ∷ xs) (suc k) x e = let r : k < length xs = slice_get_below xs k x e in omega arith

slice_get_append_past : {X : Type 0} → (xs ys : List X) (k : ℕ) → slice_get xs k ≡ None → (d : ℕ) × (k ≡ length xs + d) × (slice_get (xs ++ ys) k ≡ slice_get ys d)
slice_get_append_past [] ys k e = (k, omega arith, refl)
slice_get_append_past (x ∷ xs) ys zero e = absurd (cc)
slice_get_append_past {X} (x ∷ xs) ys (suc k) e = let r : (d : ℕ) × (k ≡ length xs + d) × (slice_get (xs ++ ys) k ≡ slice_get ys d) = slice_get_append_past xs ys k e in (r.0, omega (arith, r.1), r.2)

-- what was not sent is in no taken list
not_taken : {A K : Type 0} → (s : Histories A K) (a : ℕ) (j : MsgId) (ms : List (Msg K)) → EachTaken s a ms → sent_as s j ≡ None → has_id j ms ≡ false
not_taken s a j [] h e = refl
not_taken {A} {K} s a j (m ∷ ms) h e = at (same_id j m.id) refl (not_taken s a j ms h.3 e)
  where
    at : (w : Bool) → same_id j m.id ≡ w → has_id j ms ≡ false → cond w true (has_id j ms) ≡ false
    at true is r = let same : j ≡ m.id = same_id_equal j m.id is in let there : sent_as s j ≡ Some m = subst (λ (z : MsgId). sent_as s z ≡ Some m) (sym same) h.0 in absurd (cc)
    at false is r = r

has_id_append : {K : Type 0} → (j : MsgId) (ms : List (Msg K)) (m : Msg K) → has_id j (ms ++ m ∷ []) ≡ cond (same_id j m.id) true (has_id j ms)
has_id_append {K} j [] m = refl
has_id_append {K} j (x ∷ ms) m = at (same_id j x.id) (same_id j m.id) (has_id_append j ms m)
  where
    at : (w y : Bool) → has_id j (ms ++ m ∷ []) ≡ cond y true (has_id j ms) → cond w true (has_id j (ms ++ m ∷ [])) ≡ cond y true (cond w true (has_id j ms))
    at true true h = refl
    at true false h = refl
    at false y h = h

abbrev pub is_of : {K : Type 0} → MsgId → Option (Msg K) → Bool
is_of j None = false
is_of j (Some m) = same_id j m.id

-- the taken lists after a move, at a message that was sent before
taken_before_move : {A K N : Type 0} → (r : Rules A K N) (s : Histories A K) (a : ℕ) (v : Option (Msg K)) (p : History A K) (e : Event N) → MoveMade r a (s a) v p e → IsTakeable s a v → (j : MsgId) (m : Msg K) → sent_as s j ≡ Some m →
    has_id j (put s a p m.to).taken ≡ cond (is_of j v) true (has_id j (s m.to).taken)
taken_before_move {A} {K} {N} r s a v p e x f j m is = at (nat_eq a m.to) refl v x f
  where
    at : (w : Bool) → nat_eq a m.to ≡ w → (v : Option (Msg K)) → MoveMade r a (s a) v p e → IsTakeable s a v → has_id j (cond w p (s m.to)).taken ≡ cond (is_of j v) true (has_id j (s m.to).taken)
    at true to None x f = let same : a ≡ m.to = grind (arith, nat_tests) in let took : (s a).taken ≡ p.taken = ap (λ (z : History A K). z.taken) x.2 in
        rw (← took) (ap (λ (b : ℕ). has_id j (s b).taken) same)
    at true to (Some n) x f = let same : a ≡ m.to = grind (arith, nat_tests) in let took : (s a).taken ++ n ∷ [] ≡ p.taken = ap (λ (z : History A K). z.taken) x.2 in
        subst (λ (z : List (Msg K)). has_id j z ≡ cond (same_id j n.id) true (has_id j (s m.to).taken)) took (has_id_append j (s a).taken n ∙ ap (λ (b : ℕ). cond (same_id j n.id) true (has_id j (s b).taken)) same)
    at false to None x f = refl
    at false to (Some n) x f = other (same_id j n.id) refl
      where
        other : (y : Bool) → same_id j n.id ≡ y → has_id j (s m.to).taken ≡ cond y true (has_id j (s m.to).taken)
        other true e =
            let same : j ≡ n.id = same_id_equal j n.id e in
            let there : sent_as s j ≡ Some n = subst (λ (z : MsgId). sent_as s z ≡ Some n) (sym same) f.0 in
            let k : Some m ≡ Some n = sym is ∙ there in
            let one : m ≡ n = cc in
            let t : m.to ≡ a = ap (λ (z : Msg K). z.to) one ∙ f.2 in absurd (grind (arith, nat_tests))
        other false e = refl

-- a message that was not sent before is not taken
not_taken_after : {A K N : Type 0} → (r : Rules A K N) (s : Histories A K) (a : ℕ) (v : Option (Msg K)) (p : History A K) (e : Event N) → MoveMade r a (s a) v p e → IsTakeable s a v → Consistent s → (j : MsgId) → sent_as s j ≡ None →
    (b : ℕ) → has_id j (put s a p b).taken ≡ false
not_taken_after {A} {K} {N} r s a v p e x f all j is b = at (nat_eq a b) v x f
  where
    at : (w : Bool) (v : Option (Msg K)) → MoveMade r a (s a) v p e → IsTakeable s a v → has_id j (cond w p (s b)).taken ≡ false
    at false v x f = not_taken s b j (s b).taken (all b) is
    at true None x f = subst (λ (z : History A K). has_id j z.taken ≡ false) x.2 (not_taken s a j (s a).taken (all a) is)
    at true (Some n) x f = subst (λ (z : History A K). has_id j z.taken ≡ false) x.2 (has_id_push j (s a).taken n (not_taken s a j (s a).taken (all a) is) (other (same_id j n.id) refl))
      where
        other : (y : Bool) → same_id j n.id ≡ y → y ≡ false
        other true e = let there : sent_as s j ≡ Some n = subst (λ (z : MsgId). sent_as s z ≡ Some n) (sym (same_id_equal j n.id e)) f.0 in absurd (cc)
        other false e = refl

joins : {X : Type 0} → (y z : Bool) (m : X) → cond (cond y true z) None (Some m) ≡ or_else (cond y None (cond z None (Some m))) None
joins true z m = refl
joins false true m = refl
joins false false m = refl

none_else : {X : Type 0} → (y : Bool) (o : Option X) → o ≡ or_else (cond y None None) o
none_else true o = refl
none_else false o = refl

unless_taken_free : {A K : Type 0} → (s : Histories A K) (j : MsgId) → ((b : ℕ) → has_id j (s b).taken ≡ false) → (o : Option (Msg K)) → unless_taken s j o ≡ o
unless_taken_free s j h None = refl
unless_taken_free s j h (Some m) = let t : has_id j (s m.to).taken ≡ false = h m.to in rw t refl

-- what is in flight after a move
pub in_flight_after : {A K N : Type 0} → (r : Rules A K N) (s : Histories A K) (a : ℕ) (v : Option (Msg K)) (p : History A K) (e : Event N) → (x : MoveMade r a (s a) v p e) → IsTakeable s a v → IsSound s → (j : MsgId) →
    in_flight (put s a p) j ≡ or_else (cond (is_of j v) None (in_flight s j)) (find j (posted a (clock_after (s a).clock v) (length (s a).sent) x.0.letters))
in_flight_after {A} {K} {N} r s a v p e x f sound j = go (sent_as s j) refl
  where
    ps : List (Msg K)
    ps = posted a (clock_after (s a).clock v) (length (s a).sent) x.0.letters

    sent : p.sent ≡ (s a).sent ++ ps
    sent = ap (λ (z : History A K). z.sent) (sym x.2)

    new : slice_get (s j.sender).sent j.seq ≡ None → (w : Bool) → nat_eq a j.sender ≡ w → slice_get (cond w p (s j.sender)).sent j.seq ≡ find j ps
    new is true t =
        let same : j.sender ≡ a = grind (arith, nat_tests) in
        let is' : slice_get (s a).sent j.seq ≡ None = subst (λ (b : ℕ). slice_get (s b).sent j.seq ≡ None) same is in
        let d : (d : ℕ) × (j.seq ≡ length (s a).sent + d) × (slice_get ((s a).sent ++ ps) j.seq ≡ slice_get ps d) = slice_get_append_past (s a).sent ps j.seq is' in
        let g : slice_get p.sent j.seq ≡ slice_get ((s a).sent ++ ps) j.seq = ap (λ (z : List (Msg K)). slice_get z j.seq) sent in
        g ∙ (d.2 ∙ sym (find_posted a (clock_after (s a).clock v) (length (s a).sent) x.0.letters j d.0 same d.1))
    new is false t = is ∙ sym (find_posted_none a (clock_after (s a).clock v) (length (s a).sent) x.0.letters j (λ same. absurd (grind (arith, nat_tests))))

    go : (o : Option (Msg K)) → sent_as s j ≡ o → in_flight (put s a p) j ≡ or_else (cond (is_of j v) None (in_flight s j)) (find j ps)
    go (Some m) is =
        let there : sent_as (put s a p) j ≡ Some m = sent_stays_put s a p ps sent j m is in
        let none : find j ps ≡ None = find_posted_none a (clock_after (s a).clock v) (length (s a).sent) x.0.letters j (λ same. slice_get_below (s a).sent j.seq m (subst (λ (b : ℕ). slice_get (s b).sent j.seq ≡ Some m) same is)) in
        let left : in_flight (put s a p) j ≡ cond (has_id j (put s a p m.to).taken) None (Some m) = ap (λ (o : Option (Msg K)). unless_taken (put s a p) j o) there in
        let took : has_id j (put s a p m.to).taken ≡ cond (is_of j v) true (has_id j (s m.to).taken) = taken_before_move r s a v p e x f j m is in
        let right : in_flight s j ≡ cond (has_id j (s m.to).taken) None (Some m) = ap (λ (o : Option (Msg K)). unless_taken s j o) is in
        left ∙ (ap (λ (y : Bool). cond y None (Some m)) took ∙ (joins (is_of j v) (has_id j (s m.to).taken) m ∙ ap₂ (λ (o q : Option (Msg K)). or_else (cond (is_of j v) None o) q) (sym right) (sym none)))
    go None is =
        let left : sent_as (put s a p) j ≡ find j ps = new is (nat_eq a j.sender) refl in
        let right : in_flight s j ≡ None = ap (λ (o : Option (Msg K)). unless_taken s j o) is in
        ap (λ (o : Option (Msg K)). unless_taken (put s a p) j o) left ∙ (unless_taken_free (put s a p) j (not_taken_after r s a v p e x f sound.consistent j is) (find j ps) ∙ (none_else (is_of j v) (find j ps) ∙ ap (λ (o : Option (Msg K)). or_else (cond (is_of j v) None o) (find j ps)) (sym right)))

-- ------------------------------------------------------------------------------ steps of worlds and of histories

find_flight_after : {K : Type 0} → (v : Option (Msg K)) (j : MsgId) (ms : List (Msg K)) → find j (flight_after v ms) ≡ cond (is_of j v) None (find j ms)
find_flight_after None j ms = refl
find_flight_after (Some m) j ms = find_without m.id j ms

length_posted : {K : Type 0} → (a c k : ℕ) (ls : List (Letter K)) → length (posted a c k ls) ≡ length ls
length_posted a c k [] = refl
length_posted a c k (l ∷ ls) = ap (λ (z : ℕ). suc z) (length_posted a c (suc k) ls)

distinct_flight_after : {K : Type 0} → (v : Option (Msg K)) (ms : List (Msg K)) → Distinct ms → Distinct (flight_after v ms)
distinct_flight_after None ms h = h
distinct_flight_after (Some m) ms h = distinct_without m.id ms h

in_place_flight_after : {K : Type 0} → (v : Option (Msg K)) (ms : List (Msg K)) → InPlace ms → InPlace (flight_after v ms)
in_place_flight_after None ms h = h
in_place_flight_after (Some m) ms h = in_place_without m.id ms h

distinct_posted : {K : Type 0} → (a c k : ℕ) (ls : List (Letter K)) → Distinct (posted a c k ls)
distinct_posted a c k [] = tt
distinct_posted a c k (l ∷ ls) = (find_posted_none a c (suc k) ls (record { sender = a; seq = k }) (λ e. omega arith), distinct_posted a c (suc k) ls)

-- what is in flight was sent, so no posted message has its id
apart_posted : {A K : Type 0} → (s : Histories A K) (a c : ℕ) (v : Option (Msg K)) (ls : List (Letter K)) (j : MsgId) (m : Msg K) → cond (is_of j v) None (in_flight s j) ≡ Some m → find j (posted a c (length (s a).sent) ls) ≡ None
apart_posted {A} {K} s a c v ls j m e = find_posted_none a c (length (s a).sent) ls j (λ same. slice_get_below (s a).sent j.seq m (subst (λ (b : ℕ). slice_get (s b).sent j.seq ≡ Some m) same (unless_taken_is s j (sent_as s j) m (fly (is_of j v) e)).0))
  where
    fly : (w : Bool) → cond w None (in_flight s j) ≡ Some m → in_flight s j ≡ Some m
    fly true e = absurd (cc)
    fly false e = e

-- once sent and no more in flight, a message never is again
pub taken_stays : {A K N : Type 0} → (r : Rules A K N) (s : Histories A K) (c : Choice) (u : Histories A K) (e : Event N) (i : MsgId) (m : Msg K) → IsSound s → step r s c ≡ Some (u, e) → sent_as s i ≡ Some m → in_flight s i ≡ None → in_flight u i ≡ None
taken_stays {A} {K} {N} r s c u e i m sound h is none =
    let x : Stepped r s c u e = stepped r s c u e sound.own h in
    let y : MoveMade r x.actor (s x.actor) x.move x.history e = move_made r x.actor (s x.actor) x.move x.history e x.makes in
    let f : in_flight (put s x.actor x.history) i ≡ or_else (cond (is_of i x.move) None (in_flight s i)) (find i (posted x.actor (clock_after (s x.actor).clock x.move) (length (s x.actor).sent) y.0.letters)) = in_flight_after r s x.actor x.move x.history e y x.flies sound i in
    let p : find i (posted x.actor (clock_after (s x.actor).clock x.move) (length (s x.actor).sent) y.0.letters) ≡ None = find_posted_none x.actor (clock_after (s x.actor).clock x.move) (length (s x.actor).sent) y.0.letters i (λ same. slice_get_below (s x.actor).sent i.seq m (subst (λ (b : ℕ). slice_get (s b).sent i.seq ≡ Some m) same is)) in
    let g : cond (is_of i x.move) None (in_flight s i) ≡ None = off (is_of i x.move) none in
    ap (λ (z : Histories A K). in_flight z i) (sym x.state) ∙ (f ∙ ap₂ (λ (o q : Option (Msg K)). or_else o q) g p)
  where
    off : (w : Bool) → in_flight s i ≡ None → cond w None (in_flight s i) ≡ None
    off true h = refl
    off false h = h

-- after one move of a seat and of its history, the world shows the histories
pub shows_after : {A K N : Type 0} → (r : Rules A K N) (w : World A K) (s : Histories A K) (a : ℕ) (v : Option (Msg K)) (p : History A K) (e : Event N) → (x : MoveMade r a (s a) v p e) → IsTakeable s a v → IsSound s → Shows w s →
    a < length w.seats → Shows (world_after w a (seat_of (s a)) v x.0) (put s a p)
shows_after {A} {K} {N} r w s a v p e x f sound sh lt = record { seat = λ b y is. seat b (nat_eq a b) refl y (sym (slice_get_set w.seats a b (seat_after (seat_of (s a)) v x.0) lt) ∙ is); flight = flight; distinct = distinct; in_place = in_place }
  where
    here : seat_of p ≡ seat_after (seat_of (s a)) v x.0
    here =
        let len : length ((s a).sent ++ posted a (clock_after (s a).clock v) (length (s a).sent) x.0.letters) ≡ length (s a).sent + length x.0.letters =
        rw (length-append, length_posted a (clock_after (s a).clock v) (length (s a).sent) x.0.letters) refl in
        ap (λ (z : History A K). seat_of z) (sym x.2) ∙ ap (λ (z : ℕ). record { local = x.0.local; clock = clock_after (s a).clock v; next = z }) len

    seat : (b : ℕ) (t : Bool) → nat_eq a b ≡ t → (y : Seat A) → cond t (Some (seat_after (seat_of (s a)) v x.0)) (slice_get w.seats b) ≡ Some y → seat_of (cond t p (s b)) ≡ y
    seat b true t y is = let k : seat_after (seat_of (s a)) v x.0 ≡ y = cc in here ∙ k
    seat b false t y is = sh.seat b y is

    ps : List (Msg K)
    ps = posted a (clock_after (s a).clock v) (length (s a).sent) x.0.letters

    apart : (j : MsgId) (m : Msg K) → find j (flight_after v w.flight) ≡ Some m → find j ps ≡ None
    apart j m e = apart_posted s a (clock_after (s a).clock v) v x.0.letters j m (sym (find_flight_after v j w.flight ∙ ap (λ (o : Option (Msg K)). cond (is_of j v) None o) (sh.flight j)) ∙ e)

    ids : Distinct ps
    ids = distinct_posted a (clock_after (s a).clock v) (length (s a).sent) x.0.letters

    distinct : Distinct (placed_all (flight_after v w.flight) ps)
    distinct = distinct_insert_all (flight_after v w.flight) ps (distinct_flight_after v w.flight sh.distinct) ids apart

    in_place : InPlace (placed_all (flight_after v w.flight) ps)
    in_place = in_place_all (flight_after v w.flight) ps (in_place_flight_after v w.flight sh.in_place) ids apart

    flight : (j : MsgId) → find j (world_after w a (seat_of (s a)) v x.0).flight ≡ in_flight (put s a p) j
    flight j =
        let ps : List (Msg K) = posted a (clock_after (s a).clock v) (length (s a).sent) x.0.letters in
        find_insert_all j (flight_after v w.flight) ps ids apart ∙ (ap (λ (o : Option (Msg K)). or_else o (find j ps)) (find_flight_after v j w.flight ∙ ap (λ (o : Option (Msg K)). cond (is_of j v) None o) (sh.flight j)) ∙ sym (in_flight_after r s a v p e x f sound j))

pub slice_get_some : {X : Type 0} → (xs : List X) (k : ℕ) → k < length xs → (x : X) × (slice_get xs k ≡ Some x)
slice_get_some [] k lt = absurd (omega arith)
slice_get_some (x ∷ xs) zero lt = (x, refl)
slice_get_some (x ∷ xs) (suc k) lt = slice_get_some xs k (omega arith)

-- a move of a seat, opened
pub record WorldMoved {A K N : Type 0} (r : Rules A K N) (w : World A K) (s : Histories A K) (a : ℕ) (v : Option (Msg K)) (u : World A K) (e : Event N) : Type 0 where
  pub result : Outcome A K N
  pub inside : a < length w.seats
  pub is : outcome_of r a (s a).local v ≡ Some result
  pub world : world_after w a (seat_of (s a)) v result ≡ u
  pub event : event_of a (s a).clock v result ≡ e

world_move_is : {A K N : Type 0} → (r : Rules A K N) (w : World A K) (s : Histories A K) (a : ℕ) (v : Option (Msg K)) (u : World A K) (e : Event N) → Shows w s → world_move r w a v (slice_get w.seats a) ≡ Some (u, e) → WorldMoved r w s a v u e
world_move_is {A} {K} {N} r w s a v u e sh h = go (slice_get w.seats a) refl h
  where
    open_it : a < length w.seats → (o : Option (Outcome A K N)) → outcome_of r a (s a).local v ≡ o → world_move_with w a (seat_of (s a)) v o ≡ Some (u, e) → WorldMoved r w s a v u e
    open_it lt None is h = absurd (cc)
    open_it lt (Some o) is h =
        let k : Some (world_after w a (seat_of (s a)) v o, event_of a (s a).clock v o) ≡ Some (u, e) = h in
        let j : (world_after w a (seat_of (s a)) v o, event_of a (s a).clock v o) ≡ (u, e) = cc in
        record { result = o; inside = lt; is = is; world = ap (λ (z : World A K × Event N). z.0) j; event = ap (λ (z : World A K × Event N). z.1) j }

    go : (x : Option (Seat A)) → slice_get w.seats a ≡ x → world_move r w a v x ≡ Some (u, e) → WorldMoved r w s a v u e
    go None is h = absurd (cc)
    go (Some x) is h = open_it (slice_get_below w.seats a x is) (outcome_of r a (s a).local v) refl (subst (λ (z : Seat A). world_move r w a v (Some z) ≡ Some (u, e)) (sym (sh.seat a x is)) h)

-- the message of a take, by its own id
takeable_of : {A K : Type 0} → (s : Histories A K) (a : ℕ) (i : MsgId) (m : Msg K) → ((a : ℕ) → IsNumbered a (s a)) → in_flight s i ≡ Some m → nat_eq m.to a ≡ true → IsTakeable s a (Some m)
takeable_of {A} {K} s a i m own is to =
    let f : (sent_as s i ≡ Some m) × (has_id i (s m.to).taken ≡ false) = unless_taken_is s i (sent_as s i) m is in
    let id : i ≡ m.id = sym (own i.sender i.seq m f.0).0 in
    (subst (λ (z : MsgId). sent_as s z ≡ Some m) id f.0, subst (λ (z : MsgId). has_id z (s m.to).taken ≡ false) id f.1, grind (arith, nat_tests))

-- what a step of a world is of its histories
pub record ShownStep {A K N : Type 0} (r : Rules A K N) (w : World A K) (s : Histories A K) (c : Choice) (u : World A K) (e : Event N) : Type 0 where
  pub state : Histories A K
  pub steps : step r s c ≡ Some (state, e)
  pub shows : Shows u state
  pub sound : IsSound state
  pub inside : e.stamp.actor < length w.seats
  pub size : length u.seats ≡ length w.seats

seats_stay : {X : Type 0} → (xs : List X) (a : ℕ) (x : X) → length (slice_set xs a x) ≡ length xs
seats_stay xs a x = grind (arith, common_steps)

from_world_move : {A K N : Type 0} → (r : Rules A K N) (w : World A K) (s : Histories A K) (a : ℕ) (v : Option (Msg K)) (u : World A K) (e : Event N) → Shows w s → IsSound s → IsTakeable s a v → WorldMoved r w s a v u e →
    (p : History A K) × (move_of r a (s a) v ≡ Some (p, e)) × Shows u (put s a p) × IsSound (put s a p) × (e.stamp.actor < length w.seats) × (length u.seats ≡ length w.seats)
from_world_move {A} {K} {N} r w s a v u e sh sound f g =
    let p : History A K = history_after a (s a) v g.result in
    let x : MoveMade r a (s a) v p e = (g.result, g.is, refl, g.event) in
    let pair : Event N → Option (History A K × Event N) = λ z. Some (p, z) in (
      p,
      ap (λ (o : Option (Outcome A K N)). move_with a (s a) v o) g.is ∙ ap pair g.event,
      subst (λ (z : World A K). Shows z (put s a p)) g.world (shows_after r w s a v p e x f sound sh g.inside),
      sound_put r s a v p e x f sound,
      let who : e.stamp.actor ≡ a = event_actor r a (s a) v p e x in let lt : a < length w.seats = g.inside in omega arith,
      subst (λ (z : World A K). length z.seats ≡ length w.seats) g.world (seats_stay w.seats a (seat_after (seat_of (s a)) v g.result)),
    )

pub shown_step : {A K N : Type 0} → (r : Rules A K N) (w : World A K) (s : Histories A K) (c : Choice) (u : World A K) (e : Event N) → Shows w s → IsSound s → world_step r w c ≡ Some (u, e) → ShownStep r w s c u e
shown_step {A} {K} {N} r w s (Act a) u e sh sound h =
    let y : (p : History A K) × (move_of r a (s a) None ≡ Some (p, e)) × Shows u (put s a p) × IsSound (put s a p) × (e.stamp.actor < length w.seats) × (length u.seats ≡ length w.seats) = from_world_move r w s a None u e sh sound tt (world_move_is r w s a None u e sh h) in
    record { state = put s a y.0; steps = ap (λ (o : Option (History A K × Event N)). step_with s a o) y.1; shows = y.2; sound = y.3; inside = y.4; size = y.5 }
shown_step {A} {K} {N} r w s (Take a i) u e sh sound h = go (in_flight s i) refl (subst (λ (o : Option (Msg K)). world_take r w a o ≡ Some (u, e)) (sh.flight i) h)
  where
    make : (m : Msg K) → in_flight s i ≡ Some m → nat_eq m.to a ≡ true → IsTakeable s a (Some m) → world_move r w a (Some m) (slice_get w.seats a) ≡ Some (u, e) → ShownStep r w s (Take a i) u e
    make m is to f h =
        let y : (p : History A K) × (move_of r a (s a) (Some m) ≡ Some (p, e)) × Shows u (put s a p) × IsSound (put s a p) × (e.stamp.actor < length w.seats) × (length u.seats ≡ length w.seats) = from_world_move r w s a (Some m) u e sh sound f (world_move_is r w s a (Some m) u e sh h) in
        let t : step r s (Take a i) ≡ step_with s a (move_of r a (s a) (Some m)) = ap (λ (o : Option (Msg K)). step_taking r s a o) is ∙ ap (λ (b : Bool). cond b (step_with s a (move_of r a (s a) (Some m))) None) to in
        record { state = put s a y.0; steps = t ∙ ap (λ (o : Option (History A K × Event N)). step_with s a o) y.1; shows = y.2; sound = y.3; inside = y.4; size = y.5 }

    go : (o : Option (Msg K)) → in_flight s i ≡ o → world_take r w a o ≡ Some (u, e) → ShownStep r w s (Take a i) u e
    go None is h = absurd (cc)
    go (Some m) is h = at (nat_eq m.to a) refl h
      where
        at : (b : Bool) → nat_eq m.to a ≡ b → cond b (world_move r w a (Some m) (slice_get w.seats a)) None ≡ Some (u, e) → ShownStep r w s (Take a i) u e
        at true to h = make m is to (takeable_of s a i m sound.own is to) h
        at false to h = absurd (cc)

-- each run of a world is one of its histories
pub record ShownRun {A K N : Type 0} (r : Rules A K N) (w : World A K) (s : Histories A K) (cs : List Choice) (u : World A K) (es : List (Event N)) : Type 0 where
  pub state : Histories A K
  pub runs : Run r s cs state es
  pub shows : Shows u state
  pub sound : IsSound state
  pub inside : Inside (length w.seats) es
  pub size : length u.seats ≡ length w.seats

pub shown_run : {A K N : Type 0} → (r : Rules A K N) (cs : List Choice) (w : World A K) (s : Histories A K) (u : World A K) (es : List (Event N)) → Shows w s → IsSound s → WorldRun r w cs u es → ShownRun r w s cs u es
shown_run {A} {K} {N} r [] w s u es sh sound h = record { state = s; runs = (refl, h.1); shows = subst (λ (z : World A K). Shows z s) h.0 sh; sound = sound; inside = rw h.1 tt; size = ap (λ (z : World A K). length z.seats) (sym h.0) }
shown_run {A} {K} {N} r (c ∷ cs) w s u es sh sound h =
    let x : ShownStep r w s c h.0 h.1 = shown_step r w s c h.0 h.1 sh sound h.3 in
    let y : ShownRun r h.0 x.state cs u h.2 = shown_run r cs h.0 x.state u h.2 x.shows x.sound h.5 in
    record { state = y.state; runs = (x.state, h.1, h.2, x.steps, h.4, y.runs); shows = y.shows; sound = y.sound; inside = rw h.4 (x.inside, subst (λ (z : ℕ). Inside z h.2) x.size y.inside); size = y.size ∙ x.size }

-- ------------------------------------------------------------------------------ and back

pub record DataStep {A K N : Type 0} (r : Rules A K N) (w : World A K) (c : Choice) (t : Histories A K) (e : Event N) : Type 0 where
  pub world : World A K
  pub steps : world_step r w c ≡ Some (world, e)
  pub shows : Shows world t
  pub size : length world.seats ≡ length w.seats

data_move : {A K N : Type 0} → (r : Rules A K N) (w : World A K) (s : Histories A K) (a : ℕ) (v : Option (Msg K)) (p : History A K) (e : Event N) → Shows w s → IsSound s → a < length w.seats → MoveMade r a (s a) v p e → IsTakeable s a v →
    (u : World A K) × (world_move r w a v (slice_get w.seats a) ≡ Some (u, e)) × Shows u (put s a p) × (length u.seats ≡ length w.seats)
data_move {A} {K} {N} r w s a v p e sh sound lt x f =
    let y : (y : Seat A) × (slice_get w.seats a ≡ Some y) = slice_get_some w.seats a lt in
    let is : slice_get w.seats a ≡ Some (seat_of (s a)) = y.1 ∙ ap (λ (z : Seat A). Some z) (sym (sh.seat a y.0 y.1)) in
    let u : World A K = world_after w a (seat_of (s a)) v x.0 in
    let pair : Event N → Option (World A K × Event N) = λ z. Some (u, z) in
    (u, ap (λ (o : Option (Seat A)). world_move r w a v o) is ∙ (ap (λ (o : Option (Outcome A K N)). world_move_with w a (seat_of (s a)) v o) x.1 ∙ ap pair x.3), shows_after r w s a v p e x f sound sh lt, size)
  where
    size : length (slice_set w.seats a (seat_after (seat_of (s a)) v x.0)) ≡ length w.seats
    size = grind (arith, common_steps)

pub data_step : {A K N : Type 0} → (r : Rules A K N) (w : World A K) (s : Histories A K) (c : Choice) (t : Histories A K) (e : Event N) → Shows w s → IsSound s → e.stamp.actor < length w.seats → step r s c ≡ Some (t, e) → DataStep r w c t e
data_step {A} {K} {N} r w s c t e sh sound lt h = go (stepped r s c t e sound.own h)
  where
    go : Stepped r s c t e → DataStep r w c t e
    go x =
        let m : MoveMade r x.actor (s x.actor) x.move x.history e = move_made r x.actor (s x.actor) x.move x.history e x.makes in
        let who : e.stamp.actor ≡ x.actor = event_actor r x.actor (s x.actor) x.move x.history e m in
        let y : (u : World A K) × (world_move r w x.actor x.move (slice_get w.seats x.actor) ≡ Some (u, e)) × Shows u (put s x.actor x.history) × (length u.seats ≡ length w.seats) =
        data_move r w s x.actor x.move x.history e sh sound (omega (arith, who, lt)) m x.flies in
        record { world = y.0; steps = subst (λ (z : Choice). world_step r w z ≡ Some (y.0, e)) x.choice (first x.actor x.move x.flies ∙ y.1); shows = subst (λ (z : Histories A K). Shows y.0 z) x.state y.2; size = y.3 }
      where
        first : (a : ℕ) (v : Option (Msg K)) → IsTakeable s a v → world_step r w (choice_of a v) ≡ world_move r w a v (slice_get w.seats a)
        first a None f = refl
        first a (Some m) f =
            let fl : in_flight s m.id ≡ Some m = ap (λ (o : Option (Msg K)). unless_taken s m.id o) f.0 ∙ ap (λ (b : Bool). cond b None (Some m)) f.1 in
            let to : nat_eq m.to a ≡ true = let same : m.to ≡ a = f.2 in grind (arith, nat_tests) in
            ap (λ (o : Option (Msg K)). world_take r w a o) (sh.flight m.id ∙ fl) ∙ ap (λ (b : Bool). cond b (world_move r w a (Some m) (slice_get w.seats a)) None) to

pub record DataRun {A K N : Type 0} (r : Rules A K N) (w : World A K) (cs : List Choice) (t : Histories A K) (es : List (Event N)) : Type 0 where
  pub world : World A K
  pub runs : WorldRun r w cs world es
  pub shows : Shows world t
  pub size : length world.seats ≡ length w.seats

pub data_run : {A K N : Type 0} → (r : Rules A K N) (cs : List Choice) (w : World A K) (s t : Histories A K) (es : List (Event N)) → Shows w s → IsSound s → Inside (length w.seats) es → Run r s cs t es → DataRun r w cs t es
data_run {A} {K} {N} r [] w s t es sh sound inside h = record { world = w; runs = (refl, h.1); shows = subst (λ (z : Histories A K). Shows w z) h.0 sh; size = refl }
data_run {A} {K} {N} r (c ∷ cs) w s t es sh sound inside h =
    let i : Inside (length w.seats) (h.1 ∷ h.2) = subst (λ (z : List (Event N)). Inside (length w.seats) z) h.4 inside in
    let x : DataStep r w c h.0 h.1 = data_step r w s c h.0 h.1 sh sound i.0 h.3 in
    let y : DataRun r x.world cs t h.2 = data_run r cs x.world h.0 t h.2 x.shows (sound_step r s c h.0 h.1 sound h.3) (subst (λ (z : ℕ). Inside z h.2) (sym x.size) i.1) h.5 in
    record { world = y.world; runs = (x.world, h.1, h.2, x.steps, h.4, y.runs); shows = y.shows; size = y.size ∙ x.size }
