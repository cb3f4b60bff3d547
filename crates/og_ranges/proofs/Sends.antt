-- Numbers of messages: all actors together have sent no more than there were events and messages in flight.
use Rattle.std.proofs.Common.{◌≡◌, ◌+◌, ◌≤◌, ◌<◌, ℕ, zero, suc, Bool, true, false, cond, Option, None, Some, refl, sym, ap, subst, ◌∙◌, List, [], ◌∷◌, length, slice_get, slice_set, arith}
use Rattle.std.specs.List.{AllByRecursion}
use Rattle.og_runs.specs.declared.Letter.{Letter}
use Rattle.og_runs.specs.declared.Msg.{Msg}
use Rattle.og_runs.specs.declared.MsgId.{MsgId}
use Rattle.og_runs.specs.declared.Seat.{Seat}
use Rattle.og_runs.specs.Runs.{Outcome, same_id, posted, clock_after}
use Rattle.og_runs.specs.World.{World, find, without, precedes, placed, placed_all, flight_after, seat_after, world_after, Distinct}
use Rattle.og_runs.proofs.Placed.{same_id_equal}
use Rattle.og_runs.proofs.Shown.{slice_get_below}

-- ---- how many messages all actors have sent

abbrev pub sent_by : {A : Type 0} → List (Seat A) → ℕ
sent_by [] = 0
sent_by (x ∷ xs) = x.next + sent_by xs

-- one of them has sent no more
one_sent : {A : Type 0} → (xs : List (Seat A)) (a : ℕ) (x : Seat A) → slice_get xs a ≡ Some x → x.next ≤ sent_by xs
one_sent [] a x e = absurd (cc)
one_sent (z ∷ xs) zero x e = let same : z ≡ x = cc in subst (λ (y : Seat _). y.next ≤ z.next + sent_by xs) same (omega arith)
one_sent (z ∷ xs) (suc a) x e = let rest : x.next ≤ sent_by xs = one_sent xs a x e in omega arith

-- one seat changes
more_sent : {A : Type 0} → (xs : List (Seat A)) (a : ℕ) (x y : Seat A) → slice_get xs a ≡ Some x → sent_by (slice_set xs a y) + x.next ≡ sent_by xs + y.next
more_sent [] a x y e = absurd (cc)
more_sent {A} (z ∷ xs) zero x y e = let same : z ≡ x = cc in subst (λ (u : Seat A). y.next + sent_by xs + u.next ≡ z.next + sent_by xs + y.next) same (omega arith)
more_sent (z ∷ xs) (suc a) x y e = let rest : sent_by (slice_set xs a y) + x.next ≡ sent_by xs + y.next = more_sent xs a x y e in omega arith

size_stays : {X : Type 0} → (xs : List X) (a : ℕ) (x : X) → length (slice_set xs a x) ≡ length xs
size_stays [] a x = refl
size_stays (z ∷ xs) zero x = refl
size_stays (z ∷ xs) (suc a) x = ap (λ (n : ℕ). suc n) (size_stays xs a x)

-- ---- the messages in flight

-- of these actors, and one of so many that were sent
pub record IsSent {K : Type 0} (n t : ℕ) (m : Msg K) : Type 0 where
  pub sender : m.id.sender < n
  pub number : m.id.seq < t

abbrev pub AreSent : {K : Type 0} → ℕ → ℕ → List (Msg K) → Type 0
AreSent n t ms = AllByRecursion (IsSent n t) ms

more : {K : Type 0} → (n s t : ℕ) (ms : List (Msg K)) → s ≤ t → AreSent n s ms → AreSent n t ms
more n s t [] le sent = tt
more n s t (m ∷ ms) le sent = (record { sender = sent.0.sender; number = let below : m.id.seq < s = sent.0.number in omega arith }, more n s t ms le sent.1)

pub found_sent : {K : Type 0} → (n t : ℕ) (id : MsgId) (m : Msg K) (ms : List (Msg K)) → find id ms ≡ Some m → AreSent n t ms → IsSent n t m
found_sent n t id m [] e sent = absurd (cc)
found_sent {K} n t id m (x ∷ xs) e sent = by (same_id id x.id) e (λ f. found_sent n t id m xs f sent.1)
  where
    by : (b : Bool) → cond b (Some x) (find id xs) ≡ Some m → (find id xs ≡ Some m → IsSent n t m) → IsSent n t m
    by true f rest = let same : x ≡ m = cc in subst (IsSent n t) same sent.0
    by false f rest = rest f

left_sent : {K : Type 0} → (n t : ℕ) (id : MsgId) (ms : List (Msg K)) → AreSent n t ms → AreSent n t (without id ms)
left_sent n t id [] sent = tt
left_sent n t id (x ∷ xs) sent = by (same_id id x.id) (left_sent n t id xs sent.1)
  where
    by : (b : Bool) → AreSent n t (without id xs) → AreSent n t (cond b (without id xs) (x ∷ without id xs))
    by true h = h
    by false h = (sent.0, h)

placed_sent : {K : Type 0} → (n t : ℕ) (m : Msg K) (ms : List (Msg K)) → IsSent n t m → AreSent n t ms → AreSent n t (placed m ms)
placed_sent n t m [] h sent = (h, tt)
placed_sent n t m (x ∷ xs) h sent = by (precedes x m) (placed_sent n t m xs h sent.1)
  where
    by : (b : Bool) → AreSent n t (placed m xs) → AreSent n t (cond b (x ∷ placed m xs) (m ∷ x ∷ xs))
    by true rest = (sent.0, rest)
    by false rest = (h, sent)

posted_sent : {K : Type 0} → (n t a c k : ℕ) (letters : List (Letter K)) (ms : List (Msg K)) → a < n → k + length letters ≤ t → AreSent n t ms → AreSent n t (placed_all ms (posted a c k letters))
posted_sent n t a c k [] ms there low sent = sent
posted_sent {K} n t a c k (l ∷ ls) ms there low sent = posted_sent n t a c (suc k) ls (placed m ms) there (omega arith) (placed_sent n t m ms (record { sender = there; number = first }) sent)
  where
    m : Msg K
    m = record { id = record { sender = a; seq = k }; to = l.to; stamp = record { clock = c; actor = a }; kind = l.kind }

    first : k < t
    first = omega arith

after_sent : {K : Type 0} → (n t : ℕ) (v : Option (Msg K)) (ms : List (Msg K)) → AreSent n t ms → AreSent n t (flight_after v ms)
after_sent n t None ms sent = sent
after_sent n t (Some m) ms sent = left_sent n t m.id ms sent

-- ---- how many there are

one_placed : {K : Type 0} → (m : Msg K) (ms : List (Msg K)) → length (placed m ms) ≡ suc (length ms)
one_placed m [] = refl
one_placed m (x ∷ xs) = by (precedes x m) (one_placed m xs)
  where
    by : (b : Bool) → length (placed m xs) ≡ suc (length xs) → length (cond b (x ∷ placed m xs) (m ∷ x ∷ xs)) ≡ suc (suc (length xs))
    by true rest = ap (λ (n : ℕ). suc n) rest
    by false rest = refl

all_placed : {K : Type 0} → (a c k : ℕ) (letters : List (Letter K)) (ms : List (Msg K)) → length (placed_all ms (posted a c k letters)) ≡ length ms + length letters
all_placed a c k [] ms = omega arith
all_placed {K} a c k (l ∷ ls) ms =
    let rest : length (placed_all (placed m ms) (posted a c (suc k) ls)) ≡ length (placed m ms) + length ls = all_placed a c (suc k) ls (placed m ms) in
    let one : length (placed m ms) ≡ suc (length ms) = one_placed m ms in
    omega arith
  where
    m : Msg K
    m = record { id = record { sender = a; seq = k }; to = l.to; stamp = record { clock = c; actor = a }; kind = l.kind }

-- where there is none of the name, none is taken out
none_out : {K : Type 0} → (i : MsgId) (ms : List (Msg K)) → find i ms ≡ None → without i ms ≡ ms
none_out i [] e = refl
none_out {K} i (m ∷ ms) e = by (same_id i m.id) e (λ f. none_out i ms f)
  where
    by : (b : Bool) → cond b (Some m) (find i ms) ≡ None → (find i ms ≡ None → without i ms ≡ ms) → cond b (without i ms) (m ∷ without i ms) ≡ m ∷ ms
    by true f rest = absurd (cc)
    by false f rest = ap (λ (xs : List (Msg K)). m ∷ xs) (rest f)

-- and where the names differ, one at most
one_out : {K : Type 0} → (i : MsgId) (ms : List (Msg K)) → Distinct ms → length ms ≤ length (without i ms) + 1
one_out i [] distinct = omega arith
one_out {K} i (m ∷ ms) distinct = by (same_id i m.id) refl (one_out i ms distinct.1)
  where
    by : (b : Bool) → same_id i m.id ≡ b → length ms ≤ length (without i ms) + 1 → suc (length ms) ≤ length (cond b (without i ms) (m ∷ without i ms)) + 1
    by true same rest =
        let none : find i ms ≡ None = subst (λ (j : MsgId). find j ms ≡ None) (sym (same_id_equal i m.id same)) distinct.0 in
        let all : length (without i ms) ≡ length ms = ap (λ (xs : List (Msg K)). length xs) (none_out i ms none) in
        omega arith
    by false same rest = omega arith

left_count : {K : Type 0} → (v : Option (Msg K)) (ms : List (Msg K)) → Distinct ms → length ms ≤ length (flight_after v ms) + 1
left_count None ms distinct = omega arith
left_count (Some m) ms distinct = one_out m.id ms distinct

-- ---- an event

-- there are so many actors; they have sent no more than so many events and the messages in flight; and those are of them
pub record Sends {A K : Type 0} (n k : ℕ) (w : World A K) : Type 0 where
  pub size : length w.seats ≡ n
  pub few : sent_by w.seats ≤ k + length w.flight
  pub flight : AreSent n (sent_by w.seats) w.flight

pub moved_sends : {A K N : Type 0} → (n k : ℕ) (w : World A K) (a : ℕ) (x : Seat A) (v : Option (Msg K)) (o : Outcome A K N) → slice_get w.seats a ≡ Some x → Distinct w.flight → Sends n k w → Sends n (k + 1) (world_after w a x v o)
moved_sends {A} {K} {N} n k w a x v o there distinct sends = record {
  size = size_stays w.seats a (seat_after x v o) ∙ sends.size;
  few = count;
  flight = posted_sent n (sent_by seats) a (clock_after x.clock v) x.next o.letters (flight_after v w.flight) inside here (after_sent n (sent_by seats) v w.flight (more n (sent_by w.seats) (sent_by seats) w.flight grown sends.flight));
}
  where
    seats : List (Seat A)
    seats = slice_set w.seats a (seat_after x v o)

    inside : a < n
    inside = let below : a < length w.seats = slice_get_below w.seats a x there in let size : length w.seats ≡ n = sends.size in omega arith

    total : sent_by seats ≡ sent_by w.seats + length o.letters
    total = let more : sent_by seats + x.next ≡ sent_by w.seats + (x.next + length o.letters) = more_sent w.seats a x (seat_after x v o) there in omega arith

    grown : sent_by w.seats ≤ sent_by seats
    grown = let t : sent_by seats ≡ sent_by w.seats + length o.letters = total in omega arith

    here : x.next + length o.letters ≤ sent_by seats
    here = let t : sent_by seats ≡ sent_by w.seats + length o.letters = total in let one : x.next ≤ sent_by w.seats = one_sent w.seats a x there in omega arith

    count : sent_by seats ≤ k + 1 + length (placed_all (flight_after v w.flight) (posted a (clock_after x.clock v) x.next o.letters))
    count =
        let t : sent_by seats ≡ sent_by w.seats + length o.letters = total in
        let few : sent_by w.seats ≤ k + length w.flight = sends.few in
        let left : length w.flight ≤ length (flight_after v w.flight) + 1 = left_count v w.flight distinct in
        let all : length (placed_all (flight_after v w.flight) (posted a (clock_after x.clock v) x.next o.letters)) ≡ length (flight_after v w.flight) + length o.letters = all_placed a (clock_after x.clock v) x.next o.letters (flight_after v w.flight) in
        omega arith
