-- What is known once all logs are gathered and the queue is empty: the logs are consistent, and left are just the
-- messages that were sent and not taken.
use Rattle.std.proofs.Common.{◌≡◌, ◌≢◌, ℕ, zero, suc, ◌+◌, ◌<◌, ◌≤◌, Bool, true, false, cond, nat_eq, nat_lt, arith, refl, sym, subst, List, [], ◌∷◌, length, slice_get, Option, None, Some, ap}
use Rattle.std.proofs.Math.Path.{◌∙◌}
use Rattle.std.proofs.lemmas.Bool.Decides.{nat_tests}
use Rattle.atomic_table.specs.Seated.{TableId}
use Rattle.og_runs.specs.declared.MsgId.{MsgId}
use Rattle.og_runs.specs.declared.Msg.{Msg}
use Rattle.og_runs.specs.Runs.{Rules, has_id, same_id}
use Rattle.og_runs.specs.World.{find, Distinct}
use Rattle.og_runs.specs.Views.{View, ConsistentViews, TakenOnce, sent_list, taken_list}
use Rattle.og_runs.specs.Laws.{left_in_flight, unless_taken_in}
use Rattle.og_runs.proofs.Placed.{same_id_equal}
use Rattle.og_fabric.specs.declared.rule.Side.{Side}
use Rattle.og_fabric.specs.Sides.{Each, times, Place, in_queue, in_hand, in_taken, is_somewhere, is_there, Sides, sent_in, IsKept}
use Rattle.og_fabric.specs.Sides.Place.{Nowhere, Queue, Hand, Taken}
use Rattle.og_fabric.specs.Gathered.{Closed, InTurn, views_of, sides_of, closed_side, AreKept, AreLeft, first_has}
use Rattle.og_fabric.proofs.Outstanding.{once, none_there, times_less, times_first}

-- ------------------------------------------------------------------------------ a list of messages

not_found : {K : Type 0} → (i : MsgId) (ms : List (Msg K)) → times i ms ≡ 0 → find i ms ≡ None
not_found i [] e = refl
not_found {K} i (m ∷ ms) e = at (same_id i m.id) (not_found i ms) e
  where
    at : (w : Bool) → (times i ms ≡ 0 → find i ms ≡ None) → cond w (suc (times i ms)) (times i ms) ≡ 0 → cond w (Some m) (find i ms) ≡ None
    at true k e = absurd (omega (arith, e))
    at false k e = k e

-- a message of a list, and that the list has it
pub record IsFound {K : Type 0} (P : Msg K → Type 0) (i : MsgId) (ms : List (Msg K)) : Type 0 where
  pub message : Msg K
  pub found : find i ms ≡ Some message
  pub there : has_id i ms ≡ true
  pub name : message.id ≡ i
  pub holds : P message

found : {K : Type 0} → (P : Msg K → Type 0) (i : MsgId) (ms : List (Msg K)) → 1 ≤ times i ms → Each P ms → IsFound P i ms
found P i [] le e = absurd (omega (arith, le))
found {K} P i (m ∷ ms) le e = at (same_id i m.id) refl (λ le. found P i ms le e.1)
  where
    at : (w : Bool) → same_id i m.id ≡ w → (1 ≤ times i ms → IsFound P i ms) → IsFound P i (m ∷ ms)
    at true is rest = record {
      message = m;
      found = ap (λ (w : Bool). cond w (Some m) (find i ms)) is;
      there = ap (λ (w : Bool). cond w true (has_id i ms)) is;
      name = sym (same_id_equal i m.id is);
      holds = e.0;
    }
    at false is rest =
        let size : times i (m ∷ ms) ≡ times i ms = ap (λ (w : Bool). cond w (suc (times i ms)) (times i ms)) is in
        let r : IsFound P i ms = rest (omega (arith, le, size)) in
        record {
          message = r.message;
          found = ap (λ (w : Bool). cond w (Some m) (find i ms)) is ∙ r.found;
          there = ap (λ (w : Bool). cond w true (has_id i ms)) is ∙ r.there;
          name = r.name;
          holds = r.holds;
        }

distinct : {K : Type 0} → (ms : List (Msg K)) → ((i : MsgId) → times i ms ≤ 1) → Distinct ms
distinct [] one = tt
distinct {K} (m ∷ ms) one = (
  not_found m.id ms (let x : times m.id (m ∷ ms) ≡ suc (times m.id ms) = times_first m ms in let y : times m.id (m ∷ ms) ≤ 1 = one m.id in omega (arith, x, y)),
  distinct ms (λ i. let x : times i ms ≤ times i (m ∷ ms) = times_less i m ms in let y : times i (m ∷ ms) ≤ 1 = one i in omega (arith, x, y)),
)

at_most_once : (a : ℕ) (p : Place) → in_hand a p ≤ 1
at_most_once a Nowhere = omega arith
at_most_once a Queue = omega arith
at_most_once a (Hand b) = at (nat_eq a b)
  where
    at : (w : Bool) → cond w 1 0 ≤ 1
    at true = omega arith
    at false = omega arith
at_most_once a (Taken b) = omega arith

-- ------------------------------------------------------------------------------ the sides of all

-- a side and a posted log of one actor
abbrev Like : {K N : Type 0} → Side K → View K N → Type 0
Like g v = (g.sent ≡ v.sent) × (g.taken ≡ v.taken)

-- the side of the actor at place j, where the list begins with actor k
side_at : {K N : Type 0} → (s : Sides K) (t : TableId) (k : ℕ) (xs : List (Closed K N)) → InTurn t k xs → Each (λ h. s h.actor ≡ h) (sides_of xs) → (j a : ℕ) (v : View K N) → a ≡ k + j → slice_get (views_of xs) j ≡ Some v → Like (s a) v × ((s a).hand ≡ [])
side_at s t k [] turn h j a v e is = absurd (cc)
side_at {K} {N} s t k (x ∷ xs) turn h zero a v e is =
    let same : a ≡ x.actor = let z = turn.0.1 in omega (arith, e) in
    let one : s a ≡ closed_side x = ap s same ∙ h.0 in
    let v' : record { log = x.log; sent = x.sent; taken = x.taken } ≡ v = cc in
    ((ap (λ (g : Side K). g.sent) one ∙ ap (λ (z : View K N). z.sent) v', ap (λ (g : Side K). g.taken) one ∙ ap (λ (z : View K N). z.taken) v'), ap (λ (g : Side K). g.hand) one)
side_at s t k (x ∷ xs) turn h (suc j) a v e is = side_at s t (suc k) xs turn.1 h.1 j a v (omega (arith, e)) is

-- and where the first has messages in hand
like_at : {K N : Type 0} → (s : Sides K) (t : TableId) (ms : List (Msg K)) (xs : List (Closed K N)) → InTurn t 0 xs → Each (λ h. s h.actor ≡ h) (first_has ms (sides_of xs)) → (a : ℕ) (v : View K N) → slice_get (views_of xs) a ≡ Some v → Like (s a) v
like_at s t ms [] turn h a v is = absurd (cc)
like_at {K} {N} s t ms (x ∷ xs) turn h zero v is =
    let one : s 0 ≡ record { actor = x.actor; sent = x.sent; hand = ms; taken = x.taken } = ap s (sym turn.0.1) ∙ h.0 in
    let v' : record { log = x.log; sent = x.sent; taken = x.taken } ≡ v = cc in
    (ap (λ (g : Side K). g.sent) one ∙ ap (λ (z : View K N). z.sent) v', ap (λ (g : Side K). g.taken) one ∙ ap (λ (z : View K N). z.taken) v')
like_at s t ms (x ∷ xs) turn h (suc j) v is = (side_at s t 1 xs turn.1 h.1 j (suc j) v (omega arith) is).0

hands_at : {K N : Type 0} → (s : Sides K) (t : TableId) (ms : List (Msg K)) (x : Closed K N) (xs : List (Closed K N)) → InTurn t 0 (x ∷ xs) → Each (λ h. s h.actor ≡ h) (first_has ms (sides_of (x ∷ xs))) → (j : ℕ) (v : View K N) → slice_get (views_of xs) j ≡ Some v → (s (suc j)).hand ≡ []
hands_at s t ms x xs turn h j v is = (side_at s t 1 xs turn.1 h.1 j (suc j) v (omega arith) is).1

first_hand : {K N : Type 0} → (s : Sides K) (t : TableId) (ms : List (Msg K)) (x : Closed K N) (xs : List (Closed K N)) → InTurn t 0 (x ∷ xs) → Each (λ h. s h.actor ≡ h) (first_has ms (sides_of (x ∷ xs))) → (s 0).hand ≡ ms
first_hand {K} s t ms x xs turn h = ap (λ (g : Side K). g.hand) (ap s (sym turn.0.1) ∙ h.0)

view_there : {K N : Type 0} → (xs : List (Closed K N)) (j : ℕ) → j < length xs → (v : View K N) × (slice_get (views_of xs) j ≡ Some v)
view_there [] j lt = absurd (omega arith)
view_there (x ∷ xs) zero lt = (record { log = x.log; sent = x.sent; taken = x.taken }, refl)
view_there (x ∷ xs) (suc j) lt = view_there xs j (omega arith)

view_past : {K N : Type 0} → (xs : List (Closed K N)) (j : ℕ) → length xs ≤ j → slice_get (views_of xs) j ≡ None
view_past [] j le = refl
view_past (x ∷ xs) zero le = absurd (omega (arith, le))
view_past (x ∷ xs) (suc j) le = view_past xs j (omega (arith, le))

module _ {A K N : Type 0} (r : Rules A K N) (f : ℕ → A) (actors most : ℕ) (s : Sides K) (items : List (Msg K)) (k : IsKept r f actors most items s) (xs : List (Closed K N)) (size : length xs ≡ actors)
    (like : (a : ℕ) (v : View K N) → slice_get (views_of xs) a ≡ Some v → Like (s a) v) where
  -- each actor's lists are those of its view, also where there is none
  lists : (a : ℕ) → (sent_list (slice_get (views_of xs) a) ≡ (s a).sent) × (taken_list (slice_get (views_of xs) a) ≡ (s a).taken)
  lists a = at (nat_lt a actors) refl
    where
      at : (b : Bool) → nat_lt a actors ≡ b → (sent_list (slice_get (views_of xs) a) ≡ (s a).sent) × (taken_list (slice_get (views_of xs) a) ≡ (s a).taken)
      at true is =
          let lt : a < actors = grind (arith, nat_tests) in
          let u : (v : View K N) × (slice_get (views_of xs) a ≡ Some v) = view_there xs a (omega (arith, lt, size)) in
          let l : Like (s a) u.0 = like a u.0 u.1 in
          (ap (λ (o : Option (View K N)). sent_list o) u.1 ∙ sym l.0, ap (λ (o : Option (View K N)). taken_list o) u.1 ∙ sym l.1)
      at false is =
          let le : actors ≤ a = grind (arith, nat_tests) in
          let none : slice_get (views_of xs) a ≡ None = view_past xs a (omega (arith, le, size)) in
          (ap (λ (o : Option (View K N)). sent_list o) none ∙ sym (ap (λ (g : Side K). g.sent) (k.past a le)), ap (λ (o : Option (View K N)). taken_list o) none ∙ sym (ap (λ (g : Side K). g.taken) (k.past a le)))

  sent_is : (i : MsgId) → slice_get (sent_list (slice_get (views_of xs) i.sender)) i.seq ≡ sent_in s i
  sent_is i = ap (λ (ms : List (Msg K)). slice_get ms i.seq) (lists i.sender).0

  taken_once : (a : ℕ) (ms : List (Msg K)) → Each (λ m. (sent_in s m.id ≡ Some m) × (m.to ≡ a)) ms → ((i : MsgId) → times i ms ≤ 1) → TakenOnce (views_of xs) a ms
  taken_once a [] e one = tt
  taken_once a (m ∷ ms) e one = (
    sent_is m.id ∙ e.0.0,
    e.0.1,
    none_there m.id ms (let x : times m.id (m ∷ ms) ≡ suc (times m.id ms) = times_first m ms in let y : times m.id (m ∷ ms) ≤ 1 = one m.id in omega (arith, x, y)),
    taken_once a ms e.1 (λ i. let x : times i ms ≤ times i (m ∷ ms) = times_less i m ms in let y : times i (m ∷ ms) ≤ 1 = one i in omega (arith, x, y)),
  )

  pub consistent : ConsistentViews (views_of xs)
  consistent a v is =
      subst (λ (ms : List (Msg K)). TakenOnce (views_of xs) a ms) (like a v is).1
      (taken_once a (s a).taken (k.side a).taken_sent (λ i. let x : times i (s a).taken ≡ in_taken a (k.place i) = (k.side a).taken i in let y : in_taken a (k.place i) ≤ 1 = once (k.place i) a in omega (arith, x, y)))

  -- the message, unless its receiver took it
  abbrev unless_taken : MsgId → Option (Msg K) → Option (Msg K)
  unless_taken i None = None
  unless_taken i (Some m) = cond (has_id i (s m.to).taken) None (Some m)

  flight_is : (i : MsgId) → left_in_flight (views_of xs) i ≡ unless_taken i (sent_in s i)
  flight_is i = ap (λ (o : Option (Msg K)). unless_taken_in (views_of xs) i o) (sent_is i) ∙ at (sent_in s i)
    where
      at : (o : Option (Msg K)) → unless_taken_in (views_of xs) i o ≡ unless_taken i o
      at None = refl
      at (Some m) = ap (λ (ms : List (Msg K)). cond (has_id i ms) None (Some m)) (lists m.to).1

  absent : (o : Option (Msg K)) → is_there o ≡ false → o ≡ None
  absent None e = refl
  absent (Some m) e = absurd (cc)

  -- where the queue is empty and all hands but one too, that one has just what was sent and not taken
  pub left : (ms : List (Msg K)) → items ≡ [] → (s 0).hand ≡ ms → ((a : ℕ) → a ≢ 0 → (s a).hand ≡ []) → AreLeft (views_of xs) ms
  left ms empty mine others = (flies, distinct ms (λ i. let x : times i ms ≡ in_hand 0 (k.place i) = in_ms i in let y : in_hand 0 (k.place i) ≤ 1 = at_most_once 0 (k.place i) in omega (arith, x, y)))
    where
      in_ms : (i : MsgId) → times i ms ≡ in_hand 0 (k.place i)
      in_ms i = sym (ap (λ (l : List (Msg K)). times i l) mine) ∙ (k.side 0).hand i

      sent_ms : Each (λ m. sent_in s m.id ≡ Some m) ms
      sent_ms = subst (λ (l : List (Msg K)). Each (λ m. sent_in s m.id ≡ Some m) l) mine (k.side 0).hand_sent

      at : (i : MsgId) (p : Place) → k.place i ≡ p → find i ms ≡ unless_taken i (sent_in s i)
      at i Nowhere is =
          let none : sent_in s i ≡ None = absent (sent_in s i) (k.sent i ∙ ap is_somewhere is) in
          not_found i ms (in_ms i ∙ ap (in_hand 0) is) ∙ sym (ap (λ (o : Option (Msg K)). unless_taken i o) none)
      at i Queue is =
          let x : times i items ≡ 1 = k.queue i ∙ ap in_queue is in
          let y : times i items ≡ 0 = ap (λ (l : List (Msg K)). times i l) empty in
          absurd (omega (arith, x, y))
      at i (Hand b) is = hand (nat_eq 0 b) refl
        where
          hand : (w : Bool) → nat_eq 0 b ≡ w → find i ms ≡ unless_taken i (sent_in s i)
          hand true e =
              let here : times i ms ≡ 1 = in_ms i ∙ (ap (in_hand 0) is ∙ ap (λ (w : Bool). cond w 1 0) e) in
              let m : IsFound (λ m. sent_in s m.id ≡ Some m) i ms = found (λ m. sent_in s m.id ≡ Some m) i ms (omega (arith, here)) sent_ms in
              let sent : sent_in s i ≡ Some m.message = ap (λ (j : MsgId). sent_in s j) (sym m.name) ∙ m.holds in
              let free : has_id i (s m.message.to).taken ≡ false = none_there i (s m.message.to).taken ((k.side m.message.to).taken i ∙ ap (in_taken m.message.to) is) in
              m.found ∙ sym (ap (λ (o : Option (Msg K)). unless_taken i o) sent ∙ ap (λ (w : Bool). cond w None (Some m.message)) free)
          hand false e =
              let ne : b ≢ 0 = λ same. let z : nat_eq 0 b ≡ true = grind (arith, nat_tests) in absurd (cc) in
              let x : times i (s b).hand ≡ 1 = (k.side b).hand i ∙ (ap (in_hand b) is ∙ (let z : nat_eq b b ≡ true = grind (arith, nat_tests) in ap (λ (w : Bool). cond w 1 0) z)) in
              let y : times i (s b).hand ≡ 0 = ap (λ (l : List (Msg K)). times i l) (others b ne) in
              absurd (omega (arith, x, y))
      at i (Taken b) is =
          let here : times i (s b).taken ≡ 1 = (k.side b).taken i ∙ (ap (in_taken b) is ∙ (let z : nat_eq b b ≡ true = grind (arith, nat_tests) in ap (λ (w : Bool). cond w 1 0) z)) in
          let m : IsFound (λ m. (sent_in s m.id ≡ Some m) × (m.to ≡ b)) i (s b).taken = found (λ m. (sent_in s m.id ≡ Some m) × (m.to ≡ b)) i (s b).taken (omega (arith, here)) (k.side b).taken_sent in
          let sent : sent_in s i ≡ Some m.message = ap (λ (j : MsgId). sent_in s j) (sym m.name) ∙ m.holds.0 in
          let gone : has_id i (s m.message.to).taken ≡ true = ap (λ (a : ℕ). has_id i (s a).taken) m.holds.1 ∙ m.there in
          not_found i ms (in_ms i ∙ ap (in_hand 0) is) ∙ sym (ap (λ (o : Option (Msg K)). unless_taken i o) sent ∙ ap (λ (w : Bool). cond w None (Some m.message)) gone)

      flies : (i : MsgId) → find i ms ≡ left_in_flight (views_of xs) i
      flies i = at i (k.place i) refl ∙ sym (flight_is i)

-- what the gatherer knows at the end
pub all_gathered : {A K N : Type 0} → (r : Rules A K N) (f : ℕ → A) (actors most : ℕ) (t : TableId) (xs : List (Closed K N)) (ms : List (Msg K)) → length xs ≡ actors → 0 < length xs → InTurn t 0 xs → AreKept r f actors most (first_has ms (sides_of xs)) [] →
    ConsistentViews (views_of xs) × AreLeft (views_of xs) ms
all_gathered r f actors most t [] ms size some turn h = absurd (omega (arith, some))
all_gathered {A} {K} {N} r f actors most t (x ∷ xs) ms size some turn (s, k, h) = (
  consistent r f actors most s [] k (x ∷ xs) size (like_at s t ms (x ∷ xs) turn h),
  left r f actors most s [] k (x ∷ xs) size (like_at s t ms (x ∷ xs) turn h) ms refl (first_hand s t ms x xs turn h) others,
)
  where
    others : (a : ℕ) → a ≢ 0 → (s a).hand ≡ []
    others zero ne = absurd (ne refl)
    others (suc j) ne = at (nat_lt j (length xs)) refl
      where
        at : (b : Bool) → nat_lt j (length xs) ≡ b → (s (suc j)).hand ≡ []
        at true is =
            let lt : j < length xs = grind (arith, nat_tests) in
            let u : (v : View K N) × (slice_get (views_of xs) j ≡ Some v) = view_there xs j lt in
            hands_at s t ms x xs turn h j u.0 u.1
        at false is =
            let le : length xs ≤ j = grind (arith, nat_tests) in
            ap (λ (g : Side K). g.hand) (k.past (suc j) (omega (arith, le, size)))

pub none_gathered : {K N : Type 0} → (ys : List (Closed K N)) → ys ≡ [] → ConsistentViews (views_of ys) × AreLeft (views_of ys) []
none_gathered {K} {N} ys e = subst (λ (zs : List (Closed K N)). ConsistentViews (views_of zs) × AreLeft (views_of zs) []) (sym e) ((λ a v is. absurd (cc)), ((λ i. refl), tt))
