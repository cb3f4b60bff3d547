-- The turns after a message was sent or taken, and after a mark was set or cleared.
use Rattle.std.proofs.Common.{◌≡◌, ◌≢◌, ◌∙◌, ℕ, zero, suc, ◌+◌, ◌<◌, ◌≤◌, Bool, true, false, nat_eq, nat_lt, arith, refl, sym, ap, subst, Some, List, [], ◌∷◌, ◌++◌, length, take, drop}
use Rattle.std.specs.Prelude.{slice_get, if◌then◌else◌}
use mathlib.Core.Bool.{beq}
use Rattle.std.proofs.lemmas.Bool.Decides.{nat_tests}
use Rattle.og_runs.specs.declared.Msg.{Msg}
use Rattle.og_runs.specs.World.{without, placed, Distinct, InPlace}
use Rattle.og_flight.specs.Flight.{Flying, messages_below}
use Rattle.og_flight.proofs.Ranks.{removed_is}
use Rattle.og_flight.proofs.Posting.{placed_length}
use Rattle.og_choices.specs.Marks.{is_marked, marks_below}
use Rattle.og_choices.specs.Choices.{Offer, AreTurns, acts_below, choices_below, count_of}
use Rattle.og_choices.proofs.Counts.{one, below_few, below_placed, below_without, stands_behind, stands_within, acts_grow, acts_few, choices_grow}
use Rattle.og_choices.proofs.Bits.{none_marked}
use Rattle.og_choices.proofs.Turns.{one_more, one_less}

-- ---- lists

length_put : {X : Type 0} → (xs : List X) (p : ℕ) (x : X) → length (take p xs ++ x ∷ drop p xs) ≡ length xs + 1
length_put [] zero x = refl
length_put [] (suc p) x = refl
length_put (y ∷ ys) zero x = omega arith
length_put (y ∷ ys) (suc p) x = let rest : length (take p ys ++ x ∷ drop p ys) ≡ length ys + 1 = length_put ys p x in omega arith

length_removed : {X : Type 0} → (xs : List X) (p : ℕ) → p < length xs → length (take p xs ++ drop (suc p) xs) + 1 ≡ length xs
length_removed [] p lt = absurd (omega arith)
length_removed (y ∷ ys) zero lt = omega arith
length_removed (y ∷ ys) (suc p) lt = let rest : length (take p ys ++ drop (suc p) ys) + 1 ≡ length ys = length_removed ys p (omega arith) in omega arith

-- ---- messages

-- the choices with other messages in flight
abbrev pub with_messages : {K : Type 0} → Offer K → List (Msg K) → Offer K
with_messages o ms = record o { flight = record { messages = ms; room = o.flight.room } }

module _ {K : Type 0} (o : Offer K) (turns : List ℕ) (are : AreTurns o turns) (m : Msg K) (k : ℕ) where
  abbrev ms : List (Msg K)
  ms = o.flight.messages

  -- among all choices the take of the k-th message stands so many acts further back
  abbrev pub place : ℕ
  place = k + acts_below o (suc m.to)

  -- the message is sent, and stands at k
  module _ (sorted : InPlace (placed m ms)) (there : slice_get (placed m ms) k ≡ Some m) where
    own_none : one (nat_lt m.to m.to) ≡ 0
    own_none = let past : nat_lt m.to m.to ≡ false = grind (arith, nat_tests) in ap one past

    next_one : one (nat_lt m.to (suc m.to)) ≡ 1
    next_one = let lt : nat_lt m.to (suc m.to) ≡ true = grind (arith, nat_tests) in ap one lt

    sent_low : choices_below o m.to ≤ place
    sent_low =
        let behind : length (messages_below m.to (placed m ms)) ≤ k = stands_behind (placed m ms) k m sorted there in
        let grown : length (messages_below m.to (placed m ms)) ≡ length (messages_below m.to ms) + one (nat_lt m.to m.to) = below_placed m.to m ms in
        let acts : acts_below o m.to ≤ acts_below o (suc m.to) = acts_grow o m.to in
        omega arith

    sent_high : place ≤ choices_below o (suc m.to)
    sent_high =
        let within : k < length (messages_below (suc m.to) (placed m ms)) = stands_within (placed m ms) k m sorted there in
        let grown : length (messages_below (suc m.to) (placed m ms)) ≡ length (messages_below (suc m.to) ms) + one (nat_lt m.to (suc m.to)) = below_placed (suc m.to) m ms in
        let n = next_one in
        omega arith

    pub sent_inside : place ≤ length turns
    sent_inside =
        let high = sent_high in
        let all : length turns ≡ count_of o = are.all in
        let acts = acts_few o (suc m.to) in
        let few : length (messages_below (suc m.to) ms) ≤ length ms = below_few (suc m.to) ms in
        omega arith

    pub sent_turns : AreTurns (with_messages o (placed m ms)) (take place turns ++ m.to ∷ drop place turns)
    sent_turns = record {
      all = (let all : length turns ≡ count_of o = are.all in let more : length (placed m ms) ≡ length ms + 1 = placed_length m ms in let put : length (take place turns ++ m.to ∷ drop place turns) ≡ length turns + 1 = length_put turns place m.to in omega arith);
      own = one_more (choices_below o) (choices_below (with_messages o (placed m ms))) turns place m.to (choices_grow o) are.own
          (λ a. let grown : length (messages_below a (placed m ms)) ≡ length (messages_below a ms) + one (nat_lt m.to a) = below_placed a m ms in omega arith)
          sent_inside sent_low sent_high;
    }

  -- the k-th message is taken
  module _ (sorted : InPlace ms) (distinct : Distinct ms) (there : slice_get ms k ≡ Some m) where
    taken_low : choices_below o m.to ≤ place
    taken_low =
        let behind : length (messages_below m.to ms) ≤ k = stands_behind ms k m sorted there in
        let acts : acts_below o m.to ≤ acts_below o (suc m.to) = acts_grow o m.to in
        omega arith

    taken_high : place < choices_below o (suc m.to)
    taken_high = let within : k < length (messages_below (suc m.to) ms) = stands_within ms k m sorted there in omega arith

    pub taken_inside : place < length turns
    taken_inside =
        let high = taken_high in
        let all : length turns ≡ count_of o = are.all in
        let acts = acts_few o (suc m.to) in
        let few : length (messages_below (suc m.to) ms) ≤ length ms = below_few (suc m.to) ms in
        omega arith

    within_length : k < length ms
    within_length = let within : k < length (messages_below (suc m.to) ms) = stands_within ms k m sorted there in let few : length (messages_below (suc m.to) ms) ≤ length ms = below_few (suc m.to) ms in omega arith

    fewer : length (without m.id ms) + 1 ≡ length ms
    fewer = ap (λ (xs : List (Msg K)). length xs + 1) (sym (removed_is ms k m distinct there)) ∙ length_removed ms k within_length

    pub taken_turns : AreTurns (with_messages o (without m.id ms)) (take place turns ++ drop (suc place) turns)
    taken_turns = record {
      all = (let all : length turns ≡ count_of o = are.all in let less = fewer in let removed : length (take place turns ++ drop (suc place) turns) + 1 ≡ length turns = length_removed turns place taken_inside in omega arith);
      own = one_less (choices_below o) (choices_below (with_messages o (without m.id ms))) turns place m.to (choices_grow (with_messages o (without m.id ms))) are.own
          (λ a. let grown : length (messages_below a ms) ≡ length (messages_below a (without m.id ms)) + one (nat_lt m.to a) = below_without a ms k m distinct there in omega arith)
          taken_low taken_high;
    }

-- ---- marks

-- one mark more
marks_changed : (word word' n : ℕ) → ((k : ℕ) → is_marked word' k ≡ (if nat_eq k n then true else is_marked word k)) → is_marked word n ≡ false → (a : ℕ) → marks_below word' a ≡ marks_below word a + one (nat_lt n a)
unfolding marks_below
marks_changed word word' n is_set free zero = let past : nat_lt n 0 ≡ false = grind (arith, nat_tests) in let none : one (nat_lt n 0) ≡ 0 = ap one past in omega arith
marks_changed word word' n is_set free (suc a) = at (nat_eq a n) refl (is_set a) (marks_changed word word' n is_set free a)
  where
    at : (t : Bool) → nat_eq a n ≡ t → is_marked word' a ≡ (if t then true else is_marked word a) → marks_below word' a ≡ marks_below word a + one (nat_lt n a) →
        marks_below word' a + one (is_marked word' a) ≡ marks_below word a + one (is_marked word a) + one (nat_lt n (suc a))
    at true e here rest =
        let same : a ≡ n = grind (arith, nat_tests) in
        let new : one (is_marked word' a) ≡ 1 = ap one here in
        let old : one (is_marked word a) ≡ 0 = ap one (ap (is_marked word) same ∙ free) in
        let past : nat_lt n a ≡ false = grind (arith, nat_tests) in
        let lt : nat_lt n (suc a) ≡ true = grind (arith, nat_tests) in
        let zero_one : one (nat_lt n a) ≡ 0 = ap one past in
        let one_one : one (nat_lt n (suc a)) ≡ 1 = ap one lt in
        omega arith
    at false e here rest =
        let new : one (is_marked word' a) ≡ one (is_marked word a) = ap one here in
        let same : nat_lt n (suc a) ≡ nat_lt n a = grind (arith, nat_tests) in
        let both : one (nat_lt n (suc a)) ≡ one (nat_lt n a) = ap one same in
        omega arith

-- the choices with other marks
abbrev pub with_marks : {K : Type 0} → Offer K → ℕ → Bool → Offer K
with_marks o ready last = record o { ready = ready; last = last }

-- so one act more
module _ {K : Type 0} (o o' : Offer K) (n : ℕ) (flight : o'.flight ≡ o.flight) (acts : (a : ℕ) → acts_below o' a ≡ acts_below o a + one (nat_lt n a)) (count : count_of o' ≡ count_of o + 1) where
  counts : (a : ℕ) → choices_below o' a ≡ choices_below o a + one (nat_lt n a)
  counts a =
      let more = acts a in
      let same : length (messages_below a o'.flight.messages) ≡ length (messages_below a o.flight.messages) = ap (λ (f : Flying K). length (messages_below a f.messages)) flight in
      omega arith

  first_inside : choices_below o n ≤ count_of o
  first_inside =
      let few : acts_below o n ≤ marks_below o.ready o.nodes + one o.last = acts_few o n in
      let messages : length (messages_below n o.flight.messages) ≤ length o.flight.messages = below_few n o.flight.messages in
      omega arith

  pub put_inside : (turns : List ℕ) → AreTurns o turns → choices_below o n ≤ length turns
  put_inside turns are = let all : length turns ≡ count_of o = are.all in let i = first_inside in omega arith

  pub marked_turns : (turns : List ℕ) → AreTurns o turns → AreTurns o' (take (choices_below o n) turns ++ n ∷ drop (choices_below o n) turns)
  marked_turns turns are = record {
    all = (let all : length turns ≡ count_of o = are.all in let more = count in let put : length (take (choices_below o n) turns ++ n ∷ drop (choices_below o n) turns) ≡ length turns + 1 = length_put turns (choices_below o n) n in omega arith);
    own = one_more (choices_below o) (choices_below o') turns (choices_below o n) n (choices_grow o) are.own counts (put_inside turns are) (omega arith) (choices_grow o n (suc n) (omega arith));
  }

  first_own : choices_below o n < choices_below o' (suc n)
  first_own =
      let more = counts (suc n) in
      let lt : nat_lt n (suc n) ≡ true = grind (arith, nat_tests) in
      let one_one : one (nat_lt n (suc n)) ≡ 1 = ap one lt in
      let grows : choices_below o n ≤ choices_below o (suc n) = choices_grow o n (suc n) (omega arith) in
      omega arith

  -- which stands first among the actor's
  same_first : choices_below o' n ≡ choices_below o n
  same_first =
      let more = counts n in
      let past : nat_lt n n ≡ false = grind (arith, nat_tests) in
      let none : one (nat_lt n n) ≡ 0 = ap one past in
      omega arith

  pub removed_inside : (turns : List ℕ) → AreTurns o' turns → choices_below o n < length turns
  removed_inside turns are = let all : length turns ≡ count_of o' = are.all in let more = count in let i = first_inside in omega arith

  -- and one less where it is the other way round
  pub cleared_turns : (turns : List ℕ) → AreTurns o' turns → AreTurns o (take (choices_below o n) turns ++ drop (suc (choices_below o n)) turns)
  cleared_turns turns are = record {
    all = (let all : length turns ≡ count_of o' = are.all in let more = count in let removed : length (take (choices_below o n) turns ++ drop (suc (choices_below o n)) turns) + 1 ≡ length turns = length_removed turns (choices_below o n) (removed_inside turns are) in omega arith);
    own = one_less (choices_below o') (choices_below o) turns (choices_below o n) n (choices_grow o) are.own counts (let s = same_first in omega arith) first_own;
  }

-- the act of a node
pub node_acts : {K : Type 0} → (o : Offer K) (word n : ℕ) → n < o.nodes → ((k : ℕ) → is_marked word k ≡ (if nat_eq k n then true else is_marked o.ready k)) → is_marked o.ready n ≡ false →
    (a : ℕ) → acts_below (with_marks o word o.last) a ≡ acts_below o a + one (nat_lt n a)
node_acts {K} o word n inside is_set free a = by (nat_lt o.nodes a) refl
  where
    by : (t : Bool) → nat_lt o.nodes a ≡ t →
        (if t then marks_below word o.nodes + (if o.last then 1 else 0) else marks_below word a) ≡ (if t then marks_below o.ready o.nodes + (if o.last then 1 else 0) else marks_below o.ready a) + one (nat_lt n a)
    by true is =
        let nodes = marks_changed o.ready word n is_set free o.nodes in
        let past : nat_lt n o.nodes ≡ true = grind (arith, nat_tests) in
        let lt : nat_lt n a ≡ true = grind (arith, nat_tests) in
        let one_nodes : one (nat_lt n o.nodes) ≡ 1 = ap one past in
        let one_here : one (nat_lt n a) ≡ 1 = ap one lt in
        omega arith
    by false is = marks_changed o.ready word n is_set free a

pub node_count : {K : Type 0} → (o : Offer K) (word n : ℕ) → n < o.nodes → ((k : ℕ) → is_marked word k ≡ (if nat_eq k n then true else is_marked o.ready k)) → is_marked o.ready n ≡ false → count_of (with_marks o word o.last) ≡ count_of o + 1
node_count o word n inside is_set free =
    let nodes = marks_changed o.ready word n is_set free o.nodes in
    let past : nat_lt n o.nodes ≡ true = grind (arith, nat_tests) in
    let one_nodes : one (nat_lt n o.nodes) ≡ 1 = ap one past in
    omega arith

-- the act of the actor behind the nodes
pub last_acts : {K : Type 0} → (o : Offer K) (a : ℕ) → acts_below (with_marks o o.ready true) a ≡ acts_below (with_marks o o.ready false) a + one (nat_lt o.nodes a)
last_acts {K} o a = by (nat_lt o.nodes a)
  where
    by : (t : Bool) → (if t then marks_below o.ready o.nodes + 1 else marks_below o.ready a) ≡ (if t then marks_below o.ready o.nodes + 0 else marks_below o.ready a) + one t
    by true = omega arith
    by false = omega arith

pub last_count : {K : Type 0} → (o : Offer K) → count_of (with_marks o o.ready true) ≡ count_of (with_marks o o.ready false) + 1
last_count o = omega arith

-- ---- in the code's own terms

-- the acts up to an actor, as they are counted
pub acts_counted : {K : Type 0} → (o : Offer K) (actor t result : ℕ) → result ≡ (if nat_lt o.nodes actor then marks_below o.ready o.nodes + (if o.last then 1 else 0) else marks_below o.ready actor) → actor ≡ suc t → result ≡ acts_below o (suc t)
acts_counted o actor t result is same = is ∙ ap (λ (a : ℕ). acts_below o a) same

-- an offer's fields in place of a flight that is said to be so
pub record Sending {K : Type 0} (o : Offer K) (turns : List ℕ) (t p : ℕ) (flight : Flying K) : Type 0 where
  pub inside : p ≤ length turns
  pub are : (new : List ℕ) → new ≡ take p turns ++ t ∷ drop p turns → AreTurns (record o { flight = flight }) new

pub sending : {K : Type 0} → (o : Offer K) (turns : List ℕ) (m : Msg K) (k acts : ℕ) (flight : Flying K) → AreTurns o turns → flight ≡ record { messages = placed m o.flight.messages; room = o.flight.room } → InPlace flight.messages → slice_get flight.messages k ≡ Some m →
    acts ≡ acts_below o (suc m.to) → Sending o turns m.to (k + acts) flight
sending {K} o turns m k acts flight are is sorted there counted =
    let sorted' : InPlace (placed m o.flight.messages) = subst (λ (f : Flying K). InPlace f.messages) is sorted in
    let there' : slice_get (placed m o.flight.messages) k ≡ Some m = ap (λ (f : Flying K). slice_get f.messages k) (sym is) ∙ there in
    let place : k + acts_below o (suc m.to) ≡ k + acts = ap (λ (n : ℕ). k + n) (sym counted) in
    record {
      inside = subst (λ (p : ℕ). p ≤ length turns) place (sent_inside o turns are m k sorted' there');
      are = λ new new_is.
          subst (λ (f : Flying K). AreTurns (record o { flight = f }) new) (sym is)
          (subst (λ (xs : List ℕ). AreTurns (with_messages o (placed m o.flight.messages)) xs) (ap (λ (p : ℕ). take p turns ++ m.to ∷ drop p turns) place ∙ sym new_is) (sent_turns o turns are m k sorted' there'));
    }

pub record Taking {K : Type 0} (o : Offer K) (turns : List ℕ) (p : ℕ) (flight : Flying K) : Type 0 where
  pub inside : p < length turns
  pub are : (new : List ℕ) → new ≡ take p turns ++ drop (suc p) turns → AreTurns (record o { flight = flight }) new

pub taking : {K : Type 0} → (o : Offer K) (turns : List ℕ) (m : Msg K) (k acts to : ℕ) (flight : Flying K) → AreTurns o turns → InPlace o.flight.messages → Distinct o.flight.messages → slice_get o.flight.messages k ≡ Some m → m.to ≡ to →
    acts ≡ acts_below o (suc to) → flight ≡ record { messages = without m.id o.flight.messages; room = o.flight.room } → Taking o turns (k + acts) flight
taking {K} o turns m k acts to flight are sorted distinct there mine counted is =
    let place : k + acts_below o (suc m.to) ≡ k + acts = ap (λ (b : ℕ). k + acts_below o (suc b)) mine ∙ ap (λ (n : ℕ). k + n) (sym counted) in
    record {
      inside = subst (λ (p : ℕ). p < length turns) place (taken_inside o turns are m k sorted distinct there);
      are = λ new new_is.
          subst (λ (f : Flying K). AreTurns (record o { flight = f }) new) (sym is)
          (subst (λ (xs : List ℕ). AreTurns (with_messages o (without m.id o.flight.messages)) xs) (ap (λ (p : ℕ). take p turns ++ drop (suc p) turns) place ∙ sym new_is) (taken_turns o turns are m k sorted distinct there));
    }

-- ---- room

marks_few : (word a : ℕ) → marks_below word a ≤ a
unfolding marks_below
marks_few word zero = omega arith
marks_few word (suc a) = let rest : marks_below word a ≤ a = marks_few word a in at (is_marked word a) rest
  where
    at : (t : Bool) → marks_below word a ≤ a → marks_below word a + (if t then 1 else 0) ≤ suc a
    at true few = omega arith
    at false few = omega arith

-- of 128 nodes and the actor behind them there are no more choices than messages and 129 acts
pub count_few : {K : Type 0} → (o : Offer K) → o.nodes ≤ 128 → count_of o ≤ length o.flight.messages + 129
count_few {K} o few = at o.last
  where
    at : (t : Bool) → marks_below o.ready o.nodes + (if t then 1 else 0) + length o.flight.messages ≤ length o.flight.messages + 129
    at true = let marks : marks_below o.ready o.nodes ≤ o.nodes = marks_few o.ready o.nodes in omega arith
    at false = let marks : marks_below o.ready o.nodes ≤ o.nodes = marks_few o.ready o.nodes in omega arith

-- so many choices have room, and so has each place among them
pub turns_few : {K : Type 0} → (o : Offer K) (turns : List ℕ) → AreTurns o turns → length o.flight.messages ≤ length turns
turns_few o turns are = let all : length turns ≡ count_of o = are.all in omega arith

-- what is read differs from what is to be
pub differs : (read mark on : Bool) → read ≡ mark → beq read on ≡ false → mark ≢ on
differs read mark on is other = λ same. equal read on (is ∙ same) other
  where
    equal : (s t : Bool) → s ≡ t → beq s t ≡ false → ⊥
    equal true true e f = cc
    equal true false e f = cc
    equal false true e f = cc
    equal false false e f = cc

-- a turn comes or goes with a mark
pub record Turning {K : Type 0} (o' : Offer K) (turns : List ℕ) (n p : ℕ) (on : Bool) : Type 0 where
  pub more : on ≡ true → length turns + 1 ≡ count_of o'
  pub inside : p ≤ length turns
  pub there : on ≡ false → p < length turns
  pub are : (new : List ℕ) → (on ≡ true → new ≡ take p turns ++ n ∷ drop p turns) → (on ≡ false → new ≡ take p turns ++ drop (suc p) turns) → AreTurns o' new

turned_on : {K : Type 0} → (o o' : Offer K) (turns : List ℕ) (n p : ℕ) → AreTurns o turns → o'.flight ≡ o.flight → ((a : ℕ) → acts_below o' a ≡ acts_below o a + one (nat_lt n a)) → count_of o' ≡ count_of o + 1 → p ≡ choices_below o n → Turning o' turns n p true
turned_on {K} o o' turns n p are flight acts count place = record {
  more = λ e. let all : length turns ≡ count_of o = are.all in let one_act = count in omega arith;
  inside = subst (λ (q : ℕ). q ≤ length turns) (sym place) (put_inside o o' n flight acts count turns are);
  there = λ e. absurd (cc);
  are = λ new put removed. subst (λ (xs : List ℕ). AreTurns o' xs) (ap (λ (q : ℕ). take q turns ++ n ∷ drop q turns) (sym place) ∙ sym (put refl)) (marked_turns o o' n flight acts count turns are);
}

turned_off : {K : Type 0} → (o o' : Offer K) (turns : List ℕ) (n p : ℕ) → AreTurns o' turns → o'.flight ≡ o.flight → ((a : ℕ) → acts_below o' a ≡ acts_below o a + one (nat_lt n a)) → count_of o' ≡ count_of o + 1 → p ≡ choices_below o n → Turning o turns n p false
turned_off {K} o o' turns n p are flight acts count place =
    let lt : p < length turns = subst (λ (q : ℕ). q < length turns) (sym place) (removed_inside o o' n flight acts count turns are) in
    record {
      more = λ e. absurd (cc);
      inside = omega arith;
      there = λ e. lt;
      are = λ new put removed. subst (λ (xs : List ℕ). AreTurns o xs) (ap (λ (q : ℕ). take q turns ++ drop (suc q) turns) (sym place) ∙ sym (removed refl)) (cleared_turns o o' n flight acts count turns are);
    }

-- the place of a node's act: behind the marks and the messages of the nodes below it
node_place : {K : Type 0} → (o : Offer K) (n p : ℕ) → n ≤ o.nodes → p ≡ length (messages_below n o.flight.messages) + marks_below o.ready n → p ≡ choices_below o n
node_place {K} o n p le is =
    let past : nat_lt o.nodes n ≡ false = grind (arith, nat_tests) in
    let acts : acts_below o n ≡ marks_below o.ready n = ap (λ (t : Bool). if t then marks_below o.ready o.nodes + (if o.last then 1 else 0) else marks_below o.ready n) past in
    omega arith

pub node_turning : {K : Type 0} → (o : Offer K) (turns : List ℕ) (word n p : ℕ) (on : Bool) → AreTurns o turns → n < o.nodes → ((k : ℕ) → is_marked word k ≡ (if nat_eq k n then on else is_marked o.ready k)) → is_marked o.ready n ≢ on →
    p ≡ length (messages_below n o.flight.messages) + marks_below o.ready n → Turning (with_marks o word o.last) turns n p on
node_turning {K} o turns word n p true are inside is_set other place =
    let free : is_marked o.ready n ≡ false = not_true (is_marked o.ready n) other in
    turned_on o (with_marks o word o.last) turns n p are refl (node_acts o word n inside is_set free) (node_count o word n inside is_set free) (node_place o n p (omega arith) place)
  where
    not_true : (t : Bool) → t ≢ true → t ≡ false
    not_true true ne = absurd (ne refl)
    not_true false ne = refl
node_turning {K} o turns word n p false are inside is_set other place =
    let o' : Offer K = with_marks o word o.last in
    let was : is_marked o.ready n ≡ true = not_false (is_marked o.ready n) other in
    let me : nat_eq n n ≡ true = grind (arith, nat_tests) in
    let gone : is_marked word n ≡ false = is_set n ∙ ap (λ (t : Bool). if t then false else is_marked o.ready n) me in
    let back : (k : ℕ) → is_marked o.ready k ≡ (if nat_eq k n then true else is_marked word k) = (λ k. one_back k (nat_eq k n) refl (is_set k) was) in
    let less : marks_below o.ready n ≡ marks_below word n = (let more = marks_changed word o.ready n back gone n in let past : nat_lt n n ≡ false = grind (arith, nat_tests) in let none : one (nat_lt n n) ≡ 0 = ap one past in omega arith) in
    turned_off o' o turns n p are refl (node_acts o' o.ready n inside back gone) (node_count o' o.ready n inside back gone) (node_place o' n p (omega arith) (omega arith))
  where
    not_false : (t : Bool) → t ≢ false → t ≡ true
    not_false false ne = absurd (ne refl)
    not_false true ne = refl

    one_back : (k : ℕ) (t : Bool) → nat_eq k n ≡ t → is_marked word k ≡ (if t then false else is_marked o.ready k) → is_marked o.ready n ≡ true → is_marked o.ready k ≡ (if t then true else is_marked word k)
    one_back k true e now was = let same : k ≡ n = grind (arith, nat_tests) in ap (is_marked o.ready) same ∙ was
    one_back k false e now was = sym now

pub last_turning : {K : Type 0} → (o : Offer K) (turns : List ℕ) (p : ℕ) (on : Bool) → AreTurns o turns → o.last ≢ on → p ≡ length (messages_below o.nodes o.flight.messages) + marks_below o.ready o.nodes → Turning (with_marks o o.ready on) turns o.nodes p on
last_turning {K} o turns p true are other place = by o.last refl
  where
    by : (t : Bool) → o.last ≡ t → Turning (with_marks o o.ready true) turns o.nodes p true
    by true is = absurd (other is)
    by false is =
        let now : AreTurns (with_marks o o.ready false) turns = subst (λ (t : Bool). AreTurns (with_marks o o.ready t) turns) is are in
        turned_on (with_marks o o.ready false) (with_marks o o.ready true) turns o.nodes p now refl (last_acts o) (last_count o) (node_place (with_marks o o.ready false) o.nodes p (omega arith) place)
last_turning {K} o turns p false are other place = by o.last refl
  where
    by : (t : Bool) → o.last ≡ t → Turning (with_marks o o.ready false) turns o.nodes p false
    by false is = absurd (other is)
    by true is =
        let now : AreTurns (with_marks o o.ready true) turns = subst (λ (t : Bool). AreTurns (with_marks o o.ready t) turns) is are in
        turned_off (with_marks o o.ready false) (with_marks o o.ready true) turns o.nodes p now refl (last_acts o) (last_count o) (node_place (with_marks o o.ready false) o.nodes p (omega arith) place)

-- nothing in flight and no mark: no turns
marks_none : (n : ℕ) → marks_below 0 n ≡ 0
unfolding marks_below
marks_none zero = refl
marks_none (suc n) = let rest : marks_below 0 n ≡ 0 = marks_none n in let free : one (is_marked 0 n) ≡ 0 = ap one (none_marked n) in omega arith

pub no_turns : {K : Type 0} → (flight : Flying K) (nodes : ℕ) (turns : List ℕ) → flight.messages ≡ [] → turns ≡ [] → AreTurns (record { flight = flight; nodes = nodes; ready = 0; last = false }) turns
no_turns {K} flight nodes turns none empty = record {
  all = (let a : length turns ≡ 0 = ap (λ (xs : List ℕ). length xs) empty in let b : length flight.messages ≡ 0 = ap (λ (xs : List (Msg K)). length xs) none in let m = marks_none nodes in omega arith);
  own = λ k a e. let gone : slice_get {X = ℕ} [] k ≡ Some a = ap (λ (xs : List ℕ). slice_get xs k) (sym empty) ∙ e in absurd (nothing k a gone);
}
  where
    nothing : (k a : ℕ) → slice_get {X = ℕ} [] k ≡ Some a → ⊥
    nothing zero a e = cc
    nothing (suc k) a e = cc
