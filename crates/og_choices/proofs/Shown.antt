-- Which choice stands at a place of the list of choices.
use Rattle.std.proofs.Common.{◌≡◌, ◌∙◌, ℕ, zero, suc, ◌+◌, ◌-◌, ◌<◌, ◌≤◌, Bool, true, false, nat_eq, nat_lt, arith, refl, sym, ap, subst, Some, List, [], ◌∷◌, ◌++◌, length, map, length-append}
use lib.ListN.{get_or}
use Rattle.std.specs.Prelude.{slice_get, not, ◌&&◌, if◌then◌else◌}
use Rattle.std.proofs.lemmas.Bool.Decides.{nat_tests}
use Rattle.og_runs.specs.declared.Choice.{Choice}
use Rattle.og_runs.specs.declared.Choice.TheVariants.{Act, Take}
use Rattle.og_runs.specs.declared.Msg.{Msg}
use Rattle.og_runs.specs.World.{InPlace}
use Rattle.og_runs.proofs.Shown.{slice_get_some}
use Rattle.og_flight.specs.Flight.{messages_to, messages_below}
use Rattle.og_flight.proofs.Receivers.{to_at}
use Rattle.og_choices.specs.Choices.{Offer, AreTurns, may_act_at, choices_at, choices_to, acts_below, choices_below, count_of}
use Rattle.og_choices.proofs.Counts.{one, acts_more, choices_none, choices_more, choices_grow}
use Rattle.og_choices.proofs.Turns.{owner_is}

-- ---- lists

get_front : {X : Type 0} → (xs ys : List X) (k : ℕ) → k < length xs → slice_get (xs ++ ys) k ≡ slice_get xs k
get_front [] ys k lt = absurd (omega arith)
get_front (x ∷ xs) ys zero lt = refl
get_front (x ∷ xs) ys (suc k) lt = get_front xs ys k (omega arith)

get_back : {X : Type 0} → (xs ys : List X) (k n : ℕ) → n ≡ length xs + k → slice_get (xs ++ ys) n ≡ slice_get ys k
get_back [] ys k n is = let e : n ≡ k = omega arith in ap (slice_get ys) e
get_back (x ∷ xs) ys k zero is = absurd (omega arith)
get_back (x ∷ xs) ys k (suc n) is = get_back xs ys k n (omega arith)

get_mapped : {X Y : Type 0} → (f : X → Y) (xs : List X) (k : ℕ) (x : X) → slice_get xs k ≡ Some x → slice_get (map f xs) k ≡ Some (f x)
get_mapped f [] k x e = absurd (cc)
get_mapped {X} {Y} f (y ∷ ys) zero x e = let same : y ≡ x = cc in ap (λ (z : X). Some (f z)) same
get_mapped f (y ∷ ys) (suc k) x e = get_mapped f ys k x e

length_mapped : {X Y : Type 0} → (f : X → Y) (xs : List X) → length (map f xs) ≡ length xs
length_mapped f [] = refl
length_mapped f (x ∷ xs) = let rest : length (map f xs) ≡ length xs = length_mapped f xs in omega arith

-- ---- one actor's choices

own_length : {K : Type 0} → (o : Offer K) (a : ℕ) → length (choices_at o a) ≡ one (may_act_at o a) + length (messages_to a o.flight.messages)
own_length {K} o a = at (may_act_at o a)
  where
    at : (t : Bool) → length ((if t then Act a ∷ [] else []) ++ map (λ m. Take a m.id) (messages_to a o.flight.messages)) ≡ one t + length (messages_to a o.flight.messages)
    at true = let n = length_mapped {X = Msg K} {Y = Choice} (λ m. Take a m.id) (messages_to a o.flight.messages) in omega arith
    at false = let n = length_mapped {X = Msg K} {Y = Choice} (λ m. Take a m.id) (messages_to a o.flight.messages) in omega arith

-- the act is the first of them
own_act : {K : Type 0} → (o : Offer K) (a : ℕ) → may_act_at o a ≡ true → slice_get (choices_at o a) 0 ≡ Some (Act a)
own_act {K} o a can = ap (λ (t : Bool). slice_get ((if t then Act a ∷ [] else []) ++ map (λ m. Take a m.id) (messages_to a o.flight.messages)) 0) can

-- and behind it are the takes
own_take : {K : Type 0} → (o : Offer K) (a k i : ℕ) (m : Msg K) → k ≡ one (may_act_at o a) + i → slice_get (messages_to a o.flight.messages) i ≡ Some m → slice_get (choices_at o a) k ≡ Some (Take a m.id)
own_take {K} o a k i m is there = at (may_act_at o a) is
  where
    at : (t : Bool) → k ≡ one t + i → slice_get ((if t then Act a ∷ [] else []) ++ map (λ m. Take a m.id) (messages_to a o.flight.messages)) k ≡ Some (Take a m.id)
    at true e = get_back (Act a ∷ []) (map (λ m. Take a m.id) (messages_to a o.flight.messages)) i k e ∙ get_mapped (λ m. Take a m.id) (messages_to a o.flight.messages) i m there
    at false e = get_back [] (map (λ m. Take a m.id) (messages_to a o.flight.messages)) i k e ∙ get_mapped (λ m. Take a m.id) (messages_to a o.flight.messages) i m there

-- ---- all

pub choices_length : {K : Type 0} → (o : Offer K) (n : ℕ) → length (choices_to o n) ≡ choices_below o n
choices_length o zero = sym (choices_none o)
choices_length o (suc n) =
    let rest : length (choices_to o n) ≡ choices_below o n = choices_length o n in
    let own : length (choices_at o n) ≡ one (may_act_at o n) + length (messages_to n o.flight.messages) = own_length o n in
    let both : length (choices_to o n ++ choices_at o n) ≡ length (choices_to o n) + length (choices_at o n) = length-append (choices_to o n) (choices_at o n) in
    let more : choices_below o (suc n) ≡ choices_below o n + (one (may_act_at o n) + length (messages_to n o.flight.messages)) = choices_more o n in
    omega arith

-- from as many choices on as the actors below it have stand an actor's own
own_there : {K : Type 0} → (o : Offer K) (n a i at : ℕ) → a < n → at ≡ choices_below o a + i → i < length (choices_at o a) → slice_get (choices_to o n) at ≡ slice_get (choices_at o a) i
own_there o zero a i at lt is few = absurd (omega arith)
own_there {K} o (suc n) a i at lt is few = by (nat_eq a n) refl (λ less. own_there o n a i at less is few)
  where
    by : (t : Bool) → nat_eq a n ≡ t → (a < n → slice_get (choices_to o n) at ≡ slice_get (choices_at o a) i) → slice_get (choices_to o n ++ choices_at o n) at ≡ slice_get (choices_at o a) i
    by true e rest =
        let same : a ≡ n = grind (arith, nat_tests) in
        let count : length (choices_to o n) ≡ choices_below o n = choices_length o n in
        let here : choices_below o a ≡ choices_below o n = ap (λ (b : ℕ). choices_below o b) same in
        get_back (choices_to o n) (choices_at o n) i at (omega arith) ∙ ap (λ (b : ℕ). slice_get (choices_at o b) i) (sym same)
    by false e rest =
        let less : a < n = grind (arith, nat_tests) in
        let count : length (choices_to o n) ≡ choices_below o n = choices_length o n in
        let own : length (choices_at o a) ≡ one (may_act_at o a) + length (messages_to a o.flight.messages) = own_length o a in
        let more : choices_below o (suc a) ≡ choices_below o a + (one (may_act_at o a) + length (messages_to a o.flight.messages)) = choices_more o a in
        let grows : choices_below o (suc a) ≤ choices_below o n = choices_grow o (suc a) n less in
        get_front (choices_to o n) (choices_at o n) at (omega arith) ∙ rest less

-- an actor whose choice stands inside the list is one of its
inside : {K : Type 0} → (o : Offer K) (n a at : ℕ) → choices_below o a ≤ at → at < length (choices_to o n) → a < n
inside o n a at low lt = by (nat_lt a n) refl
  where
    by : (t : Bool) → nat_lt a n ≡ t → a < n
    by true is = grind (arith, nat_tests)
    by false is =
        let le : n ≤ a = grind (arith, nat_tests) in
        let count : length (choices_to o n) ≡ choices_below o n = choices_length o n in
        let grows : choices_below o n ≤ choices_below o a = choices_grow o n a le in
        absurd (omega arith)

-- ---- by the turns

-- the turn that is read at a place
pub read_turn : {K : Type 0} → (o o' : Offer K) (turns : List ℕ) (at a : ℕ) → o ≡ o' → AreTurns o turns → at < count_of o' → a ≡ get_or turns at a → AreTurns o' turns × (at < length turns) × (slice_get turns at ≡ Some a)
read_turn {K} o o' turns at a same are inside is =
    let are' : AreTurns o' turns = subst (λ (p : Offer K). AreTurns p turns) same are in
    let all : length turns ≡ count_of o' = are'.all in
    let lt : at < length turns = omega arith in
    (are', lt, got turns at a lt is)
  where
    got : (xs : List ℕ) (k x : ℕ) → k < length xs → x ≡ get_or xs k x → slice_get xs k ≡ Some x
    got [] k x lt e = absurd (omega arith)
    got (y ∷ ys) zero x lt e = ap (λ (z : ℕ). Some z) (sym e)
    got (y ∷ ys) (suc k) x lt e = got ys k x (omega arith) e

pub both : (s t : Bool) → (s && t) ≡ true → (s ≡ true) × (t ≡ true)
both true true e = (refl, refl)
both true false e = absurd (cc)
both false t e = absurd (cc)

module _ {K : Type 0} (o : Offer K) (turns : List ℕ) (are : AreTurns o turns) (at a : ℕ) (here : slice_get turns at ≡ Some a) where
  low : choices_below o a ≤ at
  low = (are.own at a here).0

  high : at < choices_below o (suc a)
  high = (are.own at a here).1

  -- nothing of the actor's stands before the place
  abbrev pub IsFirst : Type 0
  IsFirst = at ≡ choices_below o a

  pub first_at_front : at ≡ 0 → IsFirst
  first_at_front none = let l = low in omega arith

  pub first_after_other : (b : ℕ) → 0 < at → slice_get turns (at - 1) ≡ Some b → nat_eq b a ≡ false → IsFirst
  first_after_other b some before other = by (nat_lt (choices_below o a) at) refl
    where
      by : (t : Bool) → nat_lt (choices_below o a) at ≡ t → IsFirst
      by true is =
          let past : choices_below o a < at = grind (arith, nat_tests) in
          let own = are.own (at - 1) b before in
          let low' : choices_below o b ≤ at - 1 = own.0 in
          let high' : at - 1 < choices_below o (suc b) = own.1 in
          let h = high in
          let same : a ≡ b = owner_is (choices_below o) (at - 1) a b (choices_grow o) (omega arith) (omega arith) low' high' in
          absurd (grind (arith, nat_tests))
      by false is = let l = low in let not : at ≤ choices_below o a = grind (arith, nat_tests) in omega arith

  pub later_after_own : (b : ℕ) → 0 < at → slice_get turns (at - 1) ≡ Some b → nat_eq b a ≡ true → choices_below o a < at
  later_after_own b some before same =
      let is : b ≡ a = grind (arith, nat_tests) in
      let own = are.own (at - 1) b before in
      let low' : choices_below o a ≤ at - 1 = subst (λ (c : ℕ). choices_below o c ≤ at - 1) is own.0 in
      omega arith

  -- what is seen of the place before it
  module _ (first : Bool) (front : at ≡ 0 → first ≡ true) (after : (b : ℕ) → 0 < at → slice_get turns (at - 1) ≡ Some b → first ≡ not (nat_eq b a)) (inside_turns : at < length turns) where
    behind : (t : Bool) → first ≡ t → 0 < at → (b : ℕ) × (slice_get turns (at - 1) ≡ Some b) × (nat_eq b a ≡ not t)
    behind t is some =
        let x = slice_get_some turns (at - 1) (omega arith) in
        (x.0, x.1, swap (nat_eq x.0 a) t (sym (after x.0 some x.1) ∙ is))
      where
        swap : (u v : Bool) → not u ≡ v → u ≡ not v
        swap true true e = absurd (cc)
        swap true false e = refl
        swap false true e = refl
        swap false false e = absurd (cc)

    pub stands_first : first ≡ true → IsFirst
    stands_first is = by (nat_eq at 0) refl
      where
        by : (t : Bool) → nat_eq at 0 ≡ t → IsFirst
        by true none = first_at_front (grind (arith, nat_tests))
        by false some = let more : 0 < at = grind (arith, nat_tests) in let x = behind true is more in first_after_other x.0 more x.1 x.2

    -- its act stands before the place, if it is enabled
    pub past_act : (first && may_act_at o a) ≡ false → choices_below o a + one (may_act_at o a) ≤ at
    past_act neither = by (may_act_at o a) refl first refl neither
      where
        by : (m : Bool) → may_act_at o a ≡ m → (f : Bool) → first ≡ f → (f && m) ≡ false → choices_below o a + one (may_act_at o a) ≤ at
        by false same f has neither = let none : one (may_act_at o a) ≡ 0 = ap one same in let l = low in omega arith
        by true same true has neither = absurd (cc)
        by true same false has neither = later (nat_eq at 0) refl
          where
            later : (t : Bool) → nat_eq at 0 ≡ t → choices_below o a + one (may_act_at o a) ≤ at
            later true none = let yes : first ≡ true = front (grind (arith, nat_tests)) in absurd (cc)
            later false some =
                let more : 0 < at = grind (arith, nat_tests) in
                let x = behind false has more in
                let past : choices_below o a < at = later_after_own x.0 more x.1 x.2 in
                let one_act : one (may_act_at o a) ≡ 1 = ap one same in
                omega arith

  -- the first is the actor's act, where that is enabled
  pub act_is : (n : ℕ) → IsFirst → may_act_at o a ≡ true → at < length (choices_to o n) → slice_get (choices_to o n) at ≡ Some (Act a)
  act_is n first can lt =
      let own : length (choices_at o a) ≡ one (may_act_at o a) + length (messages_to a o.flight.messages) = own_length o a in
      let some : one (may_act_at o a) ≡ 1 = ap one can in
      own_there o n a 0 at (inside o n a at low lt) (omega arith) (omega arith) ∙ own_act o a can

  -- any other is a take, of the message that stands so many places further to the front in flight as there are acts up to the actor
  pub take_is : (n k : ℕ) (m : Msg K) → InPlace o.flight.messages → choices_below o a + one (may_act_at o a) ≤ at → k ≡ at - acts_below o (suc a) → slice_get o.flight.messages k ≡ Some m → at < length (choices_to o n) →
      slice_get (choices_to o n) at ≡ Some (Take a m.id)
  take_is n k m sorted past is there lt =
      let l = low in
      let h = high in
      let own : length (choices_at o a) ≡ one (may_act_at o a) + length (messages_to a o.flight.messages) = own_length o a in
      let more : choices_below o (suc a) ≡ choices_below o a + (one (may_act_at o a) + length (messages_to a o.flight.messages)) = choices_more o a in
      let acts : acts_below o (suc a) ≡ acts_below o a + one (may_act_at o a) = acts_more o a in
      let i : ℕ = at - (choices_below o a + one (may_act_at o a)) in
      let few : i < length (messages_to a o.flight.messages) = omega arith in
      let place : length (messages_below a o.flight.messages) + i ≡ k = omega arith in
      let mine : slice_get (messages_to a o.flight.messages) i ≡ Some m = to_at a o.flight.messages i sorted few ∙ ap (slice_get o.flight.messages) place ∙ there in
      own_there o n a (one (may_act_at o a) + i) at (inside o n a at l lt) (omega arith) (omega arith) ∙ own_take o a (one (may_act_at o a) + i) i m refl mine

  -- and there is such a message
  pub take_inside : choices_below o a + one (may_act_at o a) ≤ at → length (messages_below (suc a) o.flight.messages) ≤ length o.flight.messages → (acts_below o (suc a) ≤ at) × (at - acts_below o (suc a) < length o.flight.messages)
  take_inside past few =
      let h = high in
      let acts : acts_below o (suc a) ≡ acts_below o a + one (may_act_at o a) = acts_more o a in
      (omega arith, omega arith)
