-- How many choices the actors below one have, and how that changes.
use Rattle.std.proofs.Common.{◌≡◌, ◌∙◌, ℕ, zero, suc, ◌+◌, ◌<◌, ◌≤◌, Bool, true, false, cond, nat_eq, nat_lt, arith, refl, sym, ap, subst, Some, List, [], ◌∷◌, ◌++◌, length, take, drop}
use Rattle.std.specs.Prelude.{slice_get, if◌then◌else◌, ◌&&◌}
use Rattle.std.proofs.lemmas.Bool.Decides.{nat_tests}
use Rattle.og_runs.specs.declared.Msg.{Msg}
use Rattle.og_runs.specs.World.{without, placed, precedes, Distinct, InPlace}
use Rattle.og_flight.specs.Flight.{before as is_before, rank, messages_to, messages_below}
use Rattle.og_flight.proofs.Ranks.{rank_above, removed_is}
use Rattle.og_flight.proofs.Receivers.{below_is}
use Rattle.og_choices.specs.Marks.{is_marked, marks_below}
use Rattle.og_choices.specs.Choices.{Offer, may_act_at, acts_below, choices_below}

-- 1 where a test holds
abbrev pub one : Bool → ℕ
one t = if t then 1 else 0

-- ---- acts

-- one actor more has its act more
pub acts_more : {K : Type 0} → (o : Offer K) (a : ℕ) → acts_below o (suc a) ≡ acts_below o a + one (may_act_at o a)
unfolding marks_below
acts_more {K} o a = by (nat_lt o.nodes (suc a)) refl (nat_lt o.nodes a) refl (nat_lt a o.nodes) refl (nat_eq a o.nodes) refl
  where
    by : (t : Bool) → nat_lt o.nodes (suc a) ≡ t → (u : Bool) → nat_lt o.nodes a ≡ u → (v : Bool) → nat_lt a o.nodes ≡ v → (w : Bool) → nat_eq a o.nodes ≡ w →
        (if t then marks_below o.ready o.nodes + (if o.last then 1 else 0) else marks_below o.ready (suc a)) ≡ (if u then marks_below o.ready o.nodes + (if o.last then 1 else 0) else marks_below o.ready a) + one (if v then is_marked o.ready a else (w && o.last))
    by true t true u true v w k = absurd (grind (arith, nat_tests))
    by true t true u false v true k = absurd (grind (arith, nat_tests))
    by true t true u false v false k = omega arith
    by true t false u true v w k = absurd (grind (arith, nat_tests))
    by true t false u false v true k = let same : a ≡ o.nodes = grind (arith, nat_tests) in ap (λ (n : ℕ). marks_below o.ready n + one o.last) (sym same)
    by true t false u false v false k = absurd (grind (arith, nat_tests))
    by false t true u v vis w k = absurd (grind (arith, nat_tests))
    by false t false u true v w k = refl
    by false t false u false v w k = absurd (grind (arith, nat_tests))

-- more nodes have no fewer marks
pub marks_grow : (word a b : ℕ) → a ≤ b → marks_below word a ≤ marks_below word b
unfolding marks_below
marks_grow word a zero le = let none : a ≡ 0 = omega arith in let same : marks_below word a ≡ marks_below word 0 = ap (marks_below word) none in omega arith
marks_grow word a (suc b) le = by (nat_eq a (suc b)) refl (λ less. marks_grow word a b less)
  where
    by : (t : Bool) → nat_eq a (suc b) ≡ t → (a ≤ b → marks_below word a ≤ marks_below word b) → marks_below word a ≤ marks_below word (suc b)
    by true is more = let same : a ≡ suc b = grind (arith, nat_tests) in let marks : marks_below word a ≡ marks_below word (suc b) = ap (marks_below word) same in omega arith
    by false is more =
        let less : a ≤ b = grind (arith, nat_tests) in
        let rest : marks_below word a ≤ marks_below word b = more less in
        omega arith

pub acts_grow : {K : Type 0} → (o : Offer K) (a : ℕ) → acts_below o a ≤ acts_below o (suc a)
acts_grow o a = let more : acts_below o (suc a) ≡ acts_below o a + one (may_act_at o a) = acts_more o a in omega arith

-- no more acts than marks
pub acts_few : {K : Type 0} → (o : Offer K) (a : ℕ) → acts_below o a ≤ marks_below o.ready o.nodes + one o.last
acts_few {K} o a = by (nat_lt o.nodes a) refl
  where
    by : (t : Bool) → nat_lt o.nodes a ≡ t → (if t then marks_below o.ready o.nodes + (if o.last then 1 else 0) else marks_below o.ready a) ≤ marks_below o.ready o.nodes + one o.last
    by true is = omega arith
    by false is = let le : a ≤ o.nodes = grind (arith, nat_tests) in let grows : marks_below o.ready a ≤ marks_below o.ready o.nodes = marks_grow o.ready a o.nodes le in omega arith

-- ---- messages

-- no more than all
pub below_few : {K : Type 0} → (a : ℕ) (ms : List (Msg K)) → length (messages_below a ms) ≤ length ms
below_few a [] = omega arith
below_few {K} a (m ∷ ms) = at (nat_lt m.to a) (below_few a ms)
  where
    at : (t : Bool) → length (messages_below a ms) ≤ length ms → length (cond t (m ∷ messages_below a ms) (messages_below a ms)) ≤ length (m ∷ ms)
    at true le = omega arith
    at false le = omega arith

pub below_more : {K : Type 0} → (a : ℕ) (ms : List (Msg K)) → length (messages_below (suc a) ms) ≡ length (messages_below a ms) + length (messages_to a ms)
below_more a [] = refl
below_more {K} a (m ∷ ms) = at (nat_lt m.to (suc a)) refl (nat_lt m.to a) refl (nat_eq m.to a) refl (below_more a ms)
  where
    at : (s : Bool) → nat_lt m.to (suc a) ≡ s → (t : Bool) → nat_lt m.to a ≡ t → (u : Bool) → nat_eq m.to a ≡ u → length (messages_below (suc a) ms) ≡ length (messages_below a ms) + length (messages_to a ms) →
        length (cond s (m ∷ messages_below (suc a) ms) (messages_below (suc a) ms)) ≡ length (cond t (m ∷ messages_below a ms) (messages_below a ms)) + length (cond u (m ∷ messages_to a ms) (messages_to a ms))
    at true s true t true u rest = absurd (grind (arith, nat_tests))
    at true s true t false u rest = omega arith
    at true s false t true u rest = omega arith
    at true s false t false u rest = absurd (grind (arith, nat_tests))
    at false s true t u eq rest = absurd (grind (arith, nat_tests))
    at false s false t true u rest = absurd (grind (arith, nat_tests))
    at false s false t false u rest = omega arith

below_cons : {K : Type 0} → (a : ℕ) (x : Msg K) (xs : List (Msg K)) → length (messages_below a (x ∷ xs)) ≡ one (nat_lt x.to a) + length (messages_below a xs)
below_cons {K} a x xs = at (nat_lt x.to a)
  where
    at : (t : Bool) → length (cond t (x ∷ messages_below a xs) (messages_below a xs)) ≡ one t + length (messages_below a xs)
    at true = omega arith
    at false = omega arith

-- a message that is placed stands among those to actors above its own
pub below_placed : {K : Type 0} → (a : ℕ) (m : Msg K) (ms : List (Msg K)) → length (messages_below a (placed m ms)) ≡ length (messages_below a ms) + one (nat_lt m.to a)
below_placed {K} a m [] = let c : length (messages_below a (m ∷ [])) ≡ one (nat_lt m.to a) + 0 = below_cons a m [] in omega arith
below_placed {K} a m (x ∷ xs) = at (precedes x m) (below_placed a m xs)
  where
    at : (b : Bool) → length (messages_below a (placed m xs)) ≡ length (messages_below a xs) + one (nat_lt m.to a) → length (messages_below a (cond b (x ∷ placed m xs) (m ∷ x ∷ xs))) ≡ length (messages_below a (x ∷ xs)) + one (nat_lt m.to a)
    at true h =
        let c : length (messages_below a (x ∷ placed m xs)) ≡ one (nat_lt x.to a) + length (messages_below a (placed m xs)) = below_cons a x (placed m xs) in
        let d : length (messages_below a (x ∷ xs)) ≡ one (nat_lt x.to a) + length (messages_below a xs) = below_cons a x xs in
        omega arith
    at false h =
        let c : length (messages_below a (m ∷ x ∷ xs)) ≡ one (nat_lt m.to a) + length (messages_below a (x ∷ xs)) = below_cons a m (x ∷ xs) in
        omega arith

-- and so it did where it is taken out
below_removed : {K : Type 0} → (a : ℕ) (ms : List (Msg K)) (k : ℕ) (m : Msg K) → slice_get ms k ≡ Some m → length (messages_below a ms) ≡ length (messages_below a (take k ms ++ drop (suc k) ms)) + one (nat_lt m.to a)
below_removed a [] k m e = absurd (cc)
below_removed {K} a (x ∷ xs) zero m e =
    let same : x ≡ m = cc in
    let c : length (messages_below a (x ∷ xs)) ≡ one (nat_lt x.to a) + length (messages_below a xs) = below_cons a x xs in
    let d : one (nat_lt x.to a) ≡ one (nat_lt m.to a) = ap (λ (z : Msg K). one (nat_lt z.to a)) same in
    omega arith
below_removed {K} a (x ∷ xs) (suc k) m e =
    let rest = below_removed a xs k m e in
    let c : length (messages_below a (x ∷ xs)) ≡ one (nat_lt x.to a) + length (messages_below a xs) = below_cons a x xs in
    let d : length (messages_below a (x ∷ (take k xs ++ drop (suc k) xs))) ≡ one (nat_lt x.to a) + length (messages_below a (take k xs ++ drop (suc k) xs)) = below_cons a x (take k xs ++ drop (suc k) xs) in
    omega arith

pub below_without : {K : Type 0} → (a : ℕ) (ms : List (Msg K)) (k : ℕ) (m : Msg K) → Distinct ms → slice_get ms k ≡ Some m → length (messages_below a ms) ≡ length (messages_below a (without m.id ms)) + one (nat_lt m.to a)
below_without {K} a ms k m distinct there =
    below_removed a ms k m there ∙ ap (λ (xs : List (Msg K)). length (messages_below a xs) + one (nat_lt m.to a)) (removed_is ms k m distinct there)

-- ---- where a message stands

before_is : {K : Type 0} → (m : Msg K) (a : ℕ) → is_before m.to m.id.sender m.id.seq a 0 0 ≡ nat_lt m.to a
before_is m a = grind (arith, nat_tests)

rank_low : {K : Type 0} → (a : ℕ) (xs : List (Msg K)) (k : ℕ) (m : Msg K) → slice_get xs k ≡ Some m → is_before m.to m.id.sender m.id.seq a 0 0 ≡ false → rank a 0 0 xs ≤ k
rank_low a [] k m is past = omega arith
rank_low {K} a (x ∷ xs) zero m is past =
    let same : x ≡ m = cc in
    let none : is_before x.to x.id.sender x.id.seq a 0 0 ≡ false = subst (λ (z : Msg K). is_before z.to z.id.sender z.id.seq a 0 0 ≡ false) (sym same) past in
    rw none (omega arith)
rank_low {K} a (x ∷ xs) (suc k) m is past = by (is_before x.to x.id.sender x.id.seq a 0 0) (rank_low a xs k m is past)
  where
    by : (t : Bool) → rank a 0 0 xs ≤ k → cond t (suc (rank a 0 0 xs)) 0 ≤ suc k
    by true h = omega arith
    by false h = omega arith

-- a message stands behind those to actors below its own
pub stands_behind : {K : Type 0} → (xs : List (Msg K)) (k : ℕ) (m : Msg K) → InPlace xs → slice_get xs k ≡ Some m → length (messages_below m.to xs) ≤ k
stands_behind xs k m sorted is =
    let no : nat_lt m.to m.to ≡ false = grind (arith, nat_tests) in
    let low : rank m.to 0 0 xs ≤ k = rank_low m.to xs k m is (before_is m m.to ∙ no) in
    let same : length (messages_below m.to xs) ≡ rank m.to 0 0 xs = below_is m.to xs sorted in
    omega arith

-- and among those to actors up to it
pub stands_within : {K : Type 0} → (xs : List (Msg K)) (k : ℕ) (m : Msg K) → InPlace xs → slice_get xs k ≡ Some m → k < length (messages_below (suc m.to) xs)
stands_within xs k m sorted is =
    let yes : nat_lt m.to (suc m.to) ≡ true = grind (arith, nat_tests) in
    let low : k < rank (suc m.to) 0 0 xs = rank_above (suc m.to) 0 0 xs k m sorted is (before_is m (suc m.to) ∙ yes) in
    let same : length (messages_below (suc m.to) xs) ≡ rank (suc m.to) 0 0 xs = below_is (suc m.to) xs sorted in
    omega arith

-- ---- both

pub choices_more : {K : Type 0} → (o : Offer K) (a : ℕ) → choices_below o (suc a) ≡ choices_below o a + (one (may_act_at o a) + length (messages_to a o.flight.messages))
choices_more o a =
    let acts : acts_below o (suc a) ≡ acts_below o a + one (may_act_at o a) = acts_more o a in
    let messages : length (messages_below (suc a) o.flight.messages) ≡ length (messages_below a o.flight.messages) + length (messages_to a o.flight.messages) = below_more a o.flight.messages in
    omega arith

none_below : {K : Type 0} → (ms : List (Msg K)) → length (messages_below 0 ms) ≡ 0
none_below [] = refl
none_below {K} (m ∷ ms) =
    let past : nat_lt m.to 0 ≡ false = grind (arith, nat_tests) in
    ap (λ (t : Bool). length (cond t (m ∷ messages_below 0 ms) (messages_below 0 ms))) past ∙ none_below ms

pub choices_none : {K : Type 0} → (o : Offer K) → choices_below o 0 ≡ 0
unfolding marks_below
choices_none o =
    let past : nat_lt o.nodes 0 ≡ false = grind (arith, nat_tests) in
    let acts : acts_below o 0 ≡ 0 = ap (λ (t : Bool). if t then marks_below o.ready o.nodes + (if o.last then 1 else 0) else 0) past in
    let messages = none_below o.flight.messages in
    omega arith

-- more actors have no fewer choices
pub choices_grow : {K : Type 0} → (o : Offer K) (a b : ℕ) → a ≤ b → choices_below o a ≤ choices_below o b
choices_grow {K} o a zero le = let none : a ≡ 0 = omega arith in let same : choices_below o a ≡ choices_below o 0 = ap (λ (n : ℕ). choices_below o n) none in omega arith
choices_grow {K} o a (suc b) le = by (nat_eq a (suc b)) refl (λ less. choices_grow o a b less)
  where
    by : (t : Bool) → nat_eq a (suc b) ≡ t → (a ≤ b → choices_below o a ≤ choices_below o b) → choices_below o a ≤ choices_below o (suc b)
    by true is rest = let same : a ≡ suc b = grind (arith, nat_tests) in let equal : choices_below o a ≡ choices_below o (suc b) = ap (λ (n : ℕ). choices_below o n) same in omega arith
    by false is rest =
        let less : a ≤ b = grind (arith, nat_tests) in
        let before : choices_below o a ≤ choices_below o b = rest less in
        let more = choices_more o b in
        omega arith
