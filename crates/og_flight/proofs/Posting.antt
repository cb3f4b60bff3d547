-- Letters that go into flight one after another.
use Rattle.std.proofs.Common.{◌≡◌, ℕ, suc, ◌+◌, ◌<◌, Bool, true, false, cond, None, Some, List, [], ◌∷◌, length, drop, get_or, arith, sym, subst, ap, ◌∙◌, drop-cons}
use Rattle.std.proofs.lemmas.Bool.Decides.{nat_tests}
use Rattle.og_runs.specs.declared.Letter.{Letter}
use Rattle.og_runs.specs.declared.Msg.{Msg}
use Rattle.og_runs.specs.Runs.{posted, same_id}
use Rattle.og_runs.specs.World.{find, placed, placed_all, precedes}
use Rattle.og_runs.proofs.Placed.{find_insert}

pub placed_length : {K : Type 0} → (m : Msg K) (ms : List (Msg K)) → length (placed m ms) ≡ length ms + 1
placed_length m [] = omega arith
placed_length {K} m (x ∷ xs) = at (precedes x m) (placed_length m xs)
  where
    at : (b : Bool) → length (placed m xs) ≡ length xs + 1 → length (cond b (x ∷ placed m xs) (m ∷ x ∷ xs)) ≡ length (x ∷ xs) + 1
    at true h = omega arith
    at false h = omega arith

-- a later number stays free
pub stays_free : {K : Type 0} → (m : Msg K) (ms : List (Msg K)) (a k : ℕ) → find m.id ms ≡ None → m.id.seq < k → find (record { sender = a; seq = k }) ms ≡ None → find (record { sender = a; seq = k }) (placed m ms) ≡ None
stays_free {K} m ms a k none lt free =
    let other : same_id (record { sender = a; seq = k }) m.id ≡ false = grind (arith, nat_tests) in
    find_insert (record { sender = a; seq = k }) m ms none ∙ (ap (λ (b : Bool). cond b (Some m) (find (record { sender = a; seq = k }) ms)) other ∙ free)

-- the message of a letter
abbrev pub of_letter : {K : Type 0} → ℕ → ℕ → ℕ → Letter K → Msg K
of_letter a c k l = record { id = record { sender = a; seq = k }; to = l.to; stamp = record { clock = c; actor = a }; kind = l.kind }

-- one more letter has gone into flight
pub posted_more : {K : Type 0} → (a c first i : ℕ) (letters : List (Letter K)) (l : Letter K) (ms all : List (Msg K)) → i < length letters → l ≡ get_or letters i l →
    placed_all ms (posted a c (first + i) (drop i letters)) ≡ all → placed_all (placed (of_letter a c (first + i) l) ms) (posted a c (first + (i + 1)) (drop (i + 1) letters)) ≡ all
posted_more {K} a c first i letters l ms all lt is h =
    let d : drop i letters ≡ l ∷ drop (suc i) letters = drop-cons letters i l lt ∙ ap (λ (x : Letter K). x ∷ drop (suc i) letters) (sym is) in
    let e : placed_all ms (posted a c (first + i) (l ∷ drop (suc i) letters)) ≡ all = subst (λ (ls : List (Letter K)). placed_all ms (posted a c (first + i) ls) ≡ all) d h in
    let n : suc (first + i) ≡ first + (i + 1) = omega arith in
    let k : suc i ≡ i + 1 = omega arith in
    subst (λ (j : ℕ). placed_all (placed (of_letter a c (first + i) l) ms) (posted a c j (drop (i + 1) letters)) ≡ all) n
    (subst (λ (j : ℕ). placed_all (placed (of_letter a c (first + i) l) ms) (posted a c (suc (first + i)) (drop j letters)) ≡ all) k e)
