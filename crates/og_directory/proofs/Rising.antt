-- The members of a list of numbers in a row, found one after another.
use Rattle.std.specs.Prelude.{◌≡◌, ℕ, zero, suc, ◌+◌, ◌<◌, ◌≤◌, Bool, true, false, not, ◌&&◌, nat_eq, nat_lt, cond, List, [], ◌∷◌, ◌++◌, length, map, refl}
use Rattle.std.specs.List.{filter}
use Rattle.std.specs.Ordering.{nat_cmp}
use Rattle.std.specs.FinSet as set
use Rattle.std.proofs.lemmas.Bool.Decides.{nat_tests}
use Rattle.og_base.specs.Groups.{group_of}
use Rattle.og_sharers.specs.Sets.{is_other}
use Rattle.std.proofs.Common.{arith, sym, ap, inl, inr, ◌⊎◌, ◌∙◌, length-append, append_assoc}
use Rattle.std.proofs.lemmas.List.{length-map}
use Rattle.std.proofs.Math.Nat.{eq-or-lt_of_le}
use Rattle.std.proofs.lemmas.List.Elements.{filter-append}
use Rattle.og_base.specs.Numbers.{below}

append-nil : {X : Type 0} (xs : List X) → xs ++ [] ≡ xs
append-nil [] = refl
append-nil (x ∷ xs) = ap (λ ys. x ∷ ys) (append-nil xs)

module _ (p : ℕ → Bool) where
  -- the members below n
  abbrev pub members_below : ℕ → List ℕ
  members_below n = filter p (below n)

  -- n is a member, or not
  pub members_below-member : (n : ℕ) → p n ≡ true → members_below (suc n) ≡ members_below n ++ n ∷ []
  unfolding below
  members_below-member n is = filter-append p (below n) (n ∷ []) ∙ ap (λ ys. filter p (below n) ++ ys) (ap (λ b. cond b (n ∷ []) []) is)

  pub members_below-other : (n : ℕ) → p n ≡ false → members_below (suc n) ≡ members_below n
  unfolding below
  members_below-other n is = filter-append p (below n) (n ∷ []) ∙ ap (λ ys. filter p (below n) ++ ys) (ap (λ b. cond b (n ∷ []) []) is) ∙ append-nil _

  -- between these numbers there is none
  pub members_below-gap : (from n : ℕ) → from ≤ n → ((k : ℕ) → from ≤ k → k < n → p k ≡ false) → members_below n ≡ members_below from
  members_below-gap from zero le none = let e : from ≡ zero = omega arith in ap members_below (sym e)
  members_below-gap from (suc n) le none = at (eq-or-lt_of_le le) (λ low. members_below-gap from n low (λ k a b. none k a (omega arith)))
    where
      at : (from ≡ suc n) ⊎ (from < suc n) → (from ≤ n → members_below n ≡ members_below from) → members_below (suc n) ≡ members_below from
      at (inl e) before = ap members_below (sym e)
      at (inr lt) before = members_below-other n (none n (omega arith) (omega arith)) ∙ before (omega arith)

  -- the next member is found
  pub members_below-next : (from n : ℕ) → from ≤ n → ((k : ℕ) → from ≤ k → k < n → p k ≡ false) → p n ≡ true → members_below (suc n) ≡ members_below from ++ n ∷ []
  members_below-next from n le none is = members_below-member n is ∙ ap (λ xs. xs ++ n ∷ []) (members_below-gap from n le none)

map-next : {X : Type 0} (f : ℕ → X) (xs : List ℕ) (n : ℕ) → map f (xs ++ n ∷ []) ≡ map f xs ++ f n ∷ []
map-next f [] n = refl
map-next f (x ∷ xs) n = ap (λ ys. f x ∷ ys) (map-next f xs n)

-- what was sent for the members below a number
pub record Sent {X : Type 0} (f : ℕ → X) (p : ℕ → Bool) (before now : List X) (from count : ℕ) : Type 0 where
  pub counted : count ≡ length (members_below p from)
  pub few : count ≤ from
  pub sent : now ≡ before ++ map f (members_below p from)

module _ {X : Type 0} (f : ℕ → X) (p : ℕ → Bool) (before : List X) where
  pub Sent-start : Sent f p before before 0 0
  unfolding below
  Sent-start = record { counted = refl; few = omega arith; sent = sym (append-nil before) }

  pub Sent-next : (now : List X) (from count n : ℕ) → Sent f p before now from count → from ≤ n → ((k : ℕ) → from ≤ k → k < n → p k ≡ false) → p n ≡ true →
      Sent f p before (now ++ f n ∷ []) (n + 1) (count + 1)
  Sent-next now from count n s le none is =
      let next : members_below p (suc n) ≡ members_below p from ++ n ∷ [] = members_below-next p from n le none is in
      let more : members_below p (n + 1) ≡ members_below p from ++ n ∷ [] = let e : n + 1 ≡ suc n = omega arith in ap (members_below p) e ∙ next in
      let c : count ≡ length (members_below p from) = s.counted in
      let l : length (members_below p (n + 1)) ≡ length (members_below p from ++ n ∷ []) = ap length more in
      let low : count ≤ from = s.few in
      record {
        counted = omega (arith, length-append (members_below p from) (n ∷ []));
        few = omega arith;
        sent = ap (λ xs. xs ++ f n ∷ []) s.sent ∙ append_assoc before (map f (members_below p from)) (f n ∷ []) ∙ ap (λ xs. before ++ xs) (sym (ap (map f) more ∙ map-next f (members_below p from) n));
      }

  pub Sent-all : (now : List X) (from count n : ℕ) → Sent f p before now from count → from ≤ n → ((k : ℕ) → from ≤ k → p k ≡ false) → Sent f p before now n count
  Sent-all now from count n s le none =
      let same : members_below p n ≡ members_below p from = members_below-gap p from n le (λ k a _. none k a) in
      let low : count ≤ from = s.few in
      record { counted = s.counted ∙ ap length (sym same); few = omega arith; sent = s.sent ∙ ap (λ xs. before ++ map f xs) (sym same) }

  pub length-Sent : (now : List X) (from count : ℕ) → Sent f p before now from count → length now ≤ length before + from
  length-Sent now from count s =
      let l : length now ≡ length (before ++ map f (members_below p from)) = ap length s.sent in
      let c : count ≡ length (members_below p from) = s.counted in
      let low : count ≤ from = s.few in
      omega (arith, length-append before (map f (members_below p from)), length-map (members_below p from) f)

-- another node is a node of the machine
pub other_low : (s : set.FinSet nat_cmp) (node nodes k : ℕ) → is_other s node nodes k ≡ true → k < nodes
other_low s node nodes k is = at (nat_lt k nodes) refl is
  where
    at : (b : Bool) → nat_lt k nodes ≡ b → (b && (set.contains s (group_of nodes k) && not (nat_eq k node))) ≡ true → k < nodes
    at true e h = grind (arith, nat_tests)
    at false e h = absurd (cc)
