-- The words of a state tell the state.
use Rattle.std.specs.Prelude.{◌≡◌, Bool, ℕ, ◌+◌, ◌*◌, ◌/◌, ◌%◌, ◌^◌, ◌<◌, true, false, nat_eq, cond, refl, bit_and, bit_or}
use Rattle.std.specs.Ordering.{nat_cmp}
use Rattle.std.specs.FinSet as set
use Rattle.std.proofs.Common.{arith, sym, ap, ap₂, ◌∙◌}
use Rattle.std.proofs.lemmas.Nat.{or_shifted}
use Rattle.std.proofs.lemmas.Bool.Decides.{nat_tests}
use Rattle.og_sharers.specs.Sets.{members_of, word_of}
use Rattle.og_sharers.specs.SetLaws.{members_of-word_of}
use Rattle.std.proofs.lemmas.Grind.{and_numeral}
use Rattle.og_directory.specs.declared.entry.State.{State}
use Rattle.og_directory.specs.declared.entry.State.TheVariants.{Unowned, Shared, Exclusive, BusyShared, BusyExclusive, BusyPoison, Poison}
use Rattle.og_directory.specs.Words.{head_of, set_of, FieldsFit, IsKept, state_with, state_of, IsPacked}

-- a head with these fields
record Fields (head : ℕ) (s : set.FinSet nat_cmp) (number owner requester returned : ℕ) : Type 0 where
  number_is : head % 2 ^ 3 ≡ number
  owner_is : head / 2 ^ 8 % 2 ^ 8 ≡ owner
  requester_is : head / 2 ^ 16 % 2 ^ 8 ≡ requester
  returned_is : head / 2 ^ 24 % 2 ≡ returned

state_with-fields : (head : ℕ) (s : set.FinSet nat_cmp) (n q r t : ℕ) → Fields head s n q r t → state_of head s ≡ state_with n s q r (nat_eq t 1)
unfolding state_of
state_with-fields head s n q r t f = let a = f.number_is in let b = f.owner_is in let c = f.requester_is in let d = f.returned_is in cc

-- what the masks of the code take out of a head
pub state_of-masked : (head : ℕ) (s : set.FinSet nat_cmp) (n : ℕ) → bit_and head 7 ≡ n →
    state_of head s ≡ state_with n s (bit_and (head / 256) 255) (bit_and (head / 65536) 255) (nat_eq (bit_and (head / 16777216) 1) 1)
state_of-masked head s n is =
    state_with-fields head s n _ _ (bit_and (head / 16777216) 1) (record {
      number_is = sym (and_numeral head 6 refl) ∙ is;
      owner_is = sym (and_numeral (head / 256) 254 refl);
      requester_is = sym (and_numeral (head / 65536) 254 refl);
      returned_is = sym (and_numeral (head / 16777216) 0 refl);
    })

-- a head and a set of a state give that state
pub state_of-words : (s : State) → FieldsFit s → state_of (head_of s) (set_of s) ≡ s
state_of-words Unowned fit = state_with-fields _ set.empty 0 0 0 0 (record { number_is = refl; owner_is = refl; requester_is = refl; returned_is = refl })
state_of-words (Shared s) fit = state_with-fields _ s 1 0 0 0 (record { number_is = refl; owner_is = refl; requester_is = refl; returned_is = refl })
state_of-words (Exclusive q) fit = state_with-fields _ set.empty 2 q 0 0 (record { number_is = omega arith; owner_is = omega arith; requester_is = omega arith; returned_is = omega arith })
state_of-words (BusyShared q r) fit = state_with-fields _ set.empty 3 q r 0 (record { number_is = omega arith; owner_is = omega arith; requester_is = omega arith; returned_is = omega arith })
state_of-words (BusyExclusive q r false) fit = state_with-fields _ set.empty 4 q r 0 (record { number_is = omega arith; owner_is = omega arith; requester_is = omega arith; returned_is = omega arith })
state_of-words (BusyExclusive q r true) fit = state_with-fields _ set.empty 4 q r 1 (record { number_is = omega arith; owner_is = omega arith; requester_is = omega arith; returned_is = omega arith })
state_of-words (BusyPoison q) fit = state_with-fields _ set.empty 5 q 0 0 (record { number_is = omega arith; owner_is = omega arith; requester_is = omega arith; returned_is = omega arith })
state_of-words Poison fit = state_with-fields _ set.empty 6 0 0 0 (record { number_is = refl; owner_is = refl; requester_is = refl; returned_is = refl })

-- and they are just its words
pub packed-words : (s : State) (head : ℕ) (groups : set.FinSet nat_cmp) → FieldsFit s → head ≡ head_of s → groups ≡ set_of s → IsPacked head groups
packed-words s head groups fit h g =
    let same : state_of head groups ≡ s = ap₂ (λ x y. state_of x y) h g ∙ state_of-words s fit in
    record { head_is = ap (λ x. head_of x) same ∙ sym h; set_is = ap (λ x. set_of x) same ∙ sym g }

pub state_of-packed : (s : State) (head : ℕ) (groups : set.FinSet nat_cmp) → FieldsFit s → head ≡ head_of s → groups ≡ set_of s → state_of head groups ≡ s
state_of-packed s head groups fit h g = ap₂ (λ x y. state_of x y) h g ∙ state_of-words s fit

-- any other number is that of poison
pub state_with-other : (n : ℕ) (s : set.FinSet nat_cmp) (q r : ℕ) (t : Bool) → (n ≡ 0 → ⊥) → (n ≡ 1 → ⊥) → (n ≡ 2 → ⊥) → (n ≡ 3 → ⊥) → (n ≡ 4 → ⊥) → (n ≡ 5 → ⊥) → state_with n s q r t ≡ Poison
state_with-other n s q r t z0 z1 z2 z3 z4 z5 =
    let a : nat_eq n 0 ≡ false = grind (arith, nat_tests) in
    let b : nat_eq n 1 ≡ false = grind (arith, nat_tests) in
    let c : nat_eq n 2 ≡ false = grind (arith, nat_tests) in
    let d : nat_eq n 3 ≡ false = grind (arith, nat_tests) in
    let e : nat_eq n 4 ≡ false = grind (arith, nat_tests) in
    let f : nat_eq n 5 ≡ false = grind (arith, nat_tests) in
    rw (a, b, c, d, e, f) refl

-- the fields of a head are numbers below 256
pub FieldsFit-state_of : (head : ℕ) (s : set.FinSet nat_cmp) → FieldsFit (state_of head s)
unfolding state_of
FieldsFit-state_of head s = fit _ _ _ (nat_eq (head % 8) 0) (nat_eq (head % 8) 1) (nat_eq (head % 8) 2) (nat_eq (head % 8) 3) (nat_eq (head % 8) 4) (nat_eq (head % 8) 5) (omega arith) (omega arith)
  where
    fit : (q r : ℕ) (t : Bool) (a b c d e f : Bool) → q < 256 → r < 256 →
        FieldsFit (cond a Unowned (cond b (Shared s) (cond c (Exclusive q) (cond d (BusyShared q r) (cond e (BusyExclusive q r t) (cond f (BusyPoison q) Poison))))))
    fit q r t true b c d e f x y = tt
    fit q r t false true c d e f x y = tt
    fit q r t false false true d e f x y = x
    fit q r t false false false true e f x y = (x, y)
    fit q r t false false false false true f x y = (x, y)
    fit q r t false false false false false true x y = x
    fit q r t false false false false false false x y = tt

-- the state of the words of a state that an entry can hold
pub read_back : (s : State) (head word : ℕ) → IsKept s → head_of s ≡ head → word_of 64 (set_of s) ≡ word → state_of head (members_of 64 word) ≡ s
read_back s head word kept h w =
    state_of-packed s head (members_of 64 word) kept.fields (sym h) (sym (sym (members_of-word_of 64 (set_of s) kept.groups) ∙ ap (λ n. members_of 64 n) w))

-- ------------------------------------------------------------ bits

pub packed_fields : (n q r t : ℕ) → n < 8 → q < 256 → r < 256 → t < 2 →
    bit_or (bit_or (bit_or (t * 2 ^ 24 % 2 ^ 64) (r * 2 ^ 16 % 2 ^ 64)) (q * 2 ^ 8 % 2 ^ 64)) n ≡ n + 2 ^ 8 * q + 2 ^ 16 * r + 2 ^ 24 * t
packed_fields n q r t small owner requester returned =
    let a : bit_or (t * 2 ^ 24 % 2 ^ 64) (r * 2 ^ 16 % 2 ^ 64) ≡ (t * 2 ^ 8 + r) * 2 ^ 16 =
    ap₂ (λ x y. bit_or x y) (let e : t * 2 ^ 24 % 2 ^ 64 ≡ t * 2 ^ 24 = omega arith in e) (let e : r * 2 ^ 16 % 2 ^ 64 ≡ r * 2 ^ 16 = omega arith in e) ∙ or_shifted t 24 (r * 2 ^ 16) (omega arith) ∙ omega arith in
    let b : bit_or ((t * 2 ^ 8 + r) * 2 ^ 16) (q * 2 ^ 8 % 2 ^ 64) ≡ ((t * 2 ^ 8 + r) * 2 ^ 8 + q) * 2 ^ 8 =
    ap (λ y. bit_or ((t * 2 ^ 8 + r) * 2 ^ 16) y) (let e : q * 2 ^ 8 % 2 ^ 64 ≡ q * 2 ^ 8 = omega arith in e) ∙ or_shifted (t * 2 ^ 8 + r) 16 (q * 2 ^ 8) (omega arith) ∙ omega arith in
    ap (λ x. bit_or (bit_or x (q * 2 ^ 8 % 2 ^ 64)) n) a ∙ ap (λ x. bit_or x n) b ∙ or_shifted ((t * 2 ^ 8 + r) * 2 ^ 8 + q) 8 n (omega arith) ∙ omega arith
