-- Marks: one that is set or cleared, and how many there are.
use Rattle.std.proofs.Common.{◌≡◌, ◌≢◌, ◌∙◌, ℕ, zero, suc, ◌+◌, ◌*◌, ◌-◌, ◌^◌, ◌/◌, ◌%◌, ◌<◌, ◌≤◌, Bool, true, false, cond, min, nat_eq, nat_lt, arith, refl, sym, ap}
use Rattle.std.specs.Prelude.{bit_and, bit_or, count_ones, if◌then◌else◌}
use Rattle.std.specs.Int.{bit_at, bit_not, w128}
use lib.Count.{ones, ones_cat, ones-ones}
use Rattle.std.proofs.Math.Nat.{mod-eq_of_lt, mod-lt}
use Rattle.std.proofs.Math.Pow.{pow_pos, mod-mod-pow}
use Rattle.std.proofs.lemmas.Bool.Decides.{nat_tests}
use Rattle.std.proofs.lemmas.Nat.{and_mask, pow_below, mod-pow-add}
use Rattle.std.proofs.lemmas.Nat.Bits.{bit_at-lt, bit_at_and, bit_at-zero, bit_at_above, bit_at_set_same, bit_at_set_other, bit_at_clear_same, bit_at_clear_other}
use Rattle.og_sharers.specs.SetLaws.{mod-suc_bit}
use Rattle.og_choices.specs.Marks.{is_marked, marks_below}

-- ---- one mark

pub set_marked : (word k q : ℕ) → k < 128 → is_marked (bit_or word (1 * 2 ^ k % 2 ^ 128)) q ≡ (if nat_eq q k then true else is_marked word q)
set_marked word k q inside = at (nat_eq q k) refl
  where
    at : (b : Bool) → nat_eq q k ≡ b → nat_eq (bit_at (bit_or word (1 * 2 ^ k % 2 ^ 128)) q) 1 ≡ cond b true (nat_eq (bit_at word q) 1)
    at true is =
        let e : q ≡ k = grind (arith, nat_tests) in
        ap (λ b. nat_eq b 1) (ap (λ j. bit_at (bit_or word (1 * 2 ^ k % 2 ^ 128)) j) e ∙ bit_at_set_same w128 word k inside)
    at false is =
        let ne : q ≢ k = grind (arith, nat_tests) in
        ap (λ b. nat_eq b 1) (bit_at_set_other w128 word k inside q ne)

pub clear_marked : (word k q : ℕ) → word < 2 ^ 128 → k < 128 → is_marked (bit_and word (bit_not w128 (1 * 2 ^ k % 2 ^ 128))) q ≡ (if nat_eq q k then false else is_marked word q)
clear_marked word k q low inside = at (nat_eq q k) refl (nat_lt q 128) refl
  where
    at : (b : Bool) → nat_eq q k ≡ b → (c : Bool) → nat_lt q 128 ≡ c → nat_eq (bit_at (bit_and word (bit_not w128 (1 * 2 ^ k % 2 ^ 128))) q) 1 ≡ cond b false (nat_eq (bit_at word q) 1)
    at true is c lt =
        let e : q ≡ k = grind (arith, nat_tests) in
        ap (λ b. nat_eq b 1) (ap (λ j. bit_at (bit_and word (bit_not w128 (1 * 2 ^ k % 2 ^ 128))) j) e ∙ bit_at_clear_same w128 word k inside)
    at false is true lt =
        let ne : q ≢ k = grind (arith, nat_tests) in
        let below : q < 128 = grind (arith, nat_tests) in
        ap (λ b. nat_eq b 1) (bit_at_clear_other w128 word k inside q below ne)
    at false is false lt =
        let out : 128 ≤ q = grind (arith, nat_tests) in
        let none : bit_at word q ≡ 0 = bit_at_above word 128 q low out in
        let both : bit_at (bit_and word (bit_not w128 (1 * 2 ^ k % 2 ^ 128))) q ≡ min (bit_at word q) (bit_at (bit_not w128 (1 * 2 ^ k % 2 ^ 128)) q) = bit_at_and word (bit_not w128 (1 * 2 ^ k % 2 ^ 128)) q in
        let zero : bit_at (bit_and word (bit_not w128 (1 * 2 ^ k % 2 ^ 128))) q ≡ 0 = omega arith in
        ap (λ b. nat_eq b 1) zero ∙ sym (ap (λ b. nat_eq b 1) none)

-- nothing is marked in the word 0
pub none_marked : (q : ℕ) → is_marked 0 q ≡ false
none_marked q = ap (λ b. nat_eq b 1) (bit_at-zero q)

-- ---- how many

pub marks_below_is : (word a : ℕ) → marks_below word a ≡ count_ones (word % 2 ^ a)
unfolding marks_below ones
marks_below_is word zero = let none : word % 2 ^ 0 ≡ 0 = omega arith in sym (ap count_ones none)
marks_below_is word (suc a) = at (nat_eq (bit_at word a) 1) refl (marks_below_is word a)
  where
    low : word % 2 ^ a < 2 ^ a
    low = mod-lt word (pow_pos a)

    at : (b : Bool) → nat_eq (bit_at word a) 1 ≡ b → marks_below word a ≡ count_ones (word % 2 ^ a) → marks_below word a + cond b 1 0 ≡ count_ones (word % 2 ^ suc a)
    at true is before =
        let one : bit_at word a ≡ 1 = grind (arith, nat_tests) in
        let parts : word % 2 ^ suc a ≡ 1 * 2 ^ a + word % 2 ^ a = mod-suc_bit a word ∙ ap (λ b. b * 2 ^ a + word % 2 ^ a) one in
        let apart : count_ones (1 * 2 ^ a + word % 2 ^ a) ≡ count_ones 1 + count_ones (word % 2 ^ a) = ones_cat a 1 (word % 2 ^ a) low in
        let digit : count_ones 1 ≡ 1 = ones-ones 1 in
        let all : count_ones (word % 2 ^ suc a) ≡ count_ones (1 * 2 ^ a + word % 2 ^ a) = ap count_ones parts in
        omega arith
    at false is before =
        let small : bit_at word a < 2 = bit_at-lt word a in
        let none : bit_at word a ≡ 0 = grind (arith, nat_tests) in
        let parts : word % 2 ^ suc a ≡ 0 * 2 ^ a + word % 2 ^ a = mod-suc_bit a word ∙ ap (λ b. b * 2 ^ a + word % 2 ^ a) none in
        let same : word % 2 ^ suc a ≡ word % 2 ^ a = omega arith in
        let all : count_ones (word % 2 ^ suc a) ≡ count_ones (word % 2 ^ a) = ap count_ones same in
        omega arith

-- the lowest bits of a word of so many bits
pub low_bits : (word a width : ℕ) → a < width → bit_and word (1 * 2 ^ a % 2 ^ width - 1) ≡ word % 2 ^ a
low_bits word a width lt =
    let one : 1 * 2 ^ a ≡ 2 ^ a = omega arith in
    let small : 2 ^ a < 2 ^ width = pow_below a width lt in
    let mask : 1 * 2 ^ a % 2 ^ width ≡ 2 ^ a = ap (λ n. n % 2 ^ width) one ∙ mod-eq_of_lt small in
    ap (λ n. bit_and word (n - 1)) mask ∙ and_mask word a

-- the marks of the first 64 nodes are in the lower half
pub lower_half : (word a : ℕ) → a ≤ 64 → marks_below word a ≡ count_ones (word % 2 ^ 64 % 2 ^ a)
lower_half word a le =
    let parts : 64 - a + a ≡ 64 = omega arith in
    marks_below_is word a ∙ ap count_ones (sym (mod-mod-pow word (64 - a) a)) ∙ ap (λ n. count_ones (word % 2 ^ n % 2 ^ a)) parts

-- those of more nodes are all of the lower half and the first ones of the upper half
pub both_halves : (word a : ℕ) → 64 ≤ a → marks_below word a ≡ count_ones (word % 2 ^ 64) + count_ones (word / 2 ^ 64 % 2 ^ (a - 64))
both_halves word a le =
    let parts : a ≡ a - 64 + 64 = omega arith in
    let low : word % 2 ^ 64 < 2 ^ 64 = mod-lt word (pow_pos 64) in
    let split : marks_below word a ≡ count_ones (word / 2 ^ 64 % 2 ^ (a - 64) * 2 ^ 64 + word % 2 ^ 64) =
    marks_below_is word a ∙ ap (λ n. count_ones (word % 2 ^ n)) parts ∙ ap count_ones (mod-pow-add word (a - 64) 64) in
    let apart : count_ones (word / 2 ^ 64 % 2 ^ (a - 64) * 2 ^ 64 + word % 2 ^ 64) ≡ count_ones (word / 2 ^ 64 % 2 ^ (a - 64)) + count_ones (word % 2 ^ 64) = ones_cat 64 (word / 2 ^ 64 % 2 ^ (a - 64)) (word % 2 ^ 64) low in
    omega arith
