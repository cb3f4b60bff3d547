-- Words that the printer writes: which bytes they have, and what is read of them.
use Rattle.std.specs.Prelude.{decimal, ℤ, pos, negsuc, ◌-ℤ◌}
use Rattle.std.specs.Fmt.{signed_decimal}
use Rattle.std.specs.Int.Signed.{mag}
use Rattle.std.specs.List.{list_all}
use Rattle.std.proofs.Common.{◌≡◌, ℕ, suc, ◌+◌, ◌-◌, ◌*◌, ◌/◌, ◌%◌, ◌^◌, ◌<◌, ◌≤◌, ◌==◌, ◌&&◌, ◌||◌, Bool, true, false, nat_lt, List, [], ◌∷◌, ◌++◌, length, arith, refl, sym, ap, ap₂, Some, inl, inr}
use Rattle.std.proofs.Math.Path.{◌∙◌}
use Rattle.std.proofs.lemmas.Bool.{cases_lt}
use Rattle.std.proofs.lemmas.Bool.Decides.{nat_tests}
use Rattle.std.proofs.lemmas.Int.{ints}
use Rattle.std.proofs.lemmas.Fmt.{decimal_by_steps, decimal_digit, decimal_step, decimal_nonempty}
use Rattle.rv_asm.specs.Syntax.{is_digit, is_letter, is_name_byte, is_word_byte, is_hex, is_name, is_number, digit_of, digits_from, value_of}
use Rattle.rv_asm.specs.Registers.{register_in, numbered_in}
use Rattle.rv_asm.specs.Printed.{register_text}

pub all_append : (p : ℕ → Bool) (xs ys : List ℕ) → list_all p xs ≡ true → list_all p ys ≡ true → list_all p (xs ++ ys) ≡ true
all_append p [] ys h k = k
all_append p (x ∷ xs) ys h k = go (p x) refl h (all_append p xs ys)
  where
    go : (b : Bool) → p x ≡ b → (b && list_all p xs) ≡ true → (list_all p xs ≡ true → list_all p ys ≡ true → list_all p (xs ++ ys) ≡ true) → (b && list_all p (xs ++ ys)) ≡ true
    go true e h later = later h k
    go false e h later = absurd (cc)

-- what holds of each byte of one kind, holds of a list of them
pub all_so : (p q : ℕ → Bool) → ((c : ℕ) → p c ≡ true → q c ≡ true) → (xs : List ℕ) → list_all p xs ≡ true → list_all q xs ≡ true
all_so p q so [] h = refl
all_so p q so (x ∷ xs) h = go (p x) refl h (all_so p q so xs)
  where
    go : (b : Bool) → p x ≡ b → (b && list_all p xs) ≡ true → (list_all p xs ≡ true → list_all q xs ≡ true) → (q x && list_all q xs) ≡ true
    go true e k later = rw (so x e, later k) refl
    go false e k later = absurd (cc)

-- ------------------------------------------------------------------------------ digits

digit_is : (d : ℕ) → d < 10 → is_digit (48 + d) ≡ true
unfolding is_digit
digit_is d h = grind (arith, nat_tests)

pub first_all : (p : ℕ → Bool) (x : ℕ) (xs : List ℕ) → (p x && list_all p xs) ≡ true → p x ≡ true
first_all p x xs h = go (p x) h
  where
    go : (b : Bool) → (b && list_all p xs) ≡ true → b ≡ true
    go true k = refl
    go false k = absurd (cc)

-- decimal digits write a number
record Writes (n : ℕ) (ds : List ℕ) : Type 0 where
  digits : list_all is_digit ds ≡ true
  value : digits_from 10 0 ds ≡ n

from_append : (n : ℕ) (xs : List ℕ) (c : ℕ) → digits_from 10 n (xs ++ c ∷ []) ≡ digits_from 10 n xs * 10 + digit_of c
from_append n [] c = refl
from_append n (x ∷ xs) c = from_append (n * 10 + digit_of x) xs c

digit_value : (d : ℕ) → d < 10 → digit_of (48 + d) ≡ d
digit_value d h = let low : nat_lt (48 + d) 58 ≡ true = grind (arith, nat_tests) in rw low (omega arith)

one_digit : (n : ℕ) → n < 10 → Writes n ((48 + n) ∷ [])
one_digit n lt = record { digits = rw (digit_is n lt) refl; value = ap (λ (d : ℕ). 0 * 10 + d) (digit_value n lt) ∙ omega arith }

more_digits : (n : ℕ) (ds : List ℕ) → 10 ≤ n → Writes (n / 10) ds → Writes n (ds ++ (48 + n % 10) ∷ [])
more_digits n ds le h =
    let small : n % 10 < 10 = omega arith in
    record {
      digits = all_append is_digit ds ((48 + n % 10) ∷ []) h.digits (rw (digit_is (n % 10) small) refl);
      value = from_append 0 ds (48 + n % 10) ∙ (ap₂ (λ (a b : ℕ). a * 10 + b) h.value (digit_value (n % 10) small) ∙ omega arith);
    }

written : (n : ℕ) → n < 2 ^ 64 → Writes n (decimal n)
written n small = decimal_by_steps Writes one_digit more_digits n small

pub decimal_digits : (n : ℕ) → n < 2 ^ 64 → list_all is_digit (decimal n) ≡ true
decimal_digits n small = (written n small).digits

decimal_value : (n : ℕ) → n < 2 ^ 64 → digits_from 10 0 (decimal n) ≡ n
decimal_value n small = (written n small).value

-- ------------------------------------------------------------------------------ numbers

digit_apart : (c : ℕ) → is_digit c ≡ true → (is_letter c ≡ false) × ((c == 45) ≡ false) × ((c == 120) ≡ false)
unfolding is_digit is_letter
digit_apart c h =
    let low : 48 ≤ c = grind (arith, nat_tests) in
    let high : c ≤ 57 = grind (arith, nat_tests) in
    (grind (arith, nat_tests), grind (arith, nat_tests), grind (arith, nat_tests))

-- digits are a number, and no name
record IsDigits (ds : List ℕ) : Type 0 where
  head : ℕ
  tail : List ℕ
  split : ds ≡ head ∷ tail
  first : is_digit head ≡ true
  rest : list_all is_digit tail ≡ true

digits_split : (ds : List ℕ) → 0 < length ds → list_all is_digit ds ≡ true → IsDigits ds
digits_split [] some h = absurd (omega arith)
digits_split (c ∷ cs) some h = go (is_digit c) refl h
  where
    go : (b : Bool) → is_digit c ≡ b → (b && list_all is_digit cs) ≡ true → IsDigits (c ∷ cs)
    go true e k = record { head = c; tail = cs; split = refl; first = e; rest = k }
    go false e k = absurd (cc)

no_hex : (z y : Bool) → ((z && false) && y) ≡ false
no_hex true y = refl
no_hex false y = refl

not_hex : (c : ℕ) (cs : List ℕ) → list_all is_digit cs ≡ true → is_hex (c ∷ cs) ≡ false
not_hex c [] h = refl
not_hex c (d ∷ ds) h = let e = (digit_apart d (first_all is_digit d ds h)).2 in rw e (no_hex (c == 48) _)

pub natural_number : (n : ℕ) → n < 2 ^ 64 → is_number (decimal n) ≡ true
unfolding is_number
natural_number n small =
    let d : IsDigits (decimal n) = digits_split (decimal n) (decimal_nonempty n small) (decimal_digits n small) in
    let minus = (digit_apart d.head d.first).1 in
    rw (d.split, minus, d.first, d.rest) refl

pub natural_no_name : (n : ℕ) → n < 2 ^ 64 → is_name (decimal n) ≡ false
natural_no_name n small =
    let d : IsDigits (decimal n) = digits_split (decimal n) (decimal_nonempty n small) (decimal_digits n small) in
    let letter = (digit_apart d.head d.first).0 in
    rw (d.split, letter) refl

pub natural_value : (n : ℕ) → n < 2 ^ 64 → value_of (decimal n) ≡ pos n
unfolding value_of
natural_value n small =
    let d : IsDigits (decimal n) = digits_split (decimal n) (decimal_nonempty n small) (decimal_digits n small) in
    let minus = (digit_apart d.head d.first).1 in
    let plain = not_hex d.head d.tail d.rest in
    let whole : digits_from 10 0 (d.head ∷ d.tail) ≡ n = ap (digits_from 10 0) (sym d.split) ∙ decimal_value n small in
    rw (d.split, minus, plain) (ap pos whole)

pub signed_number : (z : ℤ) → mag z < 2 ^ 63 → is_number (signed_decimal z) ≡ true
unfolding is_number
signed_number (pos n) small = natural_number n (omega arith)
signed_number (negsuc n) small =
    let d : IsDigits (decimal (suc n)) = digits_split (decimal (suc n)) (decimal_nonempty (suc n) (omega arith)) (decimal_digits (suc n) (omega arith)) in
    rw (d.split, d.first, d.rest) refl

pub signed_no_name : (z : ℤ) → mag z < 2 ^ 63 → is_name (signed_decimal z) ≡ false
unfolding is_letter
signed_no_name (pos n) small = natural_no_name n (omega arith)
signed_no_name (negsuc n) small = refl

below_zero : (n : ℕ) → pos 0 -ℤ pos (suc n) ≡ negsuc n
below_zero n = grind (arith, ints)

pub signed_value : (z : ℤ) → mag z < 2 ^ 63 → value_of (signed_decimal z) ≡ z
unfolding value_of
signed_value (pos n) small = natural_value n (omega arith)
signed_value (negsuc n) small = ap (λ (m : ℕ). pos 0 -ℤ pos m) (decimal_value (suc n) (omega arith)) ∙ below_zero n

-- ------------------------------------------------------------------------------ registers

digit_name : (c : ℕ) → is_digit c ≡ true → is_name_byte c ≡ true
unfolding is_name_byte
digit_name c h = rw h (either (is_letter c))
  where
    either : (b : Bool) → (b || true) ≡ true
    either true = refl
    either false = refl

pub register_name : (r : ℕ) → r < 32 → is_name (register_text r) ≡ true
unfolding is_letter
register_name r small = all_so is_digit is_name_byte digit_name (decimal r) (decimal_digits r (omega arith))

numbered_x : (n r : ℕ) → n ≡ r → r < 32 → numbered_in 120 (Some n) ≡ Some r
numbered_x n r same small =
    let low : nat_lt r 32 ≡ true = grind (arith, nat_tests) in
    ap (λ (k : ℕ). numbered_in 120 (Some k)) same ∙ rw low refl

pub register_read : (r : ℕ) → r < 32 → register_in (register_text r) ≡ Some r
unfolding register_in
register_read r small = elim (cases_lt r 10) [
  | inl low ↦ rw (decimal_digit r low, digit_is r low) (numbered_x (48 + r - 48) r (omega arith) small)
  | inr high ↦
      let tens : r / 10 < 10 = omega arith in
      let ones : r % 10 < 10 = omega arith in
      let some : (48 + r / 10 == 48) ≡ false = grind (arith, nat_tests) in
      let text : decimal r ≡ (48 + r / 10) ∷ (48 + r % 10) ∷ [] = decimal_step r high (omega arith) ∙ ap (λ (ds : List ℕ). ds ++ (48 + r % 10) ∷ []) (decimal_digit (r / 10) tens) in
      rw (text, digit_is (r / 10) tens, digit_is (r % 10) ones, some) (numbered_x ((48 + r / 10 - 48) * 10 + (48 + r % 10 - 48)) r (omega arith) small)
]

-- ------------------------------------------------------------------------------ bytes of words

-- a word as the printer writes it
pub record IsWord (w : List ℕ) : Type 0 where
  pub bytes : list_all is_word_byte w ≡ true
  pub some : 0 < length w

digit_word : (c : ℕ) → is_digit c ≡ true → is_word_byte c ≡ true
unfolding is_word_byte
digit_word c h = rw (digit_name c h) refl

pub natural_word : (n : ℕ) → n < 2 ^ 64 → IsWord (decimal n)
natural_word n small = record { bytes = all_so is_digit is_word_byte digit_word (decimal n) (decimal_digits n small); some = decimal_nonempty n small }

pub signed_word : (z : ℤ) → mag z < 2 ^ 63 → IsWord (signed_decimal z)
unfolding is_word_byte is_name_byte is_letter is_digit
signed_word (pos n) small = natural_word n (omega arith)
signed_word (negsuc n) small = record { bytes = (natural_word (suc n) (omega arith)).bytes; some = omega arith }

pub register_word : (r : ℕ) → r < 32 → IsWord (register_text r)
unfolding is_word_byte is_name_byte is_letter is_digit
register_word r small = record { bytes = (natural_word r (omega arith)).bytes; some = omega arith }
