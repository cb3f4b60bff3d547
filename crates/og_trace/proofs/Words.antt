-- A word that was written is read: it has no blank, and its number is the number.
use Rattle.std.specs.Prelude.{decimal, codes}
use Rattle.std.proofs.Common.{◌≡◌, ℕ, zero, suc, ◌+◌, ◌*◌, ◌/◌, ◌%◌, ◌^◌, ◌<◌, ◌≤◌, ◌&&◌, List, [], ◌∷◌, ◌++◌, drop, arith, refl, sym, ap, ap₂, cond, true, false, Bool, not, nat_lt, nat_eq, append_assoc}
use Rattle.std.proofs.Math.Path.{◌∙◌}
use Rattle.std.proofs.Math.Nat.{div-div-eq-div-mul, div-le_self}
use Rattle.std.proofs.lemmas.Bool.Decides.{nat_tests}
use Rattle.std.proofs.lemmas.Fmt.{decimal_by_steps}
use Rattle.og_base.specs.declared.Frame.{Frame}
use Rattle.og_trace.specs.Text.{hex, hex_digit, hex_digits, frame_word, spaced, joined}
use Rattle.og_trace.specs.Reader.{before, from, word_in, after_word, with_decimal, with_hex, decimal_from, hex_from, decimal_of, hex_of, decimal_in, hex_in, frame_of, frame_in}

-- no byte of the word is this one
abbrev pub lacks : ℕ → List ℕ → Bool
lacks at [] = true
lacks at (c ∷ cs) = not (nat_eq c at) && lacks at cs

pub lacks_append : (at : ℕ) (xs ys : List ℕ) → lacks at xs ≡ true → lacks at ys ≡ true → lacks at (xs ++ ys) ≡ true
lacks_append at [] ys h k = k
lacks_append at (x ∷ xs) ys h k = go (nat_eq x at) h (lacks_append at xs ys)
  where
    go : (b : Bool) → (not b && lacks at xs) ≡ true → (lacks at xs ≡ true → lacks at ys ≡ true → lacks at (xs ++ ys) ≡ true) → (not b && lacks at (xs ++ ys)) ≡ true
    go true h later = absurd (cc)
    go false h later = later h k

-- ------------------------------------------------------------------------------ splitting

-- what follows begins with the byte, or is empty
abbrev begins : ℕ → List ℕ → Bool
begins at [] = true
begins at (c ∷ cs) = nat_eq c at

before_is : (at : ℕ) (w rest : List ℕ) → lacks at w ≡ true → begins at rest ≡ true → before at (w ++ rest) ≡ w
before_is at [] [] h k = refl
before_is at [] (c ∷ cs) h k = rw k refl
before_is at (c ∷ cs) rest h k = go (nat_eq c at) h (before_is at cs rest)
  where
    go : (b : Bool) → (not b && lacks at cs) ≡ true → (lacks at cs ≡ true → begins at rest ≡ true → before at (cs ++ rest) ≡ cs) → cond b [] (c ∷ before at (cs ++ rest)) ≡ c ∷ cs
    go true h later = absurd (cc)
    go false h later = ap (λ (l : List ℕ). c ∷ l) (later h k)

from_is : (at : ℕ) (w rest : List ℕ) → lacks at w ≡ true → begins at rest ≡ true → from at (w ++ rest) ≡ rest
from_is at [] [] h k = refl
from_is at [] (c ∷ cs) h k = rw k refl
from_is at (c ∷ cs) rest h k = go (nat_eq c at) h (from_is at cs rest)
  where
    go : (b : Bool) → (not b && lacks at cs) ≡ true → (lacks at cs ≡ true → begins at rest ≡ true → from at (cs ++ rest) ≡ rest) → cond b (c ∷ (cs ++ rest)) (from at (cs ++ rest)) ≡ rest
    go true h later = absurd (cc)
    go false h later = later h k

begins_spaced : (ws : List (List ℕ)) → begins 32 (spaced ws) ≡ true
begins_spaced [] = refl
begins_spaced (w ∷ ws) = refl

pub word_is : (w : List ℕ) (ws : List (List ℕ)) → lacks 32 w ≡ true → word_in (spaced (w ∷ ws)) ≡ w
word_is w ws h = before_is 32 w (spaced ws) h (begins_spaced ws)

pub after_is : (w : List ℕ) (ws : List (List ℕ)) → lacks 32 w ≡ true → after_word (spaced (w ∷ ws)) ≡ spaced ws
after_is w ws h = from_is 32 w (spaced ws) h (begins_spaced ws)

pub first_is : (w : List ℕ) (ws : List (List ℕ)) → lacks 32 w ≡ true → before 32 (joined (w ∷ ws)) ≡ w
first_is w ws h = before_is 32 w (spaced ws) h (begins_spaced ws)

pub rest_is : (w : List ℕ) (ws : List (List ℕ)) → lacks 32 w ≡ true → from 32 (joined (w ∷ ws)) ≡ spaced ws
rest_is w ws h = from_is 32 w (spaced ws) h (begins_spaced ws)

-- ------------------------------------------------------------------------------ decimal numbers

decimal_from_append : (n : ℕ) (xs : List ℕ) (c : ℕ) → decimal_from n (xs ++ c ∷ []) ≡ with_decimal (decimal_from n xs) c
decimal_from_append n [] c = refl
decimal_from_append n (x ∷ xs) c = decimal_from_append (with_decimal n x) xs c

-- digits are no such bytes, and write the number
abbrev Writes : ℕ → List ℕ → Type 0
Writes n ds = n < 2 ^ 64 → (decimal_from 0 ds ≡ n) × ((at : ℕ) → at < 48 → lacks at ds ≡ true)

one_digit : (n : ℕ) → n < 10 → Writes n ((48 + n) ∷ [])
one_digit n lt small = (omega arith, λ at low. let ne : nat_eq (48 + n) at ≡ false = grind (arith, nat_tests) in rw ne refl)

more_digits : (n : ℕ) (ds : List ℕ) → 10 ≤ n → Writes (n / 10) ds → Writes n (ds ++ (48 + n % 10) ∷ [])
more_digits n ds le h small =
    let less : n / 10 < 2 ^ 64 = omega arith in
    let value : with_decimal (n / 10) (48 + n % 10) ≡ n = omega arith in (
      decimal_from_append 0 ds (48 + n % 10) ∙ (ap (λ (m : ℕ). with_decimal m (48 + n % 10)) ((h less).0) ∙ value),
      λ at low. let ne : nat_eq (48 + n % 10) at ≡ false = grind (arith, nat_tests) in lacks_append at ds ((48 + n % 10) ∷ []) ((h less).1 at low) (rw ne refl),
    )

written : (n : ℕ) → n < 2 ^ 64 → (decimal_from 0 (decimal n) ≡ n) × ((at : ℕ) → at < 48 → lacks at (decimal n) ≡ true)
written n small = decimal_by_steps Writes one_digit more_digits n small small

pub decimal_of_is : (n : ℕ) → n < 2 ^ 64 → decimal_of (decimal n) ≡ n
unfolding decimal_of
decimal_of_is n small = (written n small).0

pub decimal_lacks : (at n : ℕ) → at < 48 → n < 2 ^ 64 → lacks at (decimal n) ≡ true
decimal_lacks at n low small = (written n small).1 at low

pub decimal_is : (n : ℕ) (ws : List (List ℕ)) → n < 2 ^ 64 → decimal_in (spaced (decimal n ∷ ws)) ≡ n
decimal_is n ws small = ap decimal_of (word_is (decimal n) ws (decimal_lacks 32 n (omega arith) small)) ∙ decimal_of_is n small

pub after_decimal : (n : ℕ) (ws : List (List ℕ)) → n < 2 ^ 64 → after_word (spaced (decimal n ∷ ws)) ≡ spaced ws
after_decimal n ws small = after_is (decimal n) ws (decimal_lacks 32 n (omega arith) small)

-- ------------------------------------------------------------------------------ hexadecimal numbers

digit_read : (q d : ℕ) → d < 16 → q * 16 + d < 2 ^ 64 → with_hex q (hex_digit d) ≡ q * 16 + d
digit_read q d lt small = go (nat_lt d 10) refl
  where
    go : (b : Bool) → nat_lt d 10 ≡ b → with_hex q (hex_digit d) ≡ q * 16 + d
    go true is =
        let low : d < 10 = grind (arith, nat_tests) in
        let here : nat_lt (48 + d) 58 ≡ true = grind (arith, nat_tests) in
        rw (is, here) (omega arith)
    go false is =
        let high : 10 ≤ d = grind (arith, nat_tests) in
        let there : nat_lt (87 + d) 58 ≡ false = grind (arith, nat_tests) in
        rw (is, there) (omega arith)

-- the digits above place k and the digit there
digit_step : (n k : ℕ) → n / 2 ^ (4 * suc k) * 16 + n / 2 ^ (4 * k) % 16 ≡ n / 2 ^ (4 * k)
digit_step n k =
    let four : 2 ^ (4 * suc k) ≡ 2 ^ (4 * k) * 16 = power k in
    let up : n / 2 ^ (4 * suc k) ≡ n / 2 ^ (4 * k) / 16 = ap (λ (p : ℕ). n / p) four ∙ sym (div-div-eq-div-mul n (2 ^ (4 * k)) 16) in
    rw up (omega arith)
  where
    power : (k : ℕ) → 2 ^ (4 * suc k) ≡ 2 ^ (4 * k) * 16
    power k = let e : 4 * suc k ≡ suc (suc (suc (suc (4 * k)))) = omega arith in rw e (omega arith)

hex_from_is : (n k : ℕ) → n < 2 ^ 64 → hex_from (n / 2 ^ (4 * k)) (hex_digits k n) ≡ n
hex_from_is n zero small = omega arith
hex_from_is n (suc k) small =
    let whole : n / 2 ^ (4 * suc k) * 16 + n / 2 ^ (4 * k) % 16 ≡ n / 2 ^ (4 * k) = digit_step n k in
    let less : n / 2 ^ (4 * k) ≤ n = shrinks n (2 ^ (4 * k)) in
    let digit : n / 2 ^ (4 * k) % 16 < 16 = omega arith in
    let read : with_hex (n / 2 ^ (4 * suc k)) (hex_digit (n / 2 ^ (4 * k) % 16)) ≡ n / 2 ^ (4 * k) = digit_read (n / 2 ^ (4 * suc k)) (n / 2 ^ (4 * k) % 16) digit (omega arith) ∙ whole in
    ap (λ (m : ℕ). hex_from m (hex_digits k n)) read ∙ hex_from_is n k small
  where
    shrinks : (n d : ℕ) → n / d ≤ n
    shrinks n d = div-le_self n d

hex_digit_lacks : (at d : ℕ) → at < 48 → nat_eq (hex_digit d) at ≡ false
hex_digit_lacks at d low = go (nat_lt d 10) refl
  where
    go : (b : Bool) → nat_lt d 10 ≡ b → nat_eq (hex_digit d) at ≡ false
    go true is = rw is (grind (arith, nat_tests))
    go false is = rw is (grind (arith, nat_tests))

hex_digits_lack : (at k n : ℕ) → at < 48 → lacks at (hex_digits k n) ≡ true
hex_digits_lack at zero n low = refl
hex_digits_lack at (suc k) n low =
    let ne : nat_eq (hex_digit (n / 2 ^ (4 * k) % 16)) at ≡ false = hex_digit_lacks at (n / 2 ^ (4 * k) % 16) low in
    ap (λ (b : Bool). not b && lacks at (hex_digits k n)) ne ∙ hex_digits_lack at k n low

pub hex_of_is : (n : ℕ) → n < 2 ^ 64 → hex_of (hex n) ≡ n
unfolding hex_of hex
hex_of_is n small =
    let top : n / 2 ^ (4 * 16) ≡ 0 = omega arith in
    ap (λ (m : ℕ). hex_from m (hex_digits 16 n)) (sym top) ∙ hex_from_is n 16 small

pub hex_lacks : (at n : ℕ) → at < 48 → lacks at (hex n) ≡ true
unfolding hex
hex_lacks at n low = hex_digits_lack at 16 n low

pub hex_is : (n : ℕ) (ws : List (List ℕ)) → n < 2 ^ 64 → hex_in (spaced (hex n ∷ ws)) ≡ n
hex_is n ws small = ap hex_of (word_is (hex n) ws (hex_lacks 32 n (omega arith))) ∙ hex_of_is n small

pub after_hex : (n : ℕ) (ws : List (List ℕ)) → after_word (spaced (hex n ∷ ws)) ≡ spaced ws
after_hex n ws = after_is (hex n) ws (hex_lacks 32 n (omega arith))

-- ------------------------------------------------------------------------------ frames

pub frame_lacks : (at : ℕ) (f : Frame) → at < 46 → f.home < 256 → f.index < 65536 → lacks at (frame_word f) ≡ true
frame_lacks at f low h i =
    let ne : nat_eq 46 at ≡ false = grind (arith, nat_tests) in
    lacks_append at (decimal f.home ++ codes ".") (decimal f.index) (lacks_append at (decimal f.home) (codes ".") (decimal_lacks at f.home (omega arith) (omega arith)) (rw ne refl)) (decimal_lacks at f.index (omega arith) (omega arith))

pub frame_of_is : (f : Frame) → f.home < 256 → f.index < 65536 → frame_of (frame_word f) ≡ f
unfolding frame_of
frame_of_is f h i =
    let shape : frame_word f ≡ decimal f.home ++ 46 ∷ decimal f.index = append_assoc (decimal f.home) (46 ∷ []) (decimal f.index) in
    let first : before 46 (frame_word f) ≡ decimal f.home = ap (before 46) shape ∙ before_is 46 (decimal f.home) (46 ∷ decimal f.index) (decimal_lacks 46 f.home (omega arith) (omega arith)) refl in
    let second : from 46 (frame_word f) ≡ 46 ∷ decimal f.index = ap (from 46) shape ∙ from_is 46 (decimal f.home) (46 ∷ decimal f.index) (decimal_lacks 46 f.home (omega arith) (omega arith)) refl in
    let home : decimal_of (before 46 (frame_word f)) % 2 ^ 8 ≡ f.home = ap (λ (w : List ℕ). decimal_of w % 2 ^ 8) first ∙ (ap (λ (n : ℕ). n % 2 ^ 8) (decimal_of_is f.home (omega arith)) ∙ omega arith) in
    let index : decimal_of (drop 1 (from 46 (frame_word f))) % 2 ^ 16 ≡ f.index = ap (λ (w : List ℕ). decimal_of (drop 1 w) % 2 ^ 16) second ∙ (ap (λ (n : ℕ). n % 2 ^ 16) (decimal_of_is f.index (omega arith)) ∙ omega arith) in
    ap₂ (λ (a b : ℕ). let g : Frame = record { home = a; index = b } in g) home index

pub frame_is : (f : Frame) (ws : List (List ℕ)) → f.home < 256 → f.index < 65536 → frame_in (spaced (frame_word f ∷ ws)) ≡ f
frame_is f ws h i = ap frame_of (word_is (frame_word f) ws (frame_lacks 32 f (omega arith) h i)) ∙ frame_of_is f h i

pub after_frame : (f : Frame) (ws : List (List ℕ)) → f.home < 256 → f.index < 65536 → after_word (spaced (frame_word f ∷ ws)) ≡ spaced ws
after_frame f ws h i = after_is (frame_word f) ws (frame_lacks 32 f (omega arith) h i)
