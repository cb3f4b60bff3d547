-- Decimal numbers of a range.
use Rattle.std.specs.Prelude.{decimal, unwrap_or, nat_le, ◌&&◌, if◌then◌else◌}
use Rattle.std.proofs.Common.{◌≡◌, ℕ, ◌^◌, ◌<◌, ◌≤◌, Bool, true, false, List, arith, refl, sym, ap, subst, Option, None, Some, Result, Ok, ◌⊎◌, inl, inr}
use Rattle.std.proofs.Math.Path.{◌∙◌}
use Rattle.std.specs.Str.{bytes_eq}
use Rattle.std.specs.Str.Parse.{digits_value, ParsesUnsigned}
use Rattle.std.proofs.lemmas.Bool.{and_parts, and_from, leb-true, le-leb}
use Rattle.std.proofs.lemmas.Slice.Eq.{bytes_eq-Decides}
use Rattle.std.proofs.lemmas.Fmt.{parse-decimal, decimal_is_IsNumeral}
use Rattle.og_words.specs.Words.{number_in}

-- the choice where the test holds
pub if_holds : {A : Type 0} → (b : Bool) (x y : A) → b ≡ true → (if b then x else y) ≡ x
if_holds true x y h = refl
if_holds false x y h = absurd (cc h)

-- the choice where the test cannot hold
pub if_fails : {A : Type 0} → (b : Bool) (x y : A) → (b ≡ true → ⊥) → (if b then x else y) ≡ y
if_fails true x y h = absurd (h refl)
if_fails false x y h = refl

pub number_in-some : (low high n : ℕ) (word : List ℕ) → n < 2 ^ 64 → decimal n ≡ word → low ≤ n → n ≤ high → number_in low high word ≡ Some n
number_in-some low high n word small text above below =
    let value : digits_value 10 word ≡ n = ap (λ (bs : List ℕ). digits_value 10 bs) (sym text) ∙ (decimal_is_IsNumeral n small).1 in
    let P : ℕ → Type 0 = λ m. (if bytes_eq (decimal m) word && (nat_le low m && nat_le m high) then Some m else None) ≡ Some n in
    subst P (sym value) (if_holds _ (Some n) None (and_from _ _ ((bytes_eq-Decides (decimal n) word).1 text) (and_from _ _ (le-leb low n above) (le-leb n high below))))

-- no number of the range is written by the word, if the number that was read isn't
pub number_in-none : {E : Type 0} → (low high : ℕ) (word : List ℕ) (r : Result ℕ E) → high < 2 ^ 64 → ParsesUnsigned 64 10 word r →
    ((n : ℕ) → r ≡ Ok n → decimal n ≡ word → low ≤ n → n ≤ high → ⊥) → number_in low high word ≡ None
number_in-none low high word r small parsed wrong =
    let n : ℕ = digits_value 10 word in
    if_fails (bytes_eq (decimal n) word && (nat_le low n && nat_le n high)) (Some n) None (λ h.
    let parts = and_parts (bytes_eq (decimal n) word) (nat_le low n && nat_le n high) h in
    let within = and_parts (nat_le low n) (nat_le n high) parts.1 in
    let text : decimal n ≡ word = (bytes_eq-Decides (decimal n) word).0 parts.0 in
    let above : low ≤ n = leb-true low n within.0 in
    let below : n ≤ high = leb-true n high within.1 in
    wrong n (parse-decimal 64 n word r (omega arith) (omega arith) (sym text) parsed) text above below)

-- a word that writes the number that was read, in the range, is accepted
pub accepted : (low high m n : ℕ) (word text : List ℕ) (b : Bool) → ◌≡◌ {A = Option ℕ} (Some m) (Some n) → text ≡ decimal m → decimal n ≡ word → b ≡ bytes_eq text word → low ≤ n → n ≤ high →
    ((b ≡ true) × (low ≤ m) × (high < m)) ⊎ (((b ≡ true) × (m < low)) ⊎ (b ≡ false)) → ⊥
accepted low high m n word text b same is writes test above below (inl h) = let e : m ≡ n = ap (λ (o : Option ℕ). unwrap_or o 0) same in omega (arith, h.2)
accepted low high m n word text b same is writes test above below (inr (inl h)) = let e : m ≡ n = ap (λ (o : Option ℕ). unwrap_or o 0) same in omega (arith, h.1)
accepted low high m n word text b same is writes test above below (inr (inr h)) =
    let e : m ≡ n = ap (λ (o : Option ℕ). unwrap_or o 0) same in
    let equal : text ≡ word = is ∙ (ap (λ (k : ℕ). decimal k) e ∙ writes) in
    absurd (cc (test, h, (bytes_eq-Decides text word).1 equal))
