-- Counting that stops at a bound.
use Rattle.std.proofs.Common.{◌≡◌, ℕ, ◌+◌, ◌*◌, ◌^◌, ◌<◌, ◌≤◌, min, List, [], ◌∷◌, arith, sym, ap, inl, inr, length, drop, get_or, add-one, drop-cons}
use Rattle.std.proofs.lemmas.Bool.{cases_lt}
use Rattle.std.proofs.Math.Path.{◌∙◌}
use Rattle.rv_asm.specs.Syntax.{digit_of, digits_from}

-- digits only make a number greater
grows : (base n : ℕ) (ds : List ℕ) → 1 ≤ base → n ≤ digits_from base n ds
grows base n [] some = omega arith
grows base n (d ∷ ds) some =
    let more : n ≤ n * base = scaled base n some in
    let later : n * base + digit_of d ≤ digits_from base (n * base + digit_of d) ds = grows base (n * base + digit_of d) ds some in
    omega (arith, more, later)
  where
    scaled : (base n : ℕ) → 1 ≤ base → n ≤ n * base
    scaled base n some = grind arith

-- the bound may be taken early
pub early : (base n : ℕ) (ds : List ℕ) → 1 ≤ base → min (digits_from base (min n (2 ^ 40)) ds) (2 ^ 40) ≡ min (digits_from base n ds) (2 ^ 40)
early base n ds some = elim (cases_lt n (2 ^ 40)) [
  | inl lt ↦ let same : min n (2 ^ 40) ≡ n = omega arith in ap (λ (m : ℕ). min (digits_from base m ds) (2 ^ 40)) same
  | inr ge ↦
      let cut : min n (2 ^ 40) ≡ 2 ^ 40 = omega arith in
      let a : 2 ^ 40 ≤ digits_from base (2 ^ 40) ds = grows base (2 ^ 40) ds some in
      let b : n ≤ digits_from base n ds = grows base n ds some in
      ap (λ (m : ℕ). min (digits_from base m ds) (2 ^ 40)) cut ∙ omega (arith, a, b)
]

pub capped_digit : (base n d : ℕ) (ds : List ℕ) → 1 ≤ base → min (digits_from base (min (n * base + digit_of d) (2 ^ 40)) ds) (2 ^ 40) ≡ min (digits_from base n (d ∷ ds)) (2 ^ 40)
capped_digit base n d ds some = early base (n * base + digit_of d) ds some

pub next_digit : (base n i : ℕ) (ds : List ℕ) (d m : ℕ) → 1 ≤ base → i < length ds → d ≡ digit_of (get_or ds i 0) → m ≡ min (n * base + d) (2 ^ 40) →
    min (digits_from base m (drop (i + 1) ds)) (2 ^ 40) ≡ min (digits_from base n (drop i ds)) (2 ^ 40)
next_digit base n i ds d m some lt digit is =
    let value : m ≡ min (n * base + digit_of (get_or ds i 0)) (2 ^ 40) = is ∙ ap (λ (k : ℕ). min (n * base + k) (2 ^ 40)) digit in
    let split : drop i ds ≡ get_or ds i 0 ∷ drop (i + 1) ds = drop-cons ds i 0 lt ∙ ap (λ (k : ℕ). get_or ds i 0 ∷ drop k ds) (sym (add-one i)) in
    ap (λ (k : ℕ). min (digits_from base k (drop (i + 1) ds)) (2 ^ 40)) value ∙ (capped_digit base n (get_or ds i 0) (drop (i + 1) ds) some ∙ ap (λ (l : List ℕ). min (digits_from base n l) (2 ^ 40)) (sym split))
