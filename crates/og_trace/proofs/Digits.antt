-- Hexadecimal digits, one by one.
use Rattle.std.proofs.Common.{◌≡◌, ℕ, zero, suc, ◌-◌, ◌*◌, ◌/◌, ◌%◌, ◌^◌, ◌<◌, List, [], ◌∷◌, ◌++◌, arith, sym, ap, append_assoc}
use Rattle.std.proofs.Math.Path.{◌∙◌}
use Rattle.og_trace.specs.Text.{hex_digit, hex_digits}

pub hex_digits_step : (k n : ℕ) → 0 < k → hex_digits k n ≡ hex_digit (n / 2 ^ (4 * (k - 1)) % 16) ∷ hex_digits (k - 1) n
hex_digits_step zero n lt = absurd (omega arith)
hex_digits_step (suc k) n lt = let one : k ≡ suc k - 1 = omega arith in ap (λ (j : ℕ). hex_digit (n / 2 ^ (4 * j) % 16) ∷ hex_digits j n) one

-- the text with one digit more
pub split_digit : (k n : ℕ) (before whole more : List ℕ) → 0 < k → before ++ hex_digits k n ≡ whole → more ≡ before ++ hex_digit (n / 2 ^ (4 * (k - 1)) % 16) ∷ [] → more ++ hex_digits (k - 1) n ≡ whole
split_digit k n before whole more lt split is =
    ap (λ (xs : List ℕ). xs ++ hex_digits (k - 1) n) is ∙
    (append_assoc before (hex_digit (n / 2 ^ (4 * (k - 1)) % 16) ∷ []) (hex_digits (k - 1) n) ∙
    (ap (λ (xs : List ℕ). before ++ xs) (sym (hex_digits_step k n lt)) ∙ split))
