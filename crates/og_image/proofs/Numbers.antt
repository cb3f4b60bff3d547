-- Numbers of a few bytes.
use Rattle.std.proofs.Common.{◌≡◌, ℕ, zero, suc, ◌+◌, ◌-◌, ◌*◌, ◌≤◌, ◌<◌, ◌^◌, arith, subst, add-zero}
use Rattle.std.proofs.Math.Nat.{pow-suc}

-- one byte more is one power of 256 more
pub one_more : (width less rest byte : ℕ) → width ≡ suc less → rest < 256 ^ less → byte < 256 → byte + 256 * rest < 256 ^ width
one_more width less rest byte is small low = rw (is, pow-suc) (omega arith)

-- more bytes, more numbers
grows : (width more : ℕ) → 256 ^ width ≤ 256 ^ (width + more)
grows width zero = rw add-zero (omega arith)
grows width (suc more) =
    let before : 256 ^ width ≤ 256 ^ (width + more) = grows width more in
    let next : width + suc more ≡ suc (width + more) = omega arith in
    rw (next, pow-suc) (omega arith)

-- eight bytes are below 2 ^ 64
pub in_word : (width : ℕ) → width ≤ 8 → 256 ^ width ≤ 256 ^ 8
in_word width le =
    let whole : width + (8 - width) ≡ 8 = omega arith in
    subst (λ (w : ℕ). 256 ^ width ≤ 256 ^ w) whole (grows width (8 - width))
