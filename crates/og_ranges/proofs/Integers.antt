-- Signed numbers that a number of 64 bits can be.
use Rattle.std.proofs.Common.{ℕ, zero, suc, ◌-◌, ◌/◌, ◌^◌, ◌<◌, ◌≤◌, Bool, true, false, cond, arith}
use Rattle.std.specs.Prelude.{ℤ, pos, negsuc, ◌-ℤ◌, nat_lt}
use Rattle.std.specs.Int.{Width, w64, cast_signed, cast_unsigned, int_shr}
use Rattle.std.proofs.lemmas.Nat.{shr_le}
use mir.Val.{sel, bits, hbits}
use lib.Dec.{ltb}
use Rattle.rv_decode.specs.Fields.{sign_extended}

-- from zero on below 2 ^ 64, or below zero
abbrev pub IsMild : ℤ → Type 0
IsMild (pos n) = n < 2 ^ 64
IsMild (negsuc n) = Unit {0}

pub mild_fits : (z : ℤ) → IsMild z → cast_unsigned w64 z < 2 ^ 64
mild_fits (pos n) mild = mild
mild_fits (negsuc n) mild = omega arith

either_mild : (t : Bool) (y z : ℤ) → IsMild y → IsMild z → IsMild (cond t y z)
either_mild true y z a b = a
either_mild false y z a b = b

selected_mild : (t : Bool) (y z : ℤ) → IsMild y → IsMild z → IsMild (sel t y z)
selected_mild true y z a b = a
selected_mild false y z a b = b

-- a number of 64 bits, less another
less_mild : (m n : ℕ) → m < 2 ^ 64 → IsMild (pos m -ℤ pos n)
less_mild m zero low = omega arith
less_mild m (suc n) low = either_mild (ltb m (suc n)) (negsuc (suc n - suc m)) (pos (m - suc n)) tt (omega arith)

pub extended_mild : (count x : ℕ) → x < 2 ^ 64 → IsMild (sign_extended count x)
extended_mild count x low = either_mild (nat_lt x (2 ^ (count - 1))) (pos x) (pos x -ℤ pos (2 ^ count)) low (less_mild x (2 ^ count) low)

pub signed_mild : (w : Width) (n : ℕ) → n < 2 ^ 64 → IsMild (cast_signed w n)
signed_mild w n low = selected_mild (ltb n (2 ^ hbits w)) (pos n) (negsuc (2 ^ bits w - suc n)) low tt

pub shifted_mild : (z : ℤ) (k : ℕ) → IsMild z → IsMild (int_shr z k)
shifted_mild (pos n) k mild = let less : n / 2 ^ k ≤ n = shr_le n k in let low : n < 2 ^ 64 = mild in omega arith
shifted_mild (negsuc n) k mild = tt
