-- The bytes of a block at the start.
use Rattle.std.proofs.Common.{◌≡◌, ℕ, zero, suc, ◌+◌, ◌*◌, ◌/◌, ◌%◌, ◌<◌, length, get_or, refl, ap, ◌∙◌, arith}
use Rattle.og_flat.specs.Flat.{bytes_from, start_line}

-- there are as many as asked for
pub length-bytes_from : (byte : ℕ → ℕ) (addr count : ℕ) → length (bytes_from byte addr count) ≡ count
unfolding bytes_from
length-bytes_from byte addr zero = refl
length-bytes_from byte addr (suc count) = let rest = length-bytes_from byte (addr + 1) count in omega (arith, rest)

-- each is the byte of its address
pub get_or-bytes_from : (byte : ℕ → ℕ) (addr count i : ℕ) → i < count → get_or (bytes_from byte addr count) i 0 ≡ byte (addr + i)
unfolding bytes_from
get_or-bytes_from byte addr zero i h = absurd (omega arith)
get_or-bytes_from byte addr (suc count) zero h = ap byte (omega arith)
get_or-bytes_from byte addr (suc count) (suc i) h =
    get_or-bytes_from byte (addr + 1) count i (omega arith) ∙ ap byte (omega arith)

-- an address has its byte in its block's line
pub start_bytes : (byte : ℕ → ℕ) (addr : ℕ) → get_or (start_line byte (addr / 128)).bytes (addr % 128) 0 ≡ byte addr
start_bytes byte addr =
    get_or-bytes_from byte (128 * (addr / 128)) 128 (addr % 128) (omega arith) ∙ ap byte (omega arith)
