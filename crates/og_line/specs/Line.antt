-- What stands at a place of a line, and what a store and an atomic leave there.
-- A place is `width` bytes from byte `at` of the line; numbers lie there with their lowest byte first.
use Rattle.std.specs.Prelude.{◌≡◌, ℕ, ◌+◌, ◌%◌, ◌^◌, ◌≤◌, ◌⊎◌, ℤ, ◌++◌, take, drop, replicate, bit_and, bit_or, bit_xor, nat_le, int_le, if◌then◌else◌}
use Rattle.byteorder.specs.Endian.{little_number, little_bytes, twos_complement}
use Rattle.og_line.specs.declared.Line.{Line}
use Rattle.og_line.specs.declared.AtomicOp.{AtomicOp}
use Rattle.og_line.specs.declared.AtomicOp.TheVariants.{Swap, Add, Xor, And, Or, Min, Max, Minu, Maxu}

-- the widths of loads and stores, in bytes
abbrev pub IsWidth : ℕ → Type 0
IsWidth width = (width ≡ 1) ⊎ (width ≡ 2) ⊎ (width ≡ 4) ⊎ (width ≡ 8)

-- the widths of reserves, conditionals and atomics, in bytes
abbrev pub IsAtomicWidth : ℕ → Type 0
IsAtomicWidth width = (width ≡ 4) ⊎ (width ≡ 8)

-- the place at a multiple of its width, inside the line
pub record IsPlace (at width : ℕ) : Type 0 where
  pub width_known : IsWidth width
  pub aligned : at % width ≡ 0
  pub inside : at + width ≤ 128

-- the line of 128 zero bytes that has seen no store
abbrev pub zero_line : Line
zero_line = record { bytes = replicate 128 0; stores = 0 }

-- the number at a place
abbrev pub load_of : Line → ℕ → ℕ → ℕ
load_of line at width = little_number width (drop at line.bytes)

-- the line after a store of the low bytes of a value at a place: no other byte changes, and one more store is counted
abbrev pub store_of : Line → ℕ → ℕ → ℕ → Line
store_of line at width value = record {
  bytes = take at line.bytes ++ (little_bytes width value ++ drop (at + width) line.bytes);
  stores = line.stores + 1;
}

-- the low bytes of a number
abbrev pub low_bytes_of : ℕ → ℕ → ℕ
low_bytes_of width value = value % 256 ^ width

-- the signed number that `width` bytes are, in two's complement
abbrev pub signed_of : ℕ → ℕ → ℤ
signed_of width value = twos_complement width value

-- what an atomic stores: by the operation, the width, the old number and the operand, of which only the low bytes count
abbrev pub atomic_value : AtomicOp → ℕ → ℕ → ℕ → ℕ
atomic_value Swap width old operand = low_bytes_of width operand
atomic_value Add width old operand = low_bytes_of width (old + low_bytes_of width operand)
atomic_value Xor width old operand = bit_xor old (low_bytes_of width operand)
atomic_value And width old operand = bit_and old (low_bytes_of width operand)
atomic_value Or width old operand = bit_or old (low_bytes_of width operand)
atomic_value Min width old operand =
    if int_le (signed_of width old) (signed_of width (low_bytes_of width operand))
    then old
    else low_bytes_of width operand
atomic_value Max width old operand =
    if int_le (signed_of width old) (signed_of width (low_bytes_of width operand))
    then low_bytes_of width operand
    else old
atomic_value Minu width old operand =
    if nat_le old (low_bytes_of width operand) then old else low_bytes_of width operand
atomic_value Maxu width old operand =
    if nat_le old (low_bytes_of width operand) then low_bytes_of width operand else old
