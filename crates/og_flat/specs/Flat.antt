-- Flat memory: a line per block of 128 addresses, and a reservation per hart. Accesses are made one at a time. It
-- knows nothing of caches, messages, frames or moves.
use Rattle.std.specs.Prelude.{ℕ, zero, suc, ◌+◌, ◌*◌, ◌/◌, ◌==◌, List, [], ◌∷◌, ◌++◌, Option, None, if◌then◌else◌}
use Rattle.og_line.specs.declared.Line.{Line}
use Rattle.og_line.specs.declared.Reservation.{Reservation}
use Rattle.og_line.specs.declared.Access.{Access}
use Rattle.og_line.specs.Access.{addr_of, answer_of, line_after, reservation_after}

-- the line of each block, by the block's number, and the reservation of each hart
pub record Flat : Type 0 where
  pub memory : ℕ → Line
  pub reserved : ℕ → Option Reservation

-- the number of the block that an access is to
abbrev pub block_of : Access → ℕ
block_of access = addr_of access / 128

-- a function with one value changed
abbrev pub with_value : {X : Type 0} → (ℕ → X) → ℕ → X → ℕ → X
with_value f at x i = if i == at then x else f i

-- what a hart's access answers
abbrev pub flat_answer : Flat → ℕ → Access → ℕ
flat_answer flat hart access = answer_of (flat.memory (block_of access)) (flat.reserved hart) access

-- the memory after a hart's access
abbrev pub flat_next : Flat → ℕ → Access → Flat
flat_next flat hart access = record {
  memory = with_value flat.memory (block_of access)
      (line_after (flat.memory (block_of access)) (flat.reserved hart) access);
  reserved = with_value flat.reserved hart
      (reservation_after (flat.memory (block_of access)) (flat.reserved hart) access);
}

-- so many bytes from an address on
unfoldable pub bytes_from : (ℕ → ℕ) → ℕ → ℕ → List ℕ
bytes_from byte addr zero = []
bytes_from byte addr (suc count) = byte addr ∷ bytes_from byte (addr + 1) count

-- a block's line at the start
abbrev pub start_line : (ℕ → ℕ) → ℕ → Line
start_line byte block = record { bytes = bytes_from byte (128 * block) 128; stores = 0 }

-- the lines of so many blocks from one on, at the start
unfoldable pub start_lines : (ℕ → ℕ) → ℕ → ℕ → List Line
start_lines byte first zero = []
start_lines byte first (suc count) = start_lines byte first count ++ start_line byte (first + count) ∷ []

-- memory at the start, by the byte of each address: no block has seen a store, and no hart has a reservation
abbrev pub flat_start : (ℕ → ℕ) → Flat
flat_start byte = record { memory = start_line byte; reserved = λ hart. None }
