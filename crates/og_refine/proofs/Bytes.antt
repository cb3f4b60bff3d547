-- The byte at an address is that of its line.
use Rattle.std.proofs.Common.{◌≡◌, ◌∙◌, ℕ, ◌+◌, ◌*◌, ◌/◌, ◌%◌, ◌<◌, arith, ap, Some}
use Rattle.std.specs.Prelude.{slice_index_or}
use Rattle.std.specs.Option.{option_map}
use Rattle.og_line.specs.declared.Line.{Line}
use Rattle.og_machine.specs.Machine.{Machine}
use Rattle.og_machine.specs.Held.{held, held_byte}

block_is : (addr : ℕ) → addr / 4096 * 32 + addr / 128 % 32 ≡ addr / 128
block_is addr = grind (arith)

pub low : (addr : ℕ) → addr / 128 % 32 < 32
low addr = omega arith

pub byte_of_line : (w : Machine) (memory : ℕ → Line) (address : ℕ) → held w (record { 0 = address / 4096 }) (address / 128 % 32) ≡ Some (memory (address / 4096 * 32 + address / 128 % 32)) →
    held_byte w address ≡ Some (slice_index_or (memory (address / 128)).bytes (address % 128) 0)
unfolding held_byte
byte_of_line w memory address h = ap (option_map (λ (line : Line). slice_index_or line.bytes (address % 128) 0)) (h ∙ ap (λ (b : ℕ). Some (memory b)) (block_is address))
