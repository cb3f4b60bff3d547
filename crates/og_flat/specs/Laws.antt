-- What flat memory is at the start, and what an access leaves alone.
use Rattle.std.specs.Prelude.{◌≡◌, ◌≢◌, ℕ, ◌/◌, ◌%◌, length, slice_index, None}
use Rattle.og_line.specs.declared.Access.{Access}
use Rattle.og_flat.specs.Flat.{Flat, block_of, flat_next, flat_start}

-- an access changes no other block and no other hart's reservation
abbrev pub OthersStay : Type 0
OthersStay =
    (flat : Flat) (hart : ℕ) (access : Access)
    → ((block : ℕ) → block ≢ block_of access → (flat_next flat hart access).memory block ≡ flat.memory block)
    × ((other : ℕ) → other ≢ hart → (flat_next flat hart access).reserved other ≡ flat.reserved other)

-- at the start each address has its byte, no block has seen a store, and no hart has a reservation
abbrev pub StartsWithBytes : Type 0
StartsWithBytes =
    (byte : ℕ → ℕ) (addr block hart : ℕ)
    → (slice_index ((flat_start byte).memory (addr / 128)).bytes (addr % 128) ≡ byte addr)
    × (length ((flat_start byte).memory block).bytes ≡ 128)
    × (((flat_start byte).memory block).stores ≡ 0)
    × ((flat_start byte).reserved hart ≡ None)
