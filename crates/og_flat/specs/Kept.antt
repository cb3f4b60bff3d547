-- What the plain program keeps of flat memory: the lines of the pages that a program has, 32 a page, and a reservation
-- for each hart.
use Rattle.std.specs.Prelude.{◌≡◌, ℕ, ◌+◌, ◌*◌, ◌/◌, ◌%◌, ◌<◌, ◌^◌, Bool, true, List, length, slice_index_or, Option, Some, None, is_some, nat_eq, position}
use Rattle.std.specs.Option.{option_map}
use Rattle.og_line.specs.declared.Line.{Line}
use Rattle.og_line.specs.declared.Reservation.{Reservation}
use Rattle.og_line.specs.declared.Access.{Access}
use Rattle.og_line.specs.Access.{IsAligned}
use Rattle.og_line.specs.Line.{zero_line}
use Rattle.og_flat.specs.Flat.{Flat, block_of}

pub record KeptState : Type 0 where
  pub pages : List ℕ
  pub lines : List Line
  pub reserved : List (Option Reservation)

-- the place of a block among the lines, if its page is kept
abbrev pub place_in : List ℕ → ℕ → Option ℕ
place_in pages block = option_map (λ i. 32 * i + block % 32) (position (nat_eq (block / 32)) pages)

abbrev pub has_block : KeptState → ℕ → Bool
has_block kept block = is_some (place_in kept.pages block)

abbrev pub line_at : List Line → Option ℕ → Line
line_at lines None = zero_line
line_at lines (Some at) = slice_index_or lines at zero_line

-- the line that is kept for a block
abbrev pub line_in : KeptState → ℕ → Line
line_in kept block = line_at kept.lines (place_in kept.pages block)

-- the program keeps this flat memory, on its pages and for its harts
pub record Keeps (kept : KeptState) (flat : Flat) : Type 0 where
  pub lines : (block : ℕ) → has_block kept block ≡ true → line_in kept block ≡ flat.memory block
  pub reserved : (hart : ℕ) → hart < length kept.reserved → slice_index_or kept.reserved hart None ≡ flat.reserved hart

-- the block of an access is kept and has seen fewer than 2 ^ 63 stores
pub record IsYoung (kept : KeptState) (access : Access) : Type 0 where
  pub placed : has_block kept (block_of access) ≡ true
  pub young : (line_in kept (block_of access)).stores < 2 ^ 63

-- an access of a hart that can be made
pub record Takes (kept : KeptState) (hart : ℕ) (access : Access) : Type 0 where
  pub aligned : IsAligned access
  pub hart_known : hart < length kept.reserved
  pub block_young : IsYoung kept access
