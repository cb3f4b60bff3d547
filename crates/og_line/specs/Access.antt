-- The flat memory's rule on one block: what an access answers, and what it leaves of the block's line and of its
-- hart's reservation. A reservation has an address, a width and the number of stores that its block had seen.
use Rattle.std.specs.Prelude.{◌≡◌, ℕ, ◌%◌, Bool, true, false, ◌&&◌, ◌==◌, if◌then◌else◌, Option, Some, None}
use Rattle.og_line.specs.declared.Line.{Line}
use Rattle.og_line.specs.declared.Reservation.{Reservation}
use Rattle.og_line.specs.declared.Access.{Access}
use Rattle.og_line.specs.declared.Access.TheVariants.{Load, Store, Reserve, Conditional, Atomic}
use Rattle.og_line.specs.Line.{IsWidth, IsAtomicWidth, load_of, store_of, atomic_value}

-- the address of an access
abbrev pub addr_of : Access → ℕ
addr_of (Load addr width) = addr
addr_of (Store addr width value) = addr
addr_of (Reserve addr width) = addr
addr_of (Conditional addr width value) = addr
addr_of (Atomic op addr width value) = addr

-- the width of an access, in bytes
abbrev pub width_of : Access → ℕ
width_of (Load addr width) = width
width_of (Store addr width value) = width
width_of (Reserve addr width) = width
width_of (Conditional addr width value) = width
width_of (Atomic op addr width value) = width

-- the operand of an access, 0 where it has none
abbrev pub operand_of : Access → ℕ
operand_of (Load addr width) = 0
operand_of (Store addr width value) = value
operand_of (Reserve addr width) = 0
operand_of (Conditional addr width value) = value
operand_of (Atomic op addr width value) = value

-- the access may store, and so needs a copy that may be written
abbrev pub is_write : Access → Bool
is_write (Load addr width) = false
is_write (Store addr width value) = true
is_write (Reserve addr width) = false
is_write (Conditional addr width value) = true
is_write (Atomic op addr width value) = true

-- the access has a width that its kind may have
abbrev pub HasWidth : Access → Type 0
HasWidth (Load addr width) = IsWidth width
HasWidth (Store addr width value) = IsWidth width
HasWidth (Reserve addr width) = IsAtomicWidth width
HasWidth (Conditional addr width value) = IsAtomicWidth width
HasWidth (Atomic op addr width value) = IsAtomicWidth width

-- what every access has: a width of its kind, and an address that is a multiple of it
pub record IsAligned (access : Access) : Type 0 where
  pub width_known : HasWidth access
  pub aligned : addr_of access % width_of access ≡ 0

-- the number of stores of the hart's reservation, where it is of this address and this width
abbrev pub standing_of : Option Reservation → ℕ → ℕ → Option ℕ
standing_of None addr width = None
standing_of (Some reservation) addr width =
    if (reservation.addr == addr) && (reservation.width == width) then Some reservation.stores else None

-- the hart's reservation is of this address, this width and this number of stores
abbrev pub is_reserved : Option Reservation → ℕ → ℕ → ℕ → Bool
is_reserved None addr width stores = false
is_reserved (Some reservation) addr width stores =
    (reservation.addr == addr) && (reservation.width == width) && (reservation.stores == stores)

-- what an access answers, by its block's line and its hart's reservation
abbrev pub answer_of : Line → Option Reservation → Access → ℕ
answer_of line reserved (Load addr width) = load_of line (addr % 128) width
answer_of line reserved (Store addr width value) = 0
answer_of line reserved (Reserve addr width) = load_of line (addr % 128) width
answer_of line reserved (Conditional addr width value) =
    if is_reserved reserved addr width line.stores then 0 else 1
answer_of line reserved (Atomic op addr width value) = load_of line (addr % 128) width

-- the block's line after the access
abbrev pub line_after : Line → Option Reservation → Access → Line
line_after line reserved (Load addr width) = line
line_after line reserved (Store addr width value) = store_of line (addr % 128) width value
line_after line reserved (Reserve addr width) = line
line_after line reserved (Conditional addr width value) =
    if is_reserved reserved addr width line.stores then store_of line (addr % 128) width value else line
line_after line reserved (Atomic op addr width value) =
    store_of line (addr % 128) width (atomic_value op width (load_of line (addr % 128) width) value)

-- the hart's reservation after the access
abbrev pub reservation_after : Line → Option Reservation → Access → Option Reservation
reservation_after line reserved (Load addr width) = reserved
reservation_after line reserved (Store addr width value) = reserved
reservation_after line reserved (Reserve addr width) =
    Some (record { addr = addr; width = width; stores = line.stores })
reservation_after line reserved (Conditional addr width value) = None
reservation_after line reserved (Atomic op addr width value) = reserved
