-- Harts seen as the theory's: what a hart wants of memory, and what it makes of a line.
use Rattle.std.specs.Prelude.{ℕ, ◌/◌, ◌%◌, Bool, true, false, not, Option, None, Some, is_some, length}
use Rattle.og_line.specs.declared.Line.{Line}
use Rattle.og_line.specs.declared.Reservation.{Reservation}
use Rattle.og_line.specs.declared.Access.{Access}
use Rattle.og_line.specs.Access.{is_write, addr_of, answer_of, line_after, reservation_after}
use Rattle.og_image.specs.Image.{ImageState}
use Rattle.rv_hart.specs.declared.hart.Need.{Need}
use Rattle.rv_hart.specs.declared.hart.Need.TheVariants as need
use Rattle.rv_hart.specs.Hart.{HartState, need_of, finish_of}
use Rattle.og_processor.specs.Access.{page_of, stores}
use Rattle.og_relate.specs.Data.{Harts}
use Rattle.og_seen.specs.Numbers.{Sizes, page_number}

-- a hart, with its reservation
pub record Hart : Type 0 where
  pub state : HartState
  pub reserved : Option Reservation

-- the access that a hart needs, if it needs one
abbrev pub access_in : Need → Option Access
access_in (need.Access access) = Some access
access_in other = None

abbrev pub access_of : ImageState → Hart → Option Access
access_of image h = access_in (need_of image h.state)

-- ---- of an access, or else of none

abbrev pub page_wanted : Sizes → Option Access → ℕ
page_wanted s None = length s.pages
page_wanted s (Some access) = page_number s (page_of (addr_of access))

abbrev pub number_wanted : Option Access → ℕ
number_wanted None = 0
number_wanted (Some access) = addr_of access / 128 % 32

abbrev pub only_reads : Option Access → Bool
only_reads None = true
only_reads (Some access) = not (is_write access)

abbrev pub stores_by : Option Access → Option Reservation → Line → Bool
stores_by None reserved line = false
stores_by (Some access) reserved line = stores line reserved access

abbrev pub line_left : Option Access → Option Reservation → Line → Line
line_left None reserved line = line
line_left (Some access) reserved line = line_after line reserved access

abbrev pub hart_left : ImageState → Hart → Option Access → Line → Hart
hart_left image h None line = h
hart_left image h (Some access) line = record {
  state = finish_of image h.state (answer_of line h.reserved access);
  reserved = reservation_after line h.reserved access;
}

abbrev pub harts_seen : ImageState → Sizes → Harts Line Hart
harts_seen image s = record {
  needs = λ h. is_some (access_of image h);
  page = λ h. page_wanted s (access_of image h);
  number = λ h. number_wanted (access_of image h);
  reads = λ h. only_reads (access_of image h);
  stores = λ h line. stores_by (access_of image h) h.reserved line;
  line_after = λ h line. line_left (access_of image h) h.reserved line;
  after = λ h line. hart_left image h (access_of image h) line;
}
