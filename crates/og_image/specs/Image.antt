-- A loaded program: its segments, and what its memory is at the start.
use Rattle.std.specs.Prelude.{◌≡◌, ℕ, zero, suc, ◌+◌, ◌-◌, ◌*◌, ◌/◌, ◌%◌, ◌≤◌, ◌<◌, ◌&&◌, ◌||◌, Bool, true, false, not, nat_le, nat_lt, nat_eq, List, [], ◌∷◌, slice_index, cond}
use Rattle.std.proofs.Common.{Option, None, Some}
use Rattle.std.specs.List.{list_any, find}
use Rattle.std.specs.Option.{option_map}
use Rattle.og_elf.specs.declared.segment.Segment.{Segment}
use Rattle.og_elf.specs.Segment.{end_of, span_of, lies_in, is_text}

-- what contracts see of an image: its segments are in the order of their addresses
pub record ImageState : Type 0 where
  pub entry : ℕ
  pub nodes : ℕ
  pub segments : List Segment

-- a segment before those that begin at its address or after it
abbrev pub put_in : Segment → List Segment → List Segment
put_in s [] = s ∷ []
put_in s (t ∷ ts) = cond (nat_le s.addr t.addr) (s ∷ t ∷ ts) (t ∷ put_in s ts)

-- segments in the order of their addresses
unfoldable pub in_order : List Segment → List Segment
in_order [] = []
in_order (s ∷ ss) = put_in s (in_order ss)

-- an image of a program
abbrev pub image_of : ℕ → List Segment → ℕ → ImageState
image_of entry segments nodes = record { entry = entry; nodes = nodes; segments = in_order segments }

-- a segment's byte at an address in it: past the bytes that the file gave it is 0
abbrev pub byte_in : Segment → ℕ → ℕ
byte_in s addr = slice_index s.bytes (addr - s.addr)

-- the little-endian number of so many bytes from an address on
abbrev pub number_at : (ℕ → ℕ) → ℕ → ℕ → ℕ
number_at byte addr zero = 0
number_at byte addr (suc count) = byte addr + 256 * number_at byte (addr + 1) count

abbrev pub is_constant : ℕ → ℕ → Segment → Bool
is_constant addr count s = not s.writable && lies_in addr count (span_of s)

-- the instruction word at an address: its four bytes lie in one runnable segment
abbrev pub fetch_of : ImageState → ℕ → Option ℕ
fetch_of image addr = option_map (λ s. number_at (byte_in s) addr 4) (find (is_text addr) image.segments)

-- what a load of read-only bytes answers: they lie in one segment that isn't writable
abbrev pub read_only_of : ImageState → ℕ → ℕ → Option ℕ
read_only_of image addr width = option_map (λ s. number_at (byte_in s) addr width) (find (is_constant addr width) image.segments)

-- ------------------------------------------------------------ data and stack pages

-- a page has a byte of the segment
abbrev pub touches : ℕ → Segment → Bool
touches page s = nat_lt (page * 4096) (end_of (span_of s)) && nat_lt s.addr (page * 4096 + 4096)

-- the page after the last that has a byte of the segment
abbrev pub page_after : Segment → ℕ
page_after s = (end_of (span_of s) - 1) / 4096 + 1

-- the segment is writable and the page has a byte of it
abbrev pub on_page : ℕ → Segment → Bool
on_page page s = s.writable && touches page s

-- a data page has a byte of a writable segment
abbrev pub is_data_page : ImageState → ℕ → Bool
is_data_page image page = list_any (on_page page) image.segments

-- the first stack page; hart h has the page 2 * h after it
abbrev pub first_stack_page : ℕ
first_stack_page = 0x70000

abbrev pub stack_page : ℕ → ℕ
stack_page hart = first_stack_page + 2 * hart

-- a stack page of a hart below the number of nodes
abbrev pub is_stack_page : ImageState → ℕ → Bool
is_stack_page image page = nat_le first_stack_page page && nat_eq ((page - first_stack_page) % 2) 0 && nat_lt ((page - first_stack_page) / 2) image.nodes

abbrev pub is_page : ImageState → ℕ → Bool
is_page image page = is_data_page image page || is_stack_page image page

-- an address that accesses may name
abbrev pub is_data_of : ImageState → ℕ → Bool
is_data_of image addr = is_page image (addr / 4096)

abbrev pub is_written : ℕ → Segment → Bool
is_written addr s = s.writable && lies_in addr 1 (span_of s)

abbrev pub byte_or_zero : ℕ → Option Segment → ℕ
byte_or_zero addr None = 0
byte_or_zero addr (Some s) = byte_in s addr

-- memory at the start: a writable segment's bytes, and 0 elsewhere
abbrev pub start_byte : ImageState → ℕ → ℕ
start_byte image addr = byte_or_zero addr (find (is_written addr) image.segments)

abbrev pub byte_of : ImageState → ℕ → Option ℕ
byte_of image addr = cond (is_data_of image addr) (Some (start_byte image addr)) None

-- ------------------------------------------------------------ finding

-- a test that a segment passes only where it has the address
abbrev pub Covers : (Segment → Bool) → ℕ → Type 0
Covers p addr = (s : Segment) → p s ≡ true → (s.addr ≤ addr) × (addr < s.addr + s.size)

abbrev pub passing : (Segment → Bool) → Option Segment → Option Segment
passing p None = None
passing p (Some s) = cond (p s) (Some s) None

abbrev pub passes : (Segment → Bool) → Option Segment → Bool
passes p None = false
passes p (Some s) = p s

-- a segment that has the address is this one
abbrev pub Finds : ℕ → List Segment → Option Segment → Type 0
Finds addr segments last = (p : Segment → Bool) → Covers p addr → find p segments ≡ passing p last

-- a page that ends at the address is a data page where this segment makes it one
abbrev pub FindsPages : ℕ → List Segment → Option Segment → Type 0
FindsPages addr segments last = (page : ℕ) → page * 4096 + 4095 ≡ addr → list_any (on_page page) segments ≡ passes (on_page page) last
