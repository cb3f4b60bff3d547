-- ELF-64 files of a RISC-V program: their program headers, their first fault, and the segments.
use Rattle.std.specs.Prelude.{ℕ, zero, suc, ◌+◌, ◌*◌, ◌%◌, ◌&&◌, ◌||◌, Bool, not, nat_lt, nat_eq, List, [], ◌∷◌, length, drop, take, cond, map, bit_and}
use Rattle.std.proofs.Common.{Option, None, Some}
use Rattle.std.specs.List.{list_any, find, filter}
use Rattle.std.specs.Option.{option_map, option_or}
use Rattle.byteorder.specs.Endian.{little_number}
use Rattle.og_elf.specs.declared.segment.Segment.{Segment}
use Rattle.og_elf.specs.declared.segment.Elf.{Elf}
use Rattle.og_elf.specs.declared.segment.Span.{Span}
use Rattle.og_elf.specs.declared.header.Header.{Header}
use Rattle.og_elf.specs.declared.fault.ElfCause.{ElfCause}
use Rattle.og_elf.specs.declared.fault.ElfCause.TheVariants.{NotElf, NotClass64, NotLittle, NotExec, NotRiscv, HeaderOut, SegmentOut, Overlap, WritableText, NoEntry, TooLarge}
use Rattle.og_elf.specs.declared.fault.ElfFault.{ElfFault}
use Rattle.og_elf.specs.declared.fault.ElfFault.TheVariants.{Bad}
use Rattle.og_elf.specs.Segment.{overlaps, lies_in}

-- ------------------------------------------------------------ the file's head

-- the little-endian number of so many bytes at an offset of the file
abbrev pub field : List ℕ → ℕ → ℕ → ℕ
field file at count = little_number count (drop at file)

abbrev pub entry_of : List ℕ → ℕ
entry_of file = field file 24 8

-- the offset of the first program header, the size of each, and their number
abbrev pub headers_at : List ℕ → ℕ
headers_at file = field file 32 8

abbrev pub header_size : List ℕ → ℕ
header_size file = field file 54 2

abbrev pub header_count : List ℕ → ℕ
header_count file = field file 56 2

-- fewer than 64 bytes, or another beginning than 7f 45 4c 46
abbrev pub is_no_elf : List ℕ → Bool
is_no_elf file = nat_lt (length file) 64 || not (nat_eq (field file 0 4) 0x464c457f)

-- there are program headers, of another size than 56 bytes
abbrev pub is_other_size : List ℕ → Bool
is_other_size file = not (nat_eq (header_count file) 0) && not (nat_eq (header_size file) 56)

-- there are program headers, and they end past the file
abbrev pub ends_past_file : List ℕ → Bool
ends_past_file file = not (nat_eq (header_count file) 0) && nat_lt (length file) (headers_at file + 56 * header_count file)

-- what is said where the test holds, and else what the rest says
abbrev pub fault_if : Bool → ElfCause → ℕ → Option ElfFault → Option ElfFault
fault_if test cause at rest = cond test (Some (Bad cause at)) rest

-- the first fault of the head that is about the program headers
abbrev pub headers_fault : List ℕ → Option ElfFault
headers_fault file = fault_if (is_other_size file) HeaderOut 54 (fault_if (ends_past_file file) HeaderOut 32 None)

-- the first fault of the head from its type on
abbrev pub target_fault : List ℕ → Option ElfFault
target_fault file =
    fault_if (not (nat_eq (field file 16 2) 2)) NotExec 16
    (fault_if (not (nat_eq (field file 18 2) 243)) NotRiscv 18 (headers_fault file))

-- the first fault of the head
abbrev pub head_fault : List ℕ → Option ElfFault
head_fault file =
    fault_if (is_no_elf file) NotElf 0
    (fault_if (not (nat_eq (field file 4 1) 2)) NotClass64 4
    (fault_if (not (nat_eq (field file 5 1) 1)) NotLittle 5 (target_fault file)))

-- ------------------------------------------------------------ program headers

-- the program header at an offset
abbrev pub header_at : List ℕ → ℕ → Header
header_at file at = record {
  at = at;
  kind = field file at 4;
  flags = field file (at + 4) 4;
  offset = field file (at + 8) 8;
  addr = field file (at + 16) 8;
  filled = field file (at + 32) 8;
  size = field file (at + 40) 8;
}

-- so many program headers from an offset on
abbrev pub headers_from : List ℕ → ℕ → ℕ → List Header
headers_from file at zero = []
headers_from file at (suc count) = header_at file at ∷ headers_from file (at + 56) count

-- one that asks for memory
abbrev pub is_loadable : Header → Bool
is_loadable h = nat_eq h.kind 1 && not (nat_eq h.size 0)

abbrev pub is_runnable : Header → Bool
is_runnable h = not (nat_eq (bit_and h.flags 1) 0)

abbrev pub is_writable : Header → Bool
is_writable h = not (nat_eq (bit_and h.flags 2) 0)

-- the loadable program headers, in the file's order
unfoldable pub loads_of : List ℕ → List Header
loads_of file = filter is_loadable (headers_from file (headers_at file) (header_count file))

-- where a header's segment lies
abbrev pub span_of_header : Header → Span
span_of_header h = record { addr = h.addr; size = h.size; writable = is_writable h }

-- more contents than memory, contents past the file (an empty one is nowhere), or memory outside the addresses of programs
abbrev pub is_out : ℕ → Header → Bool
is_out file_size h = nat_lt h.size h.filled || (not (nat_eq h.filled 0) && nat_lt file_size (h.offset + h.filled)) || nat_lt h.addr 0x1000 || nat_lt 0x70000000 (h.addr + h.size)

-- the first header that overlaps one of the earlier ones
abbrev pub overlapping : List Span → List Header → Option Header
overlapping earlier [] = None
overlapping earlier (h ∷ hs) = cond (list_any (overlaps (span_of_header h)) earlier) (Some h) (overlapping (span_of_header h ∷ earlier) hs)

abbrev pub is_writable_text : Header → Bool
is_writable_text h = is_writable h && is_runnable h

-- the four bytes at an address lie in the header's segment, which is runnable
abbrev pub is_text_header : ℕ → Header → Bool
is_text_header addr h = is_runnable h && lies_in addr 4 (span_of_header h)

-- the entry is a multiple of 4 with its four bytes in one runnable segment
abbrev pub has_entry : ℕ → List Header → Bool
has_entry entry loads = nat_eq (entry % 4) 0 && list_any (is_text_header entry) loads

-- the first header with which the memory of all so far passes 16,777,216 bytes
abbrev pub passing : ℕ → List Header → Option Header
passing total [] = None
passing total (h ∷ hs) = cond (nat_lt 16777216 (total + h.size)) (Some h) (passing (total + h.size) hs)

-- the segment of a header: the file's bytes, then zeros
abbrev pub segment_of : List ℕ → Header → Segment
segment_of file h = record { addr = h.addr; size = h.size; bytes = take h.filled (drop h.offset file); writable = is_writable h; runnable = is_runnable h }

abbrev pub segments_of : List ℕ → List Header → List Segment
segments_of file loads = map (segment_of file) loads

-- a header at fault is named by its offset
abbrev pub at_header : ElfCause → Option Header → Option ElfFault
at_header cause header = option_map (λ h. Bad cause h.at) header

-- the first fault of the loadable headers, each check over all of them before the next
abbrev pub loads_fault : List ℕ → List Header → Option ElfFault
loads_fault file loads =
    option_or (at_header SegmentOut (find (is_out (length file)) loads))
    (option_or (at_header Overlap (overlapping [] loads))
    (option_or (at_header WritableText (find is_writable_text loads))
    (fault_if (not (has_entry (entry_of file) loads)) NoEntry 24
    (at_header TooLarge (passing 0 loads)))))

-- ------------------------------------------------------------ the file

-- the first fault of a file
abbrev pub fault_of : List ℕ → Option ElfFault
fault_of file = option_or (head_fault file) (loads_fault file (loads_of file))

-- the program of a file
abbrev pub elf_of : List ℕ → Elf
elf_of file = record { entry = entry_of file; segments = segments_of file (loads_of file) }
