-- Parts of a program's memory, and which of them can be loaded together.
use Rattle.std.specs.Prelude.{◌≡◌, ℕ, ◌+◌, ◌-◌, ◌/◌, ◌%◌, ◌≤◌, ◌<◌, ◌&&◌, ◌||◌, Bool, true, false, not, nat_le, nat_lt, nat_eq, List, [], ◌∷◌, length, cond, All, map}
use Rattle.std.specs.List.{list_any}
use Rattle.og_elf.specs.declared.segment.Segment.{Segment}
use Rattle.og_elf.specs.declared.segment.Span.{Span}

-- the address after the last byte
abbrev pub end_of : Span → ℕ
end_of s = s.addr + s.size

-- where a segment lies
abbrev pub span_of : Segment → Span
span_of s = record { addr = s.addr; size = s.size; writable = s.writable }

-- the bytes from an address on, so many, lie in the span
abbrev pub lies_in : ℕ → ℕ → Span → Bool
lies_in addr count s = nat_le s.addr addr && nat_le (addr + count) (end_of s)

-- two spans share a byte
abbrev pub shares_byte : Span → Span → Bool
shares_byte s t = nat_lt s.addr (end_of t) && nat_lt t.addr (end_of s)

-- the first and the last page that a span has a byte of
abbrev pub first_page : Span → ℕ
first_page s = s.addr / 4096

abbrev pub last_page : Span → ℕ
last_page s = (end_of s - 1) / 4096

-- two spans have bytes on one page
abbrev pub shares_page : Span → Span → Bool
shares_page s t = nat_le (first_page s) (last_page t) && nat_le (first_page t) (last_page s)

-- just one of both is writable
abbrev pub is_mixed : Span → Span → Bool
is_mixed s t = cond s.writable (not t.writable) t.writable

-- two spans overlap: they share a byte, or a page where just one of both is writable
abbrev pub overlaps : Span → Span → Bool
overlaps s t = shares_byte s t || (is_mixed s t && shares_page s t)

-- no two spans of the list overlap
abbrev pub are_apart : List Span → Bool
are_apart [] = true
are_apart (s ∷ ss) = not (list_any (overlaps s) ss) && are_apart ss

-- the four bytes at an address lie in the segment, which is runnable
abbrev pub is_text : ℕ → Segment → Bool
is_text addr s = s.runnable && lies_in addr 4 (span_of s)

-- the entry is a multiple of 4 with its four bytes in one runnable segment
abbrev pub is_entry : ℕ → List Segment → Bool
is_entry entry segments = nat_eq (entry % 4) 0 && list_any (is_text entry) segments

-- one segment alone: it has a byte, no more bytes than its size, and lies between the first page and the stacks
pub record IsPlaced (s : Segment) : Type 0 where
  pub sized : 0 < s.size
  pub filled : length s.bytes ≤ s.size
  pub above : 0x1000 ≤ s.addr
  pub below : end_of (span_of s) ≤ 0x70000000

-- segments and an entry that can be loaded
pub record IsLoadable (entry : ℕ) (segments : List Segment) : Type 0 where
  pub placed : All IsPlaced segments
  pub apart : are_apart (map span_of segments) ≡ true
  pub guarded : All (λ s. (s.writable && s.runnable) ≡ false) segments
  pub entered : is_entry entry segments ≡ true
