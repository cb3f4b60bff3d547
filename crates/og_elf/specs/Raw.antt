-- The raw form of a program: a length, so many bytes of text, then data.
use Rattle.std.specs.Prelude.{ℕ, ◌+◌, ◌-◌, ◌*◌, ◌/◌, ◌%◌, ◌||◌, Bool, true, false, nat_lt, nat_eq, not, List, [], ◌∷◌, length, take, drop, max}
use Rattle.byteorder.specs.Endian.{little_number}
use Rattle.og_elf.specs.declared.segment.Segment.{Segment}
use Rattle.og_elf.specs.declared.segment.Elf.{Elf}

-- the length of the text, in the file's first four bytes
abbrev pub text_length : List ℕ → ℕ
text_length file = little_number 4 file

-- the bytes after the text
abbrev pub data_length : List ℕ → ℕ
data_length file = length file - (4 + text_length file)

-- a file that is no raw program
abbrev pub is_raw_out : List ℕ → Bool
is_raw_out file = nat_lt (length file) 4 || nat_eq (text_length file) 0 || not (nat_eq (text_length file % 4) 0) || nat_lt 983040 (text_length file) || nat_lt (length file) (4 + text_length file) || nat_lt 16777216 (data_length file)

-- whole pages for the data, at least one
abbrev pub data_size : List ℕ → ℕ
data_size file = max 1 ((data_length file + 4095) / 4096) * 4096

abbrev pub text_segment : List ℕ → Segment
text_segment file = record { addr = 0x10000; size = text_length file; bytes = take (text_length file) (drop 4 file); writable = false; runnable = true }

abbrev pub data_segment : List ℕ → Segment
data_segment file = record { addr = 0x100000; size = data_size file; bytes = drop (4 + text_length file) file; writable = true; runnable = false }

-- the program of a raw file
abbrev pub raw_elf : List ℕ → Elf
raw_elf file = record { entry = 0x10000; segments = text_segment file ∷ data_segment file ∷ [] }
