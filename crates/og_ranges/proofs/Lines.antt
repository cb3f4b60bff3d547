-- The flat memory's lines stay bytes, and what an access answers is a number of 64 bits.
use Rattle.std.proofs.Common.{◌≡◌, ℕ, zero, suc, ◌+◌, ◌-◌, ◌*◌, ◌/◌, ◌%◌, ◌^◌, ◌<◌, ◌==◌, ◌&&◌, Bool, true, false, Option, None, Some, IfSome, ◌++◌, take, drop, refl, arith, lit<}
use Rattle.std.specs.Prelude.{if◌then◌else◌}
use Rattle.std.specs.List.{find}
use Rattle.std.proofs.lemmas.Bool.Decides.{nat_tests}
use Rattle.byteorder.specs.Endian.{little_bytes}
use Rattle.og_elf.specs.declared.segment.Segment.{Segment}
use Rattle.og_image.specs.Image.{ImageState, is_written, byte_or_zero, start_byte}
use Rattle.og_line.specs.declared.Line.{Line}
use Rattle.og_line.specs.declared.Reservation.{Reservation}
use Rattle.og_line.specs.declared.Access.{Access}
use Rattle.og_line.specs.declared.Access.TheVariants.{Load, Store, Reserve, Conditional, Atomic}
use Rattle.og_line.specs.Line.{load_of, store_of, atomic_value}
use Rattle.og_line.specs.Access.{is_reserved, line_after}
use Rattle.og_flat.specs.Flat.{Flat, block_of, flat_answer, flat_next, bytes_from, flat_start}
use Rattle.og_trace.specs.Grammar.{is_number, is_width, is_access_line}
use Rattle.og_ranges.specs.Bytes.{AreBytes, HasBytes}
use Rattle.og_ranges.proofs.Bytes.{take_bytes, drop_bytes, both_bytes, low_bytes, byte_of, little_fits, found_has}
use Rattle.og_ranges.proofs.Effects.{Fits}

abbrev pub HasLines : Flat → Type 0
HasLines flat = (block : ℕ) → AreBytes (flat.memory block).bytes

-- ---- an access

loaded_fits : (line : Line) (at width : ℕ) → AreBytes line.bytes → is_width width ≡ true → load_of line at width < 2 ^ 64
loaded_fits line at width bytes known = little_fits width (drop at line.bytes) known (drop_bytes at line.bytes bytes)

stored_bytes : (line : Line) (at width value : ℕ) → AreBytes line.bytes → AreBytes (store_of line at width value).bytes
stored_bytes line at width value bytes =
    both_bytes (take at line.bytes) (little_bytes width value ++ drop (at + width) line.bytes) (take_bytes at line.bytes bytes)
    (both_bytes (little_bytes width value) (drop (at + width) line.bytes) (low_bytes 0 width value) (drop_bytes (at + width) line.bytes bytes))

line_bytes : (line : Line) (reserved : Option Reservation) (x : Access) → AreBytes line.bytes → AreBytes (line_after line reserved x).bytes
line_bytes line reserved (Load addr width) bytes = bytes
line_bytes line reserved (Store addr width value) bytes = stored_bytes line (addr % 128) width value bytes
line_bytes line reserved (Reserve addr width) bytes = bytes
line_bytes line reserved (Conditional addr width value) bytes = by (is_reserved reserved addr width line.stores)
  where
    by : (t : Bool) → AreBytes (if t then store_of line (addr % 128) width value else line).bytes
    by true = stored_bytes line (addr % 128) width value bytes
    by false = bytes
line_bytes line reserved (Atomic op addr width value) bytes = stored_bytes line (addr % 128) width (atomic_value op width (load_of line (addr % 128) width) value) bytes

pub next_lines : (flat : Flat) (hart : ℕ) (x : Access) → HasLines flat → HasLines (flat_next flat hart x)
next_lines flat hart x lines block = by (block == block_of x)
  where
    by : (t : Bool) → AreBytes (if t then line_after (flat.memory (block_of x)) (flat.reserved hart) x else flat.memory block).bytes
    by true = line_bytes (flat.memory (block_of x)) (flat.reserved hart) x (lines (block_of x))
    by false = lines block

-- ---- its text

pub number_is : (n : ℕ) → n < 2 ^ 64 → is_number n ≡ true
number_is n low = grind (arith, nat_tests)

pub both : (a b : Bool) → a ≡ true → b ≡ true → (a && b) ≡ true
both a b h k = rw (h, k) refl

test_fits : (t : Bool) → (if t then 0 else 1) < 2 ^ 64
test_fits true = lit< tt
test_fits false = lit< tt

pub answer_fits : (flat : Flat) (hart : ℕ) (x : Access) → HasLines flat → Fits x → flat_answer flat hart x < 2 ^ 64
answer_fits flat hart (Load addr width) lines fits = loaded_fits (flat.memory (addr / 128)) (addr % 128) width (lines (addr / 128)) fits.width
answer_fits flat hart (Store addr width value) lines fits = lit< tt
answer_fits flat hart (Reserve addr width) lines fits = loaded_fits (flat.memory (addr / 128)) (addr % 128) width (lines (addr / 128)) fits.width
answer_fits flat hart (Conditional addr width value) lines fits = test_fits (is_reserved (flat.reserved hart) addr width (flat.memory (addr / 128)).stores)
answer_fits flat hart (Atomic op addr width value) lines fits = loaded_fits (flat.memory (addr / 128)) (addr % 128) width (lines (addr / 128)) fits.width

pub access_line : (flat : Flat) (hart : ℕ) (x : Access) → HasLines flat → Fits x → is_access_line x (flat_answer flat hart x) ≡ true
access_line flat hart (Load addr width) lines fits =
    both (is_number addr && is_width width) _ (both (is_number addr) _ (number_is addr fits.addr) fits.width) (number_is _ (answer_fits flat hart (Load addr width) lines fits))
access_line flat hart (Store addr width value) lines fits =
    both (is_number addr && is_width width && is_number value) _ (both (is_number addr && is_width width) _ (both (is_number addr) _ (number_is addr fits.addr) fits.width) (number_is value fits.operand)) refl
access_line flat hart (Reserve addr width) lines fits =
    both (is_number addr && is_width width) _ (both (is_number addr) _ (number_is addr fits.addr) fits.width) (number_is _ (answer_fits flat hart (Reserve addr width) lines fits))
access_line flat hart (Conditional addr width value) lines fits =
    both (is_number addr && is_width width && is_number value) _ (both (is_number addr && is_width width) _ (both (is_number addr) _ (number_is addr fits.addr) fits.width) (number_is value fits.operand)) (number_is _ (answer_fits flat hart (Conditional addr width value) lines fits))
access_line flat hart (Atomic op addr width value) lines fits =
    both (is_number addr && is_width width && is_number value) _ (both (is_number addr && is_width width) _ (both (is_number addr) _ (number_is addr fits.addr) fits.width) (number_is value fits.operand)) (number_is _ (answer_fits flat hart (Atomic op addr width value) lines fits))

-- ---- the start

from_bytes : (byte : ℕ → ℕ) (addr n : ℕ) → ((a : ℕ) → byte a < 256) → AreBytes (bytes_from byte addr n)
unfolding bytes_from
from_bytes byte addr zero bytes = tt
from_bytes byte addr (suc n) bytes = (bytes addr, from_bytes byte (addr + 1) n bytes)

first_byte : (image : ImageState) (addr : ℕ) → HasBytes image → start_byte image addr < 256
first_byte image addr bytes = by (find (is_written addr) image.segments) (found_has (λ (s : Segment). AreBytes s.bytes) (is_written addr) image.segments bytes)
  where
    by : (o : Option Segment) → IfSome o (λ s. AreBytes s.bytes) → byte_or_zero addr o < 256
    by None has = lit< tt
    by (Some s) has = byte_of s.bytes (addr - s.addr) has

pub start_lines : (image : ImageState) → HasBytes image → HasLines (flat_start (start_byte image))
start_lines image bytes block = from_bytes (start_byte image) (128 * block) 128 (λ a. first_byte image a bytes)
