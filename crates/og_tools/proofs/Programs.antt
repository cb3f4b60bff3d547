-- The words of a raw image's program are a program: so many as have room, each of four bytes.
use Rattle.std.proofs.Common.{◌≡◌, ℕ, zero, suc, ◌+◌, ◌-◌, ◌*◌, ◌/◌, ◌%◌, ◌^◌, ◌<◌, ◌≤◌, Bool, true, false, not, ◌||◌, nat_lt, nat_eq, List, [], ◌∷◌, length, take, drop, arith, refl, ap, slice_index, length-drop, length-take-le}
use Rattle.std.specs.List.{AllByRecursion}
use Rattle.std.proofs.lemmas.Bool.{or_parts}
use Rattle.std.proofs.lemmas.Bool.Decides.{nat_tests}
use Rattle.byteorder.specs.Endian.{little_number}
use Rattle.og_elf.specs.Raw.{is_raw_out, text_length, data_length, text_segment}
use Rattle.rv_asm.specs.Laws.{IsProgram}
use Rattle.rv_asm.proofs.Roundtrip.{roundtrip}
use Rattle.og_tools.specs.Images.{words_in, raw_words}
use Rattle.og_tools.specs.Tools.{TextsAssemble}

abbrev AreBytes : List ℕ → Type 0
AreBytes = AllByRecursion (λ b. b < 256)

take_bytes : (n : ℕ) (xs : List ℕ) → AreBytes xs → AreBytes (take n xs)
take_bytes zero xs bytes = tt
take_bytes (suc n) [] bytes = tt
take_bytes (suc n) (x ∷ xs) (byte, bytes) = (byte, take_bytes n xs bytes)

drop_bytes : (n : ℕ) (xs : List ℕ) → AreBytes xs → AreBytes (drop n xs)
drop_bytes zero xs bytes = bytes
drop_bytes (suc n) [] bytes = tt
drop_bytes (suc n) (x ∷ xs) (byte, bytes) = drop_bytes n xs bytes

small_byte : (xs : List ℕ) (i : ℕ) → AreBytes xs → slice_index xs i < 256
small_byte [] i bytes = omega arith
small_byte (x ∷ xs) zero (byte, bytes) = byte
small_byte (x ∷ xs) (suc i) (byte, bytes) = small_byte xs i bytes

small_word : (xs : List ℕ) → AreBytes xs → little_number 4 xs < 2 ^ 32
small_word xs bytes =
    let a : slice_index xs 0 < 256 = small_byte xs 0 bytes in
    let b : slice_index xs 1 < 256 = small_byte xs 1 bytes in
    let c : slice_index xs 2 < 256 = small_byte xs 2 bytes in
    let d : slice_index xs 3 < 256 = small_byte xs 3 bytes in
    omega arith

small_words : (n : ℕ) (xs : List ℕ) → AreBytes xs → AllByRecursion (λ w. w < 2 ^ 32) (words_in n xs)
small_words zero xs bytes = tt
small_words (suc n) xs bytes = (small_word xs bytes, small_words n (drop 4 xs) (drop_bytes 4 xs bytes))

count_words : (n : ℕ) (xs : List ℕ) → length (words_in n xs) ≡ n
count_words zero xs = refl
count_words (suc n) xs = let rest : length (words_in n (drop 4 xs)) ≡ n = count_words n (drop 4 xs) in omega arith

module _ (file : List ℕ) (bytes : AreBytes file) (raw : is_raw_out file ≡ false) where
  abbrev text : List ℕ
  text = (text_segment file).bytes

  program : IsProgram (raw_words file)
  program =
      let short : Bool = nat_lt (length file) 4 in
      let none : Bool = nat_eq (text_length file) 0 in
      let odd : Bool = not (nat_eq (text_length file % 4) 0) in
      let large : Bool = nat_lt 983040 (text_length file) in
      let cut : Bool = nat_lt (length file) (4 + text_length file) in
      let a = or_parts (short || none || odd || large || cut) (nat_lt 16777216 (data_length file)) raw in
      let b = or_parts (short || none || odd || large) cut a.0 in
      let c = or_parts (short || none || odd) large b.0 in
      let d = or_parts (short || none) odd c.0 in
      let e = or_parts short none d.0 in
      let some : 1 ≤ text_length file = let t : nat_eq (text_length file) 0 ≡ false = e.1 in grind (arith, nat_tests) in
      let whole : text_length file % 4 ≡ 0 = let t : not (nat_eq (text_length file % 4) 0) ≡ false = d.1 in grind (arith, nat_tests) in
      let room : text_length file ≤ 983040 = let t : nat_lt 983040 (text_length file) ≡ false = c.1 in grind (arith, nat_tests) in
      let fits : 4 + text_length file ≤ length file = let t : nat_lt (length file) (4 + text_length file) ≡ false = b.1 in grind (arith, nat_tests) in
      let rest : length (drop 4 file) ≡ length file - 4 = length-drop 4 file in
      let size : length text ≡ text_length file = length-take-le (text_length file) (drop 4 file) (omega arith) in
      let count : length (raw_words file) ≡ length text / 4 = count_words (length text / 4) text in
      record {
        some = omega arith;
        room = omega arith;
        small = small_words (length text / 4) text (take_bytes (text_length file) (drop 4 file) (drop_bytes 4 file bytes));
      }

pub texts_assemble : TextsAssemble
texts_assemble file bytes raw = roundtrip (raw_words file) (program file bytes raw)
