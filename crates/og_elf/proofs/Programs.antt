-- A raw file that isn't out can be loaded.
use Rattle.std.proofs.Common.{◌≡◌, ℕ, ◌+◌, ◌-◌, ◌*◌, ◌/◌, ◌%◌, ◌<◌, ◌≤◌, true, false, length, List, [], ◌∷◌, ◌||◌, ◌&&◌, take, drop, nat_lt, nat_eq, max, arith, refl, not}
use Rattle.std.specs.Prelude.{All}
use Rattle.std.proofs.lemmas.Bool.Decides.{nat_tests}
use Rattle.std.proofs.lemmas.Grind.{common_steps}
use Rattle.std.proofs.lemmas.List.Elements.{All-cons}
use Rattle.og_elf.specs.declared.segment.Segment.{Segment}
use Rattle.og_elf.specs.Segment.{IsPlaced, IsLoadable, overlaps, span_of, is_text, is_entry}
use Rattle.og_elf.specs.Raw.{is_raw_out, text_length, data_length, data_size, text_segment, data_segment}

-- the bounds of a raw program, with its text's length t and its data's length d
record Bounds (size t d : ℕ) : Type 0 where
  some : 0 < t
  whole : t % 4 ≡ 0
  text : t ≤ 983040
  inside : 4 + t ≤ size
  data_fits : d ≤ 16777216

bounds_of : (size t d : ℕ) → (nat_lt size 4 || nat_eq t 0 || not (nat_eq (t % 4) 0) || nat_lt 983040 t || nat_lt size (4 + t) || nat_lt 16777216 d) ≡ false → Bounds size t d
bounds_of size t d h = record { some = grind (arith, nat_tests); whole = grind (arith, nat_tests); text = grind (arith, nat_tests); inside = grind (arith, nat_tests); data_fits = grind (arith, nat_tests) }

abbrev pub text_of : ℕ → List ℕ → Segment
text_of t text = record { addr = 65536; size = t; bytes = text; writable = false; runnable = true }

abbrev pub data_of : ℕ → List ℕ → Segment
data_of n bytes = record { addr = 1048576; size = n; bytes = bytes; writable = true; runnable = false }

apart_of : (t n : ℕ) (text bytes : List ℕ) → 0 < t → t ≤ 983040 → overlaps (span_of (text_of t text)) (span_of (data_of n bytes)) ≡ false
apart_of t n text bytes some h =
    let page : (65536 + t - 1) / 4096 < 256 = omega arith in
    grind (arith, nat_tests)

entered_of : (t : ℕ) (text : List ℕ) → 0 < t → t % 4 ≡ 0 → is_text 65536 (text_of t text) ≡ true
entered_of t text some whole = let h : 4 ≤ t = omega arith in grind (arith, nat_tests)

entry_of : (s t : Segment) → is_text 65536 s ≡ true → is_entry 65536 (s ∷ t ∷ []) ≡ true
entry_of s t h = rw h refl

both : (P : Segment → Type 0) (s t : Segment) → P s → P t → All P (s ∷ t ∷ [])
both P s t x y = All-cons P s (t ∷ []) x (All-cons P t [] y (λ k e lt. absurd (omega arith)))

-- text and data of any such lengths can be loaded
loadable : (size t d n : ℕ) (text bytes : List ℕ) → Bounds size t d → length text ≤ t → length bytes ≤ n → 0 < n → n ≤ 16777216 →
    IsLoadable 65536 (text_of t text ∷ data_of n bytes ∷ [])
loadable size t d n text bytes b ht hb some most =
    let x : IsPlaced (text_of t text) = record { sized = b.some; filled = ht; above = omega arith; below = let h : t ≤ 983040 = b.text in omega arith } in
    let y : IsPlaced (data_of n bytes) = record { sized = some; filled = hb; above = omega arith; below = omega arith } in
    record {
      placed = both IsPlaced (text_of t text) (data_of n bytes) x y;
      apart = rw (apart_of t n text bytes b.some b.text) refl;
      guarded = both (λ s. (s.writable && s.runnable) ≡ false) (text_of t text) (data_of n bytes) refl refl;
      entered = entry_of (text_of t text) (data_of n bytes) (entered_of t text b.some b.whole);
    }

rounded : (d : ℕ) → d ≤ 16777216 → (d ≤ max 1 ((d + 4095) / 4096) * 4096) × (0 < max 1 ((d + 4095) / 4096) * 4096) × (max 1 ((d + 4095) / 4096) * 4096 ≤ 16777216)
rounded d h = (omega arith, omega arith, omega arith)

front_fits : (t : ℕ) (xs : List ℕ) → length (take t xs) ≤ t
front_fits t xs = grind (arith, common_steps)

rest_fits : (k d n : ℕ) (file : List ℕ) → d ≡ length file - k → d ≤ n → length (drop k file) ≤ n
rest_fits k d n file is le = grind (arith, common_steps)

-- text and data of any such sizes can be loaded
pub pair_loadable : (t n : ℕ) (text bytes : List ℕ) → 0 < t → t % 4 ≡ 0 → t ≤ 983040 → length text ≤ t → length bytes ≤ n → 0 < n → n ≤ 16777216 → IsLoadable 65536 (text_of t text ∷ data_of n bytes ∷ [])
pair_loadable t n text bytes some whole most ht hb more limit = loadable (4 + t) t 0 n text bytes (record { some = some; whole = whole; text = most; inside = omega arith; data_fits = omega arith }) ht hb more limit

pub raw_loadable : (file : List ℕ) → is_raw_out file ≡ false → IsLoadable 65536 (text_segment file ∷ data_segment file ∷ [])
raw_loadable file h =
    let b : Bounds (length file) (text_length file) (data_length file) = bounds_of (length file) (text_length file) (data_length file) h in
    let r : (data_length file ≤ data_size file) × (0 < data_size file) × (data_size file ≤ 16777216) = rounded (data_length file) b.data_fits in
    loadable (length file) (text_length file) (data_length file) (data_size file) (take (text_length file) (drop 4 file)) (drop (4 + text_length file) file) b
    (front_fits (text_length file) (drop 4 file)) (rest_fits (4 + text_length file) (data_length file) (data_size file) file refl r.0) r.1 r.2
