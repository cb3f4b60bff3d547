-- The lines of pages at the start, and one line among them.
use Rattle.std.proofs.Common.{◌≡◌, ℕ, zero, suc, ◌+◌, ◌-◌, ◌*◌, ◌<◌, List, [], ◌∷◌, ◌++◌, length, get_or, refl, ap, sym, subst, ◌∙◌, arith, length-append, add-one, inl, inr}
use Rattle.std.specs.List.{flat_map}
use Rattle.std.proofs.lemmas.Bool.{cases_lt}
use Rattle.std.proofs.lemmas.List.{get_or_append_left, get_or_push, get_or-append_right}
use Rattle.std.proofs.lemmas.Grind.{same_number_lists}
use Rattle.og_line.specs.declared.Line.{Line}
use Rattle.og_line.specs.Line.{zero_line}
use Rattle.og_flat.specs.Flat.{bytes_from, start_line, start_lines}
use Rattle.og_flat.proofs.Start.{length-bytes_from, get_or-bytes_from}

-- a line is known by its bytes
pub line_is : (byte : ℕ → ℕ) (block : ℕ) (line : Line) → length line.bytes ≡ 128 → line.stores ≡ 0 → ((k : ℕ) → k < 128 → get_or line.bytes k 0 ≡ byte (block * 128 + k)) → line ≡ start_line byte block
line_is byte block line size none same =
    let bytes : line.bytes ≡ bytes_from byte (128 * block) 128 =
    same_number_lists line.bytes (bytes_from byte (128 * block) 128) (size ∙ sym (length-bytes_from byte (128 * block) 128))
    (λ k lt. let h : k < 128 = omega arith in same k h ∙ ap byte (omega arith) ∙ sym (get_or-bytes_from byte (128 * block) 128 k h)) in
    subst (λ (n : ℕ). line ≡ record { bytes = bytes_from byte (128 * block) 128; stores = n }) none (subst (λ (bs : List ℕ). line ≡ record { bytes = bs; stores = line.stores }) bytes refl)

pub start_lines_more : (byte : ℕ → ℕ) (first count : ℕ) → start_lines byte first (count + 1) ≡ start_lines byte first count ++ start_line byte (first + count) ∷ []
unfolding start_lines
start_lines_more byte first count = rw add-one refl

pub length-start_lines : (byte : ℕ → ℕ) (first count : ℕ) → length (start_lines byte first count) ≡ count
unfolding start_lines
length-start_lines byte first zero = refl
length-start_lines byte first (suc count) =
    let rest = length-start_lines byte first count in
    rw length-append (omega arith)

pub get_or-start_lines : (byte : ℕ → ℕ) (first count k : ℕ) → k < count → get_or (start_lines byte first count) k zero_line ≡ start_line byte (first + k)
unfolding start_lines
get_or-start_lines byte first zero k h = absurd (omega arith)
get_or-start_lines byte first (suc count) k h =
    let size : length (start_lines byte first count) ≡ count = length-start_lines byte first count in
    elim (cases_lt k count) [
      | inl below ↦ get_or_append_left (start_lines byte first count) (start_line byte (first + count) ∷ []) zero_line k (omega arith) ∙ get_or-start_lines byte first count k below
      | inr above ↦ let last : k ≡ count = omega arith in
          rw last (get_or_push (start_lines byte first count) (start_line byte (first + count)) zero_line count size)
    ]

-- the lines of the pages, 32 each
abbrev pub all_lines : (ℕ → ℕ) → List ℕ → List Line
all_lines byte pages = flat_map (λ page. start_lines byte (32 * page) 32) pages

pub length-all_lines : (byte : ℕ → ℕ) (pages : List ℕ) → length (all_lines byte pages) ≡ 32 * length pages
length-all_lines byte [] = refl
length-all_lines byte (page ∷ pages) =
    let rest = length-all_lines byte pages in
    let size = length-start_lines byte (32 * page) 32 in
    rw length-append (omega arith)

pub get_or-all_lines : (byte : ℕ → ℕ) (pages : List ℕ) (i k : ℕ) → i < length pages → k < 32 → get_or (all_lines byte pages) (32 * i + k) zero_line ≡ start_line byte (32 * get_or pages i 0 + k)
get_or-all_lines byte [] i k h lt = absurd (omega arith)
get_or-all_lines byte (page ∷ pages) zero k h lt =
    let size = length-start_lines byte (32 * page) 32 in
    let here : 32 * 0 + k ≡ k = omega arith in
    rw here (get_or_append_left (start_lines byte (32 * page) 32) (all_lines byte pages) zero_line k (omega arith) ∙ get_or-start_lines byte (32 * page) 32 k lt)
get_or-all_lines byte (page ∷ pages) (suc i) k h lt =
    let size = length-start_lines byte (32 * page) 32 in
    let rest = get_or-all_lines byte pages i k (omega arith) lt in
    let there : 32 * suc i + k - 32 ≡ 32 * i + k = omega arith in
    get_or-append_right (start_lines byte (32 * page) 32) (all_lines byte pages) 32 (32 * suc i + k) zero_line size (omega arith)
    ∙ rw there rest
