-- The words of raw images.
use Rattle.std.proofs.Common.{◌≡◌, ℕ, zero, suc, ◌+◌, ◌-◌, ◌*◌, ◌/◌, ◌%◌, ◌^◌, ◌<◌, ◌≤◌, true, false, nat_lt, nat_eq, List, [], ◌∷◌, ◌++◌, length, take, drop, arith, refl, sym, ap, ap₂, length-append, length-drop, ◌∙◌}
use Rattle.std.specs.List.{flat_map, AllByRecursion}
use Rattle.std.proofs.lemmas.Bool.Decides.{nat_tests}
use Rattle.byteorder.specs.Endian.{little_number, little_bytes}
use Rattle.byteorder.specs.Numbers.{little_number-reads_back}
use Rattle.og_elf.specs.Raw.{is_raw_out, text_length, data_length, text_segment}
use Rattle.rv_asm.specs.Laws.{IsProgram}
use Rattle.og_tools.specs.Images.{raw_file, words_in, words_of, raw_words, HoldsWords}

-- ------------------------------------------------------------------------------ the words of a text

-- a text of four bytes or more has a first word
pub words_step : (text : List ℕ) → 4 ≤ length text → words_of text ≡ little_number 4 text ∷ words_of (drop 4 text)
words_step text long =
    let size : length (drop 4 text) ≡ length text - 4 = length-drop 4 text in
    let count : length text / 4 ≡ suc (length (drop 4 text) / 4) = omega arith in
    ap (λ (n : ℕ). words_in n text) count

pub words_next : (text rest : List ℕ) (word : ℕ) → 4 ≤ length text → word ≡ little_number 4 text → rest ≡ drop 4 text → words_of text ≡ word ∷ words_of rest
words_next text rest word long first after =
    words_step text long ∙ ap₂ (λ (x : ℕ) (r : List ℕ). x ∷ words_of r) (sym first) (sym after)

-- a shorter one has none
pub words_end : (text : List ℕ) → length text < 4 → words_of text ≡ []
words_end text short =
    let count : length text / 4 ≡ 0 = omega arith in
    ap (λ (n : ℕ). words_in n text) count

-- ------------------------------------------------------------------------------ the image of words

pub flat_length : (ws : List ℕ) → length (flat_map (little_bytes 4) ws) ≡ 4 * length ws
flat_length [] = refl
flat_length (w ∷ ws) =
    let rest : length (flat_map (little_bytes 4) ws) ≡ 4 * length ws = flat_length ws in
    let all : length (little_bytes 4 w ++ flat_map (little_bytes 4) ws) ≡ 4 + length (flat_map (little_bytes 4) ws) = length-append (little_bytes 4 w) (flat_map (little_bytes 4) ws) in
    let more : length (w ∷ ws) ≡ length ws + 1 = omega arith in
    omega arith

words_back : (ws : List ℕ) → AllByRecursion (λ w. w < 2 ^ 32) ws → words_in (length ws) (flat_map (little_bytes 4) ws) ≡ ws
words_back [] small = refl
words_back (w ∷ ws) (first, small) = ap₂ (λ (x : ℕ) (xs : List ℕ). x ∷ xs) (little_number-reads_back 4 w (flat_map (little_bytes 4) ws) first) (words_back ws small)

take_all : (xs : List ℕ) (n : ℕ) → length xs ≤ n → take n xs ≡ xs
take_all [] zero le = refl
take_all [] (suc n) le = refl
take_all (x ∷ xs) zero le = absurd (omega arith)
take_all (x ∷ xs) (suc n) le = ap (λ (l : List ℕ). x ∷ l) (take_all xs n (omega arith))

module _ (ws : List ℕ) (p : IsProgram ws) where
  length_is : text_length (raw_file ws) ≡ 4 * length ws
  length_is = let room : length ws ≤ 245760 = p.room in let fits : 4 * length ws < 256 ^ 4 = omega arith in little_number-reads_back 4 (4 * length ws) (flat_map (little_bytes 4) ws) fits

  size_is : length (raw_file ws) ≡ 4 + 4 * length ws
  size_is =
      let rest : length (flat_map (little_bytes 4) ws) ≡ 4 * length ws = flat_length ws in
      let all : length (raw_file ws) ≡ 4 + length (flat_map (little_bytes 4) ws) = length-append (little_bytes 4 (4 * length ws)) (flat_map (little_bytes 4) ws) in
      omega arith

  no_data : data_length (raw_file ws) ≡ 0
  no_data = let size : length (raw_file ws) ≡ 4 + 4 * length ws = size_is in let text : text_length (raw_file ws) ≡ 4 * length ws = length_is in omega arith

  accepted : is_raw_out (raw_file ws) ≡ false
  accepted =
      let file : List ℕ = raw_file ws in
      let some : 1 ≤ length ws = p.some in
      let room : length ws ≤ 245760 = p.room in
      let size : length (raw_file ws) ≡ 4 + 4 * length ws = size_is in
      let text : text_length (raw_file ws) ≡ 4 * length ws = length_is in
      let none : data_length (raw_file ws) ≡ 0 = no_data in
      let whole : 4 * length ws % 4 ≡ 0 = omega arith in
      let a : nat_lt (length file) 4 ≡ false = grind (arith, nat_tests) in
      let b : nat_eq (text_length file) 0 ≡ false = grind (arith, nat_tests) in
      let c : nat_eq (text_length file % 4) 0 ≡ true = grind (arith, nat_tests) in
      let d : nat_lt 983040 (text_length file) ≡ false = grind (arith, nat_tests) in
      let e : nat_lt (length file) (4 + text_length file) ≡ false = grind (arith, nat_tests) in
      let f : nat_lt 16777216 (data_length file) ≡ false = grind (arith, nat_tests) in
      rw (a, b, c, d, e, f) refl

  words_are : raw_words (raw_file ws) ≡ ws
  words_are =
      let flat : List ℕ = flat_map (little_bytes 4) ws in
      let rest : length flat ≡ 4 * length ws = flat_length ws in
      let count : length flat / 4 ≡ length ws = omega arith in
      let text : (text_segment (raw_file ws)).bytes ≡ flat = ap (λ (n : ℕ). take n flat) length_is ∙ take_all flat (4 * length ws) (omega arith) in
      ap (λ (t : List ℕ). words_of t) text ∙ (ap (λ (n : ℕ). words_in n flat) count ∙ words_back ws p.small)

  pub holds : HoldsWords ws
  holds = record { accepted = accepted; words_are = words_are; no_data = no_data }
