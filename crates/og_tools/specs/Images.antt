-- Raw images and the words of their programs.
use Rattle.std.specs.Prelude.{◌≡◌, ℕ, zero, suc, ◌*◌, ◌/◌, false, List, [], ◌∷◌, ◌++◌, length, drop}
use Rattle.std.specs.List.{flat_map}
use Rattle.byteorder.specs.Endian.{little_number, little_bytes}
use Rattle.og_elf.specs.Raw.{is_raw_out, text_segment, data_length}
use Rattle.rv_asm.specs.Laws.{IsProgram}

-- the raw image of a program without data: the length of its text, then the text, a word in four bytes, the lowest first
abbrev pub raw_file : List ℕ → List ℕ
raw_file words = little_bytes 4 (4 * length words) ++ flat_map (little_bytes 4) words

-- so many words of a text
abbrev pub words_in : ℕ → List ℕ → List ℕ
words_in zero text = []
words_in (suc n) text = little_number 4 text ∷ words_in n (drop 4 text)

-- the words of a text: each has four bytes, the lowest first
abbrev pub words_of : List ℕ → List ℕ
words_of text = words_in (length text / 4) text

-- the words of a raw image's program; its data is no part of them
abbrev pub raw_words : List ℕ → List ℕ
raw_words file = words_of (text_segment file).bytes

-- the image of 1 to 245,760 words is a raw image, has just these words, and no data
pub record HoldsWords (words : List ℕ) : Type 0 where
  pub accepted : is_raw_out (raw_file words) ≡ false
  pub words_are : raw_words (raw_file words) ≡ words
  pub no_data : data_length (raw_file words) ≡ 0

abbrev pub ImagesHoldTheirWords : Type 0
ImagesHoldTheirWords = (words : List ℕ) → IsProgram words → HoldsWords words
