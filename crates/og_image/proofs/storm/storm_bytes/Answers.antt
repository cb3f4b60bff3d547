use Rattle.std.proofs.Common.{◌≡◌, ◌++◌, ◌≤◌, [], ◌∷◌, ℕ, zero, suc, List, length, refl, ap, ap₂, arith, take}
use Rattle.std.specs.List.{flat_map}
use Rattle.std.proofs.Math.Path.{◌∙◌}
use Rattle.byteorder.specs.Endian.{little_bytes}
use Rattle.og_image.specs.Storm.{storm_words}
use Rattle.og_image.proofs.storm.storm_bytes.Goals as goal

all_of : (xs : List ℕ) (n : ℕ) → length xs ≤ n → take n xs ≡ xs
all_of [] zero le = refl
all_of [] (suc n) le = refl
all_of (x ∷ xs) zero le = absurd (omega arith)
all_of (x ∷ xs) (suc n) le = ap (λ (l : List ℕ). x ∷ l) (all_of xs n (omega arith))

pub returns : goal.returns
returns c =
    let words : take c.loop-word.word-index c.storm_words-words.result ≡ storm_words c.args.loops = ap (λ (l : List ℕ). take c.loop-word.word-index l) c.storm_words-words.ensures ∙ all_of (storm_words c.args.loops) c.loop-word.word-index c.loop-word-test.false in
    c.in_ok-extend_from_slice-2.ensures.items ∙ ap₂ (λ (l m : List ℕ). l ++ m) (c.loop-word.invariant ∙ ap (λ (l : List ℕ). flat_map (little_bytes 4) l) words) c.to_le_bytes-2.ensures
