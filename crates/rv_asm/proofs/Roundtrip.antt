-- The text of words assembles to the same words.
use Rattle.std.specs.List.{AllByRecursion, list_all}
use Rattle.std.proofs.Common.{◌≡◌, ℕ, ◌+◌, ◌^◌, ◌<◌, ◌≤◌, ◌==◌, true, false, List, [], ◌∷◌, length, arith, refl, ap, Option, None, Some, Result, Ok}
use Rattle.std.proofs.Math.Path.{◌∙◌}
use Rattle.std.proofs.lemmas.Bool.Decides.{nat_tests}
use Rattle.rv_decode.specs.declared.Instr.{Instr}
use Rattle.rv_decode.specs.Rows.{decode_of}
use Rattle.rv_decode.proofs.Reassembly.{encode_back}
use Rattle.rv_asm.specs.declared.labels.Place.{Place}
use Rattle.rv_asm.specs.declared.source.SourceCause.{SourceCause}
use Rattle.rv_asm.specs.Names.{form_of}
use Rattle.rv_asm.specs.Source.{lines_of, line_word, then, word_before, assembled_from, assembled, places_of}
use Rattle.rv_asm.specs.Printed.{operands, mnemonic_text, word_text, word_text_by, printed}
use Rattle.rv_asm.specs.Laws.{IsProgram}
use Rattle.rv_asm.proofs.Mnemonics.{mnemonic_word}
use Rattle.rv_asm.proofs.Reading.{is_plain, statement_plain, plain_line}
use Rattle.rv_asm.proofs.Statements.{fine, instr_read, data_read, data_plain}
use Rattle.rv_asm.proofs.Decoded.{IsPrinted, decoded_printed, may_stand}

-- the text of a word gives the word
word_read : (places : List ℕ → Option Place) (number index word : ℕ) (o : Option Instr) → decode_of word ≡ o → index < 245760 → word < 2 ^ 32 → line_word places number index (word_text_by word o) ≡ Ok (Some word)
word_read places number index word None e room small = data_read places number index word room small
word_read places number index word (Some i) e room small =
    let p : IsPrinted (form_of i.op) i = decoded_printed word i e in
    instr_read places number index (form_of i.op) i refl p.known room p.small (may_stand i.op i.aq i.rl p.may) p.ranged p.same ∙
    ap (λ (w : ℕ). let r : Result (Option ℕ) SourceCause = Ok (Some w) in r) (encode_back word i small e)

word_plain : (word : ℕ) (o : Option Instr) → decode_of word ≡ o → word < 2 ^ 32 → list_all is_plain (word_text_by word o) ≡ true
word_plain word None e small = data_plain word small
word_plain word (Some i) e small =
    let p : IsPrinted (form_of i.op) i = decoded_printed word i e in
    statement_plain (mnemonic_text i) (operands (form_of i.op) i) (mnemonic_word i.op i.aq i.rl) (fine (form_of i.op) i p.small)

-- the lines of words, one after another
words_read : (places : List ℕ → Option Place) (number index : ℕ) (ws : List ℕ) → index + length ws ≤ 245760 → 1 ≤ index + length ws → AllByRecursion (λ w. w < 2 ^ 32) ws → assembled_from places number index (lines_of (printed ws)) ≡ Ok ws
unfolding word_text
words_read places number index [] room some small =
    let not_none : (index == 0) ≡ false = grind (arith, nat_tests) in
    rw not_none refl
words_read places number index (w ∷ ws) room some small =
    let split : lines_of (printed (w ∷ ws)) ≡ word_text w ∷ lines_of (printed ws) = plain_line (word_text w) (printed ws) (word_plain w (decode_of w) refl small.0) in
    let here : line_word places number index (word_text w) ≡ Ok (Some w) = word_read places number index w (decode_of w) refl (omega arith) small.0 in
    let later : assembled_from places (number + 1) (index + 1) (lines_of (printed ws)) ≡ Ok ws = words_read places (number + 1) (index + 1) ws (omega arith) (omega arith) small.1 in
    ap (assembled_from places number index) split ∙
    (ap (λ (r : Result (Option ℕ) SourceCause). then number r (assembled_from places (number + 1) index (lines_of (printed ws))) (assembled_from places (number + 1) (index + 1) (lines_of (printed ws)))) here ∙
    ap (word_before w) later)

pub roundtrip : (words : List ℕ) → IsProgram words → assembled (printed words) ≡ Ok words
unfolding assembled
roundtrip words p = words_read (places_of (printed words)) 1 0 words (omega (arith, p.room)) (omega (arith, p.some)) p.small
