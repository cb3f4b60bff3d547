-- What is read of an instruction's text: its operands, its registers and its number.
use Rattle.std.specs.Prelude.{ℤ, pos, decimal, codes, int_le}
use Rattle.std.specs.Fmt.{signed_decimal}
use Rattle.std.specs.Int.Signed.{mag}
use Rattle.std.specs.List.{list_all}
use Rattle.std.specs.Option.{option_map}
use Rattle.std.proofs.Common.{◌≡◌, ℕ, ◌/◌, ◌%◌, ◌^◌, ◌<◌, Bool, true, cond, nat_lt, List, [], ◌∷◌, ◌++◌, arith, refl, ap, Option, None, Some, Result, Ok, Err}
use Rattle.std.proofs.Math.Path.{◌∙◌}
use Rattle.std.proofs.lemmas.Bool.Decides.{nat_tests}
use Rattle.std.proofs.lemmas.Int.{ints}
use Rattle.rv_decode.specs.declared.Op.{Op}
use Rattle.rv_decode.specs.declared.Instr.{Instr}
use Rattle.rv_decode.specs.Words.{imm_word, encode_of}
use Rattle.rv_asm.specs.declared.form.Form.{Form}
use Rattle.rv_asm.specs.declared.form.Form.TheVariants.{Upper, Jump, Branch, Offset, Store, Immediate, Shift, ShiftWord, Register, Fence, Bare, Reserve, Atomic, Data}
use Rattle.rv_asm.specs.declared.line.Shape.TheVariants.{Nothing, Number, NameNumber, NameNameNumber, NameNameName, NameOffset, NameAddress, NameNameAddress}
use Rattle.rv_asm.specs.declared.names.Ordering.{Ordering}
use Rattle.rv_asm.specs.declared.names.Mnemonic.TheVariants.{Named}
use Rattle.rv_asm.specs.declared.meaning.Registers.{Registers}
use Rattle.rv_asm.specs.declared.labels.Place.{Place}
use Rattle.rv_asm.specs.declared.source.SourceCause.{SourceCause}
use Rattle.rv_asm.specs.declared.source.SourceCause.TheVariants.{Range as out_of_range, Size as too_many}
use Rattle.rv_asm.specs.Names.{form_of, order, mnemonic_in}
use Rattle.rv_asm.specs.Syntax.{Token, Word, line, Parts, parts, is_mnemonic, is_word_byte, is_name_byte, is_letter, is_digit, is_mnemonic_byte, tokens_of, uncommented, operands_in, statement_in, after_word, line_in, line_of}
use Rattle.rv_asm.specs.Meaning.{registers, value_in, draft, draft_of, Draft, is_in_range, within, number_in, worded, word_by, word_in, immediate_of, instr_of}
use Rattle.rv_asm.specs.Source.{line_word, by_line, by_draft, some_draft, sized}
use Rattle.rv_asm.specs.Printed.{register_text, operands, spaced, statement_text, mnemonic_text}
use Rattle.rv_asm.proofs.Written.{IsWord, natural_number, natural_no_name, natural_value, signed_number, signed_no_name, signed_value, register_name, register_read, natural_word, signed_word, register_word}
use Rattle.rv_asm.proofs.Mnemonics.{MayStand, named, mnemonic_word, mnemonic_is}
use Rattle.rv_asm.proofs.Reading.{is_plain, Fine, statement_read, statement_plain, plain_clean, plain_whole}

-- what is known of every instruction that a word decodes to
pub record IsSmall (i : Instr) : Type 0 where
  pub rd : i.rd < 32
  pub rs1 : i.rs1 < 32
  pub rs2 : i.rs2 < 32
  pub imm : mag i.imm < 2 ^ 63

abbrev pub upper_of : Instr → ℕ
upper_of i = imm_word i / 2 ^ 12

abbrev pub fence_of : Instr → ℕ
fence_of i = imm_word i % 2 ^ 12

-- the words of an instruction
abbrev pub parts_of : Form → List ℕ → Instr → Parts
parts_of Upper m i = parts m NameNumber (register_text i.rd) (decimal (upper_of i)) []
parts_of Jump m i = parts m NameNumber (register_text i.rd) (signed_decimal i.imm) []
parts_of Branch m i = parts m NameNameNumber (register_text i.rs1) (register_text i.rs2) (signed_decimal i.imm)
parts_of Offset m i = parts m NameOffset (register_text i.rd) (signed_decimal i.imm) (register_text i.rs1)
parts_of Store m i = parts m NameOffset (register_text i.rs2) (signed_decimal i.imm) (register_text i.rs1)
parts_of Immediate m i = parts m NameNameNumber (register_text i.rd) (register_text i.rs1) (signed_decimal i.imm)
parts_of Shift m i = parts m NameNameNumber (register_text i.rd) (register_text i.rs1) (signed_decimal i.imm)
parts_of ShiftWord m i = parts m NameNameNumber (register_text i.rd) (register_text i.rs1) (signed_decimal i.imm)
parts_of Register m i = parts m NameNameName (register_text i.rd) (register_text i.rs1) (register_text i.rs2)
parts_of Fence m i = parts m NameNameNumber (register_text i.rd) (register_text i.rs1) (decimal (fence_of i))
parts_of Bare m i = parts m Nothing [] [] []
parts_of Reserve m i = parts m NameAddress (register_text i.rd) (register_text i.rs1) []
parts_of Atomic m i = parts m NameNameAddress (register_text i.rd) (register_text i.rs2) (register_text i.rs1)
parts_of Data m i = parts m Nothing [] [] []

-- its registers: 0 where its form has none
abbrev pub registers_of : Form → Instr → Registers
registers_of Upper i = registers i.rd 0 0
registers_of Jump i = registers i.rd 0 0
registers_of Branch i = registers 0 i.rs1 i.rs2
registers_of Offset i = registers i.rd i.rs1 0
registers_of Store i = registers 0 i.rs1 i.rs2
registers_of Immediate i = registers i.rd i.rs1 0
registers_of Shift i = registers i.rd i.rs1 0
registers_of ShiftWord i = registers i.rd i.rs1 0
registers_of Register i = registers i.rd i.rs1 i.rs2
registers_of Fence i = registers i.rd i.rs1 0
registers_of Bare i = registers 0 0 0
registers_of Reserve i = registers i.rd i.rs1 0
registers_of Atomic i = registers i.rd i.rs1 i.rs2
registers_of Data i = registers 0 0 0

-- its number
abbrev pub number_of : Form → Instr → ℤ
number_of Upper i = pos (upper_of i)
number_of Jump i = i.imm
number_of Branch i = i.imm
number_of Offset i = i.imm
number_of Store i = i.imm
number_of Immediate i = i.imm
number_of Shift i = i.imm
number_of ShiftWord i = i.imm
number_of Register i = pos 0
number_of Fence i = pos (fence_of i)
number_of Bare i = pos 0
number_of Reserve i = pos 0
number_of Atomic i = pos 0
number_of Data i = pos 0

upper_small : (i : Instr) → upper_of i < 2 ^ 64
upper_small i = omega arith

fence_small : (i : Instr) → fence_of i < 2 ^ 64
fence_small i = omega arith

-- the tokens of the operands stand apart
pub fine : (form : Form) (i : Instr) → IsSmall i → Fine (operands form i)
fine Upper i s = (register_word i.rd s.rd, tt, (natural_word (upper_of i) (upper_small i), tt, tt))
fine Jump i s = (register_word i.rd s.rd, tt, (signed_word i.imm s.imm, tt, tt))
fine Branch i s = (register_word i.rs1 s.rs1, tt, (register_word i.rs2 s.rs2, tt, (signed_word i.imm s.imm, tt, tt)))
fine Offset i s = (register_word i.rd s.rd, tt, (signed_word i.imm s.imm, tt, (register_word i.rs1 s.rs1, tt, tt)))
fine Store i s = (register_word i.rs2 s.rs2, tt, (signed_word i.imm s.imm, tt, (register_word i.rs1 s.rs1, tt, tt)))
fine Immediate i s = (register_word i.rd s.rd, tt, (register_word i.rs1 s.rs1, tt, (signed_word i.imm s.imm, tt, tt)))
fine Shift i s = (register_word i.rd s.rd, tt, (register_word i.rs1 s.rs1, tt, (signed_word i.imm s.imm, tt, tt)))
fine ShiftWord i s = (register_word i.rd s.rd, tt, (register_word i.rs1 s.rs1, tt, (signed_word i.imm s.imm, tt, tt)))
fine Register i s = (register_word i.rd s.rd, tt, (register_word i.rs1 s.rs1, tt, (register_word i.rs2 s.rs2, tt, tt)))
fine Fence i s = (register_word i.rd s.rd, tt, (register_word i.rs1 s.rs1, tt, (natural_word (fence_of i) (fence_small i), tt, tt)))
fine Bare i s = tt
fine Reserve i s = (register_word i.rd s.rd, tt, (register_word i.rs1 s.rs1, tt, tt))
fine Atomic i s = (register_word i.rd s.rd, tt, (register_word i.rs2 s.rs2, tt, (register_word i.rs1 s.rs1, tt, tt)))
fine Data i s = tt

-- the operands are read as these words
shaped : (form : Form) (m : List ℕ) (i : Instr) → IsSmall i → operands_in m (operands form i) ≡ Some (parts_of form m i)
shaped Upper m i s = rw (register_name i.rd s.rd, natural_no_name (upper_of i) (upper_small i), natural_number (upper_of i) (upper_small i)) refl
shaped Jump m i s = rw (register_name i.rd s.rd, signed_no_name i.imm s.imm, signed_number i.imm s.imm) refl
shaped Branch m i s = rw (register_name i.rs1 s.rs1, register_name i.rs2 s.rs2, signed_no_name i.imm s.imm, signed_number i.imm s.imm) refl
shaped Offset m i s = rw (register_name i.rd s.rd, signed_number i.imm s.imm, register_name i.rs1 s.rs1) refl
shaped Store m i s = rw (register_name i.rs2 s.rs2, signed_number i.imm s.imm, register_name i.rs1 s.rs1) refl
shaped Immediate m i s = rw (register_name i.rd s.rd, register_name i.rs1 s.rs1, signed_no_name i.imm s.imm, signed_number i.imm s.imm) refl
shaped Shift m i s = rw (register_name i.rd s.rd, register_name i.rs1 s.rs1, signed_no_name i.imm s.imm, signed_number i.imm s.imm) refl
shaped ShiftWord m i s = rw (register_name i.rd s.rd, register_name i.rs1 s.rs1, signed_no_name i.imm s.imm, signed_number i.imm s.imm) refl
shaped Register m i s = rw (register_name i.rd s.rd, register_name i.rs1 s.rs1, register_name i.rs2 s.rs2) refl
shaped Fence m i s = rw (register_name i.rd s.rd, register_name i.rs1 s.rs1, natural_no_name (fence_of i) (fence_small i), natural_number (fence_of i) (fence_small i)) refl
shaped Bare m i s = refl
shaped Reserve m i s = rw (register_name i.rd s.rd, register_name i.rs1 s.rs1) refl
shaped Atomic m i s = rw (register_name i.rd s.rd, register_name i.rs2 s.rs2, register_name i.rs1 s.rs1) refl
shaped Data m i s = refl

-- no colon follows the mnemonic
unlabelled : (form : Form) (m : List ℕ) (i : Instr) → after_word m (operands form i) ≡ statement_in None (Word m ∷ operands form i)
unlabelled Upper m i = refl
unlabelled _ m i = refl

-- the text of a statement is the line of its words
pub line_read : (form : Form) (m : List ℕ) (i : Instr) → IsSmall i → IsWord m → is_mnemonic m ≡ true → line_of (m ++ spaced (operands form i)) ≡ Some (line None (Some (parts_of form m i)))
unfolding line_of
line_read form m i s word is =
    let ts : List Token = operands form i in
    let good : Fine ts = fine form i s in
    let plain = statement_plain m ts word good in
    let whole : tokens_of (uncommented (m ++ spaced ts)) ≡ Word m ∷ ts = ap tokens_of (plain_whole (m ++ spaced ts) plain) ∙ statement_read m ts word good in
    let read : line_in (tokens_of (uncommented (m ++ spaced ts))) ≡ Some (line None (Some (parts_of form m i))) =
    ap line_in whole ∙ (unlabelled form m i ∙ rw is (ap (λ (o : Option Parts). option_map (λ (p : Parts). line None (Some p)) o) (shaped form m i s))) in
    ap (λ (b : Bool). cond b (line_in (tokens_of (uncommented (m ++ spaced ts)))) None) (plain_clean (m ++ spaced ts) plain) ∙ read

-- ------------------------------------------------------------------------------ drafts

pub draft_read : (form : Form) (m : List ℕ) (i : Instr) (op : Op) (o : Ordering) → mnemonic_in m ≡ Some (Named op o) → form_of op ≡ form → (form ≡ Data → ⊥) → IsSmall i →
    draft_of (parts_of form m i) ≡ Ok (draft (Named op o) (value_in form (parts_of form m i)) (registers_of form i))
unfolding draft_of
draft_read Upper m i op o is f n s = rw (is, f, register_read i.rd s.rd) refl
draft_read Jump m i op o is f n s = rw (is, f, register_read i.rd s.rd) refl
draft_read Branch m i op o is f n s = rw (is, f, register_read i.rs1 s.rs1, register_read i.rs2 s.rs2) refl
draft_read Offset m i op o is f n s = rw (is, f, register_read i.rd s.rd, register_read i.rs1 s.rs1) refl
draft_read Store m i op o is f n s = rw (is, f, register_read i.rs2 s.rs2, register_read i.rs1 s.rs1) refl
draft_read Immediate m i op o is f n s = rw (is, f, register_read i.rd s.rd, register_read i.rs1 s.rs1) refl
draft_read Shift m i op o is f n s = rw (is, f, register_read i.rd s.rd, register_read i.rs1 s.rs1) refl
draft_read ShiftWord m i op o is f n s = rw (is, f, register_read i.rd s.rd, register_read i.rs1 s.rs1) refl
draft_read Register m i op o is f n s = rw (is, f, register_read i.rd s.rd, register_read i.rs1 s.rs1, register_read i.rs2 s.rs2) refl
draft_read Fence m i op o is f n s = rw (is, f, register_read i.rd s.rd, register_read i.rs1 s.rs1) refl
draft_read Bare m i op o is f n s = rw (is, f) refl
draft_read Reserve m i op o is f n s = rw (is, f, register_read i.rd s.rd, register_read i.rs1 s.rs1) refl
draft_read Atomic m i op o is f n s = rw (is, f, register_read i.rd s.rd, register_read i.rs2 s.rs2, register_read i.rs1 s.rs1) refl
draft_read Data m i op o is f n s = absurd (n refl)

pub number_read : (places : List ℕ → Option Place) (index : ℕ) (form : Form) (m : List ℕ) (i : Instr) → (form ≡ Data → ⊥) → IsSmall i → number_in places form index (value_in form (parts_of form m i)) ≡ within form (number_of form i)
number_read places index Upper m i n s = ap (within Upper) (natural_value (upper_of i) (upper_small i))
number_read places index Jump m i n s = ap (within Jump) (signed_value i.imm s.imm)
number_read places index Branch m i n s = ap (within Branch) (signed_value i.imm s.imm)
number_read places index Offset m i n s = ap (within Offset) (signed_value i.imm s.imm)
number_read places index Store m i n s = ap (within Store) (signed_value i.imm s.imm)
number_read places index Immediate m i n s = ap (within Immediate) (signed_value i.imm s.imm)
number_read places index Shift m i n s = ap (within Shift) (signed_value i.imm s.imm)
number_read places index ShiftWord m i n s = ap (within ShiftWord) (signed_value i.imm s.imm)
number_read places index Register m i n s = refl
number_read places index Fence m i n s = ap (within Fence) (natural_value (fence_of i) (fence_small i))
number_read places index Bare m i n s = refl
number_read places index Reserve m i n s = refl
number_read places index Atomic m i n s = refl
number_read places index Data m i n s = absurd (n refl)

-- ------------------------------------------------------------------------------ one word

-- the text of an instruction gives the word of what it is
pub instr_read : (places : List ℕ → Option Place) (number index : ℕ) (form : Form) (i : Instr) → form_of i.op ≡ form → (form ≡ Data → ⊥) → index < 245760 → IsSmall i → MayStand i.op i.aq i.rl → is_in_range form (number_of form i) ≡ true →
    instr_of i.op (order i.aq i.rl) (registers_of form i) (immediate_of form (number_of form i)) ≡ i → line_word places number index (mnemonic_text i ++ spaced (operands form i)) ≡ Ok (Some (encode_of i))
unfolding line_word word_in
instr_read places number index form i f n room s may ranged same =
    let m : List ℕ = mnemonic_text i in
    let d : Draft = draft (Named i.op (order i.aq i.rl)) (value_in form (parts_of form m i)) (registers_of form i) in
    let read : line_of (m ++ spaced (operands form i)) ≡ Some (line None (Some (parts_of form m i))) = line_read form m i s (mnemonic_word i.op i.aq i.rl) (mnemonic_is i.op i.aq i.rl) in
    let drafts : draft_of (parts_of form m i) ≡ Ok d = draft_read form m i i.op (order i.aq i.rl) (named i.op i.aq i.rl may) f n s in
    let number_is : number_in places (form_of i.op) index (value_in form (parts_of form m i)) ≡ Ok (number_of form i) =
    ap (λ (g : Form). number_in places g index (value_in form (parts_of form m i))) f ∙ (number_read places index form m i n s ∙ ap (λ (b : Bool). in_range b (number_of form i)) ranged) in
    let word : word_by (Named i.op (order i.aq i.rl)) (registers_of form i) (number_of form i) ≡ encode_of i =
    ap (λ (g : Form). encode_of (instr_of i.op (order i.aq i.rl) (registers_of form i) (immediate_of g (number_of form i)))) f ∙ ap encode_of same in
    let is_room : nat_lt index 245760 ≡ true = grind (arith, nat_tests) in
    ap (by_line places number index) read ∙
    (ap (λ (r : Result Draft SourceCause). by_draft places number index None (some_draft r)) drafts ∙
    (ap (λ (r : Result ℤ SourceCause). sized index (worded d r)) number_is ∙
    (ap (λ (w : ℕ). sized index (ok_word w)) word ∙ ap (λ (b : Bool). room_for b (encode_of i)) is_room)))
  where
    in_range : Bool → ℤ → Result ℤ SourceCause
    in_range b z = cond b (Ok z) (Err out_of_range)

    ok_word : ℕ → Result ℕ SourceCause
    ok_word w = Ok w

    room_for : Bool → ℕ → Result (Option ℕ) SourceCause
    room_for b w = cond b (Ok (Some w)) (Err too_many)

-- a word that is no instruction
pub data_read : (places : List ℕ → Option Place) (number index word : ℕ) → index < 245760 → word < 2 ^ 32 → line_word places number index (statement_text (codes ".word") (Word (decimal word) ∷ [])) ≡ Ok (Some word)
unfolding line_word word_in line_of draft_of mnemonic_in is_in_range is_word_byte is_name_byte is_letter is_digit is_mnemonic_byte
data_read places number index word room small =
    let big : word < 2 ^ 64 = omega arith in
    let m : List ℕ = codes ".word" in
    let ts : List Token = Word (decimal word) ∷ [] in
    let is : IsWord m = record { bytes = refl; some = omega arith } in
    let good : Fine ts = (natural_word word big, tt, tt) in
    let plain = statement_plain m ts is good in
    let whole : tokens_of (uncommented (m ++ spaced ts)) ≡ Word m ∷ ts = ap tokens_of (plain_whole (m ++ spaced ts) plain) ∙ statement_read m ts is good in
    let p : Parts = parts m Number (decimal word) [] [] in
    let read : line_in (tokens_of (uncommented (m ++ spaced ts))) ≡ Some (line None (Some p)) = ap line_in whole ∙ rw (natural_number word big) refl in
    let text : line_of (m ++ spaced ts) ≡ Some (line None (Some p)) = ap (λ (b : Bool). cond b (line_in (tokens_of (uncommented (m ++ spaced ts)))) None) (plain_clean (m ++ spaced ts) plain) ∙ read in
    let is_room : nat_lt index 245760 ≡ true = grind (arith, nat_tests) in
    let high : int_le (pos word) (pos 4294967295) ≡ true = grind (arith, ints) in
    let low : int_le (pos 0) (pos word) ≡ true = grind (arith, ints) in
    ap (by_line places number index) text ∙ rw (natural_value word big, low, high, is_room) refl

pub data_plain : (word : ℕ) → word < 2 ^ 32 → list_all is_plain (statement_text (codes ".word") (Word (decimal word) ∷ [])) ≡ true
unfolding is_word_byte is_name_byte is_letter is_digit
data_plain word small =
    let big : word < 2 ^ 64 = omega arith in
    let is : IsWord (codes ".word") = record { bytes = refl; some = omega arith } in
    statement_plain (codes ".word") (Word (decimal word) ∷ []) is (natural_word word big, tt, tt)
