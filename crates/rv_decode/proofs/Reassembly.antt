-- A word is its fields, put back in their places: what decodes encodes to the same word.
use Rattle.std.proofs.Common.{◌≡◌, ℕ, ◌+◌, ◌*◌, ◌%◌, ◌^◌, ◌<◌, ◌≤◌, ◌⊎◌, Bool, true, false, cond, ◌&&◌, ◌==◌, inl, inr, refl, ap, sym, subst, ◌∙◌, arith, Some, None, Option, IfSome, List, [], ◌∷◌, map}
use Rattle.std.specs.Int.{w64, cast_unsigned, from_bool}
use Rattle.std.specs.List.{find}
use Rattle.std.specs.Option.{option_map}
use Rattle.std.proofs.lemmas.Int.{ints}
use Rattle.std.proofs.lemmas.Bool.{eqb-true, cases_lt}
use Rattle.rv_decode.specs.declared.Op.{Op}
use Rattle.rv_decode.specs.declared.Format.{Format}
use Rattle.rv_decode.specs.declared.Format.TheVariants.{Register, Immediate, Shift, ShiftWord, Store, Branch, Upper, Jump, Whole, Reserve, Atomic}
use Rattle.rv_decode.specs.declared.Row.{Row}
use Rattle.rv_decode.specs.declared.Instr.{Instr}
use Rattle.rv_decode.specs.Fields.{bits_of, sign_extended, opcode_of, funct3_of, funct5_of, funct6_of, funct7_of, rs2_of}
use Rattle.rv_decode.specs.Rows.{rows, fits, has_fields, HasRegisters, operands_of, read_by, decode_of}
use Rattle.rv_decode.specs.Words.{row_of, word_of, encode_of}
use Rattle.rv_decode.proofs.Groups.{first_true, second_true}

-- the low 32 bits of a sign-extended immediate
abbrev pub low_of : ℕ → ℕ → ℕ
low_of count x = cast_unsigned w64 (sign_extended count x) % 2 ^ 32

-- they are the immediate's bits, with ones above where it is negative
low_12 : (x : ℕ) → x < 2 ^ 12 → (low_of 12 x ≡ x) ⊎ (low_of 12 x + 2 ^ 12 ≡ x + 2 ^ 32)
low_12 x h =
    let positive : x < 2 ^ 11 → cast_unsigned w64 (sign_extended 12 x) ≡ x = λ p. grind (arith, ints) in
    let negative : 2 ^ 11 ≤ x → cast_unsigned w64 (sign_extended 12 x) + 2 ^ 12 ≡ x + 2 ^ 64 = λ p. grind (arith, ints) in
    elim (cases_lt x (2 ^ 11)) [
      | inl p ↦ inl (let e = positive p in omega (arith, e))
      | inr p ↦ inr (let e = negative p in omega (arith, e))
    ]

-- they are the immediate's bits, with ones above where it is negative
low_13 : (x : ℕ) → x < 2 ^ 13 → (low_of 13 x ≡ x) ⊎ (low_of 13 x + 2 ^ 13 ≡ x + 2 ^ 32)
low_13 x h =
    let positive : x < 2 ^ 12 → cast_unsigned w64 (sign_extended 13 x) ≡ x = λ p. grind (arith, ints) in
    let negative : 2 ^ 12 ≤ x → cast_unsigned w64 (sign_extended 13 x) + 2 ^ 13 ≡ x + 2 ^ 64 = λ p. grind (arith, ints) in
    elim (cases_lt x (2 ^ 12)) [
      | inl p ↦ inl (let e = positive p in omega (arith, e))
      | inr p ↦ inr (let e = negative p in omega (arith, e))
    ]

-- they are the immediate's bits, with ones above where it is negative
low_21 : (x : ℕ) → x < 2 ^ 21 → (low_of 21 x ≡ x) ⊎ (low_of 21 x + 2 ^ 21 ≡ x + 2 ^ 32)
low_21 x h =
    let positive : x < 2 ^ 20 → cast_unsigned w64 (sign_extended 21 x) ≡ x = λ p. grind (arith, ints) in
    let negative : 2 ^ 20 ≤ x → cast_unsigned w64 (sign_extended 21 x) + 2 ^ 21 ≡ x + 2 ^ 64 = λ p. grind (arith, ints) in
    elim (cases_lt x (2 ^ 20)) [
      | inl p ↦ inl (let e = positive p in omega (arith, e))
      | inr p ↦ inr (let e = negative p in omega (arith, e))
    ]

-- they are the immediate's bits, with ones above where it is negative
low_32 : (x : ℕ) → x < 2 ^ 32 → (low_of 32 x ≡ x) ⊎ (low_of 32 x + 2 ^ 32 ≡ x + 2 ^ 32)
low_32 x h =
    let positive : x < 2 ^ 31 → cast_unsigned w64 (sign_extended 32 x) ≡ x = λ p. grind (arith, ints) in
    let negative : 2 ^ 31 ≤ x → cast_unsigned w64 (sign_extended 32 x) + 2 ^ 32 ≡ x + 2 ^ 64 = λ p. grind (arith, ints) in
    elim (cases_lt x (2 ^ 31)) [
      | inl p ↦ inl (let e = positive p in omega (arith, e))
      | inr p ↦ inr (let e = negative p in omega (arith, e))
    ]

-- the fields that a row asks for
eq_left : (a b : ℕ) (rest : Bool) → ((a == b) && rest) ≡ true → a ≡ b
eq_left a b rest h = eqb-true a b (first_true (a == b) rest h)

eq_right : (first : Bool) (a b : ℕ) → (first && (a == b)) ≡ true → a ≡ b
eq_right first a b h = eqb-true a b (second_true first (a == b) h)

-- a bit as a number is the bit
bit_back : (x : ℕ) → x < 2 → from_bool (x == 1) ≡ x
bit_back x h = grind arith

-- the parts of a branch's offset
branch_parts : (a b c d low : ℕ) → a < 2 → b < 2 → c < 64 → d < 16 → (low ≡ a * 2 ^ 12 + b * 2 ^ 11 + c * 2 ^ 5 + d * 2) ⊎ (low + 2 ^ 13 ≡ a * 2 ^ 12 + b * 2 ^ 11 + c * 2 ^ 5 + d * 2 + 2 ^ 32) → (bits_of low 12 1 ≡ a) × (bits_of low 11 1 ≡ b) × (bits_of low 5 6 ≡ c) × (bits_of low 1 4 ≡ d)
branch_parts a b c d low ha hb hc hd (inl e) = (omega arith, omega arith, omega arith, omega arith)
branch_parts a b c d low ha hb hc hd (inr e) = (omega arith, omega arith, omega arith, omega arith)

-- the parts of a jump's offset
jump_parts : (a b c d low : ℕ) → a < 2 → b < 256 → c < 2 → d < 1024 → (low ≡ a * 2 ^ 20 + b * 2 ^ 12 + c * 2 ^ 11 + d * 2) ⊎ (low + 2 ^ 21 ≡ a * 2 ^ 20 + b * 2 ^ 12 + c * 2 ^ 11 + d * 2 + 2 ^ 32) → (bits_of low 20 1 ≡ a) × (bits_of low 12 8 ≡ b) × (bits_of low 11 1 ≡ c) × (bits_of low 1 10 ≡ d)
jump_parts a b c d low ha hb hc hd (inl e) = (omega arith, omega arith, omega arith, omega arith)
jump_parts a b c d low ha hb hc hd (inr e) = (omega arith, omega arith, omega arith, omega arith)

-- the parts of a store's offset
store_parts : (a b low : ℕ) → a < 128 → b < 32 → (low ≡ a * 2 ^ 5 + b) ⊎ (low + 2 ^ 12 ≡ a * 2 ^ 5 + b + 2 ^ 32) → (bits_of low 5 7 ≡ a) × (bits_of low 0 5 ≡ b)
store_parts a b low ha hb (inl e) = (omega arith, omega arith)
store_parts a b low ha hb (inr e) = (omega arith, omega arith)

-- the word of what a row reads is the word, format by format
abbrev IsBack : Format → Row → ℕ → Type 0
IsBack format r word = word_of format r (operands_of format r.name word) ≡ word

back_register : (r : Row) (word : ℕ) → word < 2 ^ 32 → opcode_of word ≡ r.opcode → funct3_of word ≡ r.funct3 → funct7_of word ≡ r.above → IsBack Register r word
back_register r word below opcode funct3 above = rw (← opcode, ← funct3, ← above) (omega arith)

back_immediate : (r : Row) (word : ℕ) → word < 2 ^ 32 → opcode_of word ≡ r.opcode → funct3_of word ≡ r.funct3 → IsBack Immediate r word
back_immediate r word below opcode funct3 =
    let x : ℕ = bits_of word 20 12 in
    let part : bits_of (low_of 12 x) 0 12 ≡ x =
    elim (low_12 x (omega arith)) [ inl e ↦ omega (arith, e) | inr e ↦ omega (arith, e) ] in
    rw (← opcode, ← funct3, part) (omega arith)

back_branch : (r : Row) (word : ℕ) → word < 2 ^ 32 → opcode_of word ≡ r.opcode → funct3_of word ≡ r.funct3 → IsBack Branch r word
back_branch r word below opcode funct3 =
    let x : ℕ = bits_of word 31 1 * 2 ^ 12 + bits_of word 7 1 * 2 ^ 11 + bits_of word 25 6 * 2 ^ 5 + bits_of word 8 4 * 2 in
    let parts = branch_parts (bits_of word 31 1) (bits_of word 7 1) (bits_of word 25 6) (bits_of word 8 4) (low_of 13 x) (omega arith) (omega arith) (omega arith) (omega arith) (low_13 x (omega arith)) in
    rw (← opcode, ← funct3, parts.0, parts.1, parts.2, parts.3) (omega arith)

back_shift : (r : Row) (word : ℕ) → word < 2 ^ 32 → opcode_of word ≡ r.opcode → funct3_of word ≡ r.funct3 → funct6_of word ≡ r.above → IsBack Shift r word
back_shift r word below opcode funct3 above =
    let part : bits_of (bits_of word 20 6 % 2 ^ 32) 0 6 ≡ bits_of word 20 6 = omega arith in
    rw (← opcode, ← funct3, ← above, part) (omega arith)

back_shift_word : (r : Row) (word : ℕ) → word < 2 ^ 32 → opcode_of word ≡ r.opcode → funct3_of word ≡ r.funct3 → funct7_of word ≡ r.above → IsBack ShiftWord r word
back_shift_word r word below opcode funct3 above =
    let part : bits_of (bits_of word 20 5 % 2 ^ 32) 0 5 ≡ bits_of word 20 5 = omega arith in
    rw (← opcode, ← funct3, ← above, part) (omega arith)

back_store : (r : Row) (word : ℕ) → word < 2 ^ 32 → opcode_of word ≡ r.opcode → funct3_of word ≡ r.funct3 → IsBack Store r word
back_store r word below opcode funct3 =
    let x : ℕ = bits_of word 25 7 * 2 ^ 5 + bits_of word 7 5 in
    let parts = store_parts (bits_of word 25 7) (bits_of word 7 5) (low_of 12 x) (omega arith) (omega arith) (low_12 x (omega arith)) in
    rw (← opcode, ← funct3, parts.0, parts.1) (omega arith)

back_upper : (r : Row) (word : ℕ) → word < 2 ^ 32 → opcode_of word ≡ r.opcode → IsBack Upper r word
back_upper r word below opcode =
    let x : ℕ = bits_of word 12 20 * 2 ^ 12 in
    let part : bits_of (low_of 32 x) 12 20 ≡ bits_of word 12 20 =
    elim (low_32 x (omega arith)) [ inl e ↦ omega (arith, e) | inr e ↦ omega (arith, e) ] in
    rw (← opcode, part) (omega arith)

back_jump : (r : Row) (word : ℕ) → word < 2 ^ 32 → opcode_of word ≡ r.opcode → IsBack Jump r word
back_jump r word below opcode =
    let x : ℕ = bits_of word 31 1 * 2 ^ 20 + bits_of word 12 8 * 2 ^ 12 + bits_of word 20 1 * 2 ^ 11 + bits_of word 21 10 * 2 in
    let parts = jump_parts (bits_of word 31 1) (bits_of word 12 8) (bits_of word 20 1) (bits_of word 21 10) (low_of 21 x) (omega arith) (omega arith) (omega arith) (omega arith) (low_21 x (omega arith)) in
    rw (← opcode, parts.0, parts.1, parts.2, parts.3) (omega arith)

back_whole : (r : Row) (word : ℕ) → word < 2 ^ 32 → opcode_of word ≡ r.opcode → bits_of word 7 13 ≡ 0 → bits_of word 20 12 ≡ r.above → IsBack Whole r word
back_whole r word below opcode rest above = rw (← opcode, ← above) (omega arith)

back_reserve : (r : Row) (word : ℕ) → word < 2 ^ 32 → opcode_of word ≡ r.opcode → funct3_of word ≡ r.funct3 → funct5_of word ≡ r.above → rs2_of word ≡ 0 → IsBack Reserve r word
back_reserve r word below opcode funct3 above none =
    let aq = bit_back (bits_of word 26 1) (omega arith) in
    let rl = bit_back (bits_of word 25 1) (omega arith) in
    rw (← opcode, ← funct3, ← above, aq, rl) (omega arith)

back_atomic : (r : Row) (word : ℕ) → word < 2 ^ 32 → opcode_of word ≡ r.opcode → funct3_of word ≡ r.funct3 → funct5_of word ≡ r.above → IsBack Atomic r word
back_atomic r word below opcode funct3 above =
    let aq = bit_back (bits_of word 26 1) (omega arith) in
    let rl = bit_back (bits_of word 25 1) (omega arith) in
    rw (← opcode, ← funct3, ← above, aq, rl) (omega arith)

-- the word of what a row reads is the word
back : (format : Format) (r : Row) (word : ℕ) → word < 2 ^ 32 → opcode_of word ≡ r.opcode → has_fields format r word ≡ true → IsBack format r word
back Register r word below opcode h =
    back_register r word below opcode (eq_left _ _ _ h) (eq_right _ _ _ h)
back Immediate r word below opcode h = back_immediate r word below opcode (eqb-true _ _ h)
back Shift r word below opcode h =
    back_shift r word below opcode (eq_left _ _ _ h) (eq_right _ _ _ h)
back ShiftWord r word below opcode h =
    back_shift_word r word below opcode (eq_left _ _ _ h) (eq_right _ _ _ h)
back Store r word below opcode h = back_store r word below opcode (eqb-true _ _ h)
back Branch r word below opcode h = back_branch r word below opcode (eqb-true _ _ h)
back Upper r word below opcode h = back_upper r word below opcode
back Jump r word below opcode h = back_jump r word below opcode
back Whole r word below opcode h =
    back_whole r word below opcode (eq_left _ _ _ h) (eq_right _ _ _ h)
back Reserve r word below opcode h =
    let rest = second_true (funct3_of word == r.funct3) ((funct5_of word == r.above) && (rs2_of word == 0)) h in
    back_reserve r word below opcode (eq_left _ _ _ h) (eq_left _ _ _ rest) (eq_right _ _ _ rest)
back Atomic r word below opcode h =
    back_atomic r word below opcode (eq_left _ _ _ h) (eq_right _ _ _ h)

-- ---- the row that a word fits

-- each of these rows is the row of its name
abbrev AreNamed : List Row → Type 0
AreNamed [] = Unit {0}
AreNamed (r ∷ rs) = (row_of r.name ≡ r) × AreNamed rs

named : (rs : List Row) → map (λ r. row_of r.name) rs ≡ rs → AreNamed rs
named [] e = tt
named (r ∷ rs) e = (cc, named rs (cc))

-- a word fits the row that is found for it, which is the row of its name
found : (word : ℕ) (rs : List Row) (i : Instr) → AreNamed rs → option_map (read_by word) (find (fits word) rs) ≡ Some i → (r : Row) × (fits word r ≡ true) × (row_of r.name ≡ r) × (read_by word r ≡ i)
found word [] i all e = cc
found word (r ∷ rs) i all e =
    let both : (b : Bool) → fits word r ≡ b → option_map (read_by word) (cond b (Some r) (find (fits word) rs)) ≡ Some i → (q : Row) × (fits word q ≡ true) × (row_of q.name ≡ q) × (read_by word q ≡ i) =
    λ b. elim b as (λ v. fits word r ≡ v → option_map (read_by word) (cond v (Some r) (find (fits word) rs)) ≡ Some i → (q : Row) × (fits word q ≡ true) × (row_of q.name ≡ q) × (read_by word q ≡ i)) [
      | true ↦ λ h k. (r, h, all.0, (cc))
      | false ↦ λ h k. found word rs i all.1 k
    ] in
    both (fits word r) refl e

-- an instruction has the name that it was read with
op_read : (format : Format) (op : Op) (word : ℕ) → (operands_of format op word).op ≡ op
op_read Register op word = refl
op_read Immediate op word = refl
op_read Shift op word = refl
op_read ShiftWord op word = refl
op_read Store op word = refl
op_read Branch op word = refl
op_read Upper op word = refl
op_read Jump op word = refl
op_read Whole op word = refl
op_read Reserve op word = refl
op_read Atomic op word = refl

encode_row : (word : ℕ) (r : Row) → row_of r.name ≡ r → IsBack r.format r word → encode_of (read_by word r) ≡ word
encode_row word r known whole =
    ap (λ (q : Row). word_of q.format q (read_by word r)) (ap row_of (op_read r.format r.name word) ∙ known) ∙ whole

-- what decodes encodes to the same word
pub encode_back : (word : ℕ) (i : Instr) → word < 2 ^ 32 → decode_of word ≡ Some i → encode_of i ≡ word
unfolding decode_of rows row_of
encode_back word i below e =
    let f = found word rows i (named rows refl) e in
    let r : Row = f.0 in
    let opcode : opcode_of word ≡ r.opcode = eq_left (opcode_of word) r.opcode (has_fields r.format r word) f.1 in
    let fields : has_fields r.format r word ≡ true = second_true (opcode_of word == r.opcode) (has_fields r.format r word) f.1 in
    subst (λ x. encode_of x ≡ word) f.3 (encode_row word r f.2 (back r.format r word below opcode fields))

-- each operand that names a register is below 32
registers_below : (format : Format) (op : Op) (word : ℕ) → HasRegisters (operands_of format op word)
registers_below Register op word = record { rd = omega arith; rs1 = omega arith; rs2 = omega arith }
registers_below _ op word = record { rd = omega arith; rs1 = omega arith; rs2 = omega arith }

decode_registers : (word : ℕ) (i : Instr) → decode_of word ≡ Some i → HasRegisters i
unfolding decode_of rows row_of
decode_registers word i e =
    let f = found word rows i (named rows refl) e in
    let r : Row = f.0 in
    subst HasRegisters f.3 (registers_below r.format r.name word)

pub decoded_registers : (word : ℕ) (o : Option Instr) → o ≡ decode_of word → IfSome o HasRegisters
decoded_registers word None e = tt
decoded_registers word (Some i) e = decode_registers word i (sym e)
