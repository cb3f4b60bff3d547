-- Format by format, the word of an instruction decodes to that instruction.
use Rattle.std.specs.Prelude.{ℤ, pos, negsuc, ◌-ℤ◌, int_le}
use Rattle.std.specs.Int.{w64, cast_unsigned, from_bool}
use Rattle.std.proofs.Common.{◌≡◌, ℕ, ◌+◌, ◌-◌, ◌*◌, ◌/◌, ◌%◌, ◌^◌, ◌<◌, ◌==◌, ◌&&◌, Bool, true, false, nat_lt, arith, refl, ap, ap₂, subst, Option, Some, eqb-true}
use Rattle.std.proofs.Math.Path.{◌∙◌}
use Rattle.std.proofs.lemmas.Bool.Decides.{nat_tests}
use Rattle.std.proofs.lemmas.Int.{ints}
use Rattle.rv_decode.specs.declared.Op.{Op}
use Rattle.rv_decode.specs.declared.Op.TheVariants.{Lui}
use Rattle.rv_decode.specs.declared.Instr.{Instr}
use Rattle.rv_decode.specs.declared.Row.{Row}
use Rattle.rv_decode.specs.declared.Format.{Format}
use Rattle.rv_decode.specs.declared.Format.TheVariants.{Register as RegisterFormat, Immediate as ImmediateFormat, Shift as ShiftFormat, ShiftWord as ShiftWordFormat, Store as StoreFormat, Branch as BranchFormat, Upper as UpperFormat, Jump as JumpFormat, Whole as WholeFormat, Reserve as ReserveFormat, Atomic as AtomicFormat}
use Rattle.rv_decode.specs.Fields.{bits_of, sign_extended, opcode_of}
use Rattle.rv_decode.specs.Rows.{fits, has_fields, operands_of, read_by, decode_of}
use Rattle.rv_decode.specs.Words.{row_of, above_from, word_of, encode_of}
use Rattle.rv_asm.proofs.Encoded.{IsRow, row_small, fitting, register_fields, immediate_fields, shift_fields, shift_word_fields, store_fields, branch_fields, upper_fields, jump_fields, whole_fields, atomic_fields, reserve_fields, low_12}
use Rattle.rv_asm.specs.Meaning.{is_even}

unfoldable pub instr : Op → ℕ → ℕ → ℕ → ℤ → Bool → Bool → Instr
instr op rd rs1 rs2 imm aq rl = record { op = op; rd = rd; rs1 = rs1; rs2 = rs2; imm = imm; aq = aq; rl = rl }

name_is : (op : Op) → (row_of op).name ≡ op
unfolding row_of
name_is Lui = refl
name_is _ = refl

-- an instruction whose word has the row's fields, and reads as it
by_row : (op : Op) (format : Format) (i : Instr) → i.op ≡ op → (row_of op).format ≡ format →
    opcode_of (word_of format (row_of op) i) ≡ (row_of op).opcode → has_fields format (row_of op) (word_of format (row_of op) i) ≡ true → operands_of format op (word_of format (row_of op) i) ≡ i → decode_of (encode_of i) ≡ Some i
by_row op format i named is opcode fields same =
    let r : Row = row_of op in
    let w : ℕ = word_of format r i in
    let word : encode_of i ≡ w = ap (λ (o : Op). word_of (row_of o).format (row_of o) i) named ∙ ap (λ (f : Format). word_of f r i) is in
    let test : (opcode_of w == r.opcode) ≡ true = grind (arith, nat_tests) in
    let fit : fits w r ≡ true = ap (λ (b : Bool). b && has_fields r.format r w) test ∙ (ap (λ (f : Format). has_fields f r w) is ∙ fields) in
    let read : read_by w r ≡ i = ap (λ (f : Format). operands_of f r.name w) is ∙ (ap (λ (o : Op). operands_of format o w) (name_is op) ∙ same) in
    ap decode_of word ∙ (fitting op w fit ∙ ap (λ (j : Instr). let o : Option Instr = Some j in o) read)

equal : (a b : ℕ) → a ≡ b → (a == b) ≡ true
equal a b h = grind (arith, nat_tests)

made : (op : Op) (rd rs1 rs2 rd' rs1' rs2' : ℕ) (imm imm' : ℤ) (aq aq' rl rl' : Bool) → rd ≡ rd' → rs1 ≡ rs1' → rs2 ≡ rs2' → imm ≡ imm' → aq ≡ aq' → rl ≡ rl' → instr op rd rs1 rs2 imm aq rl ≡ instr op rd' rs1' rs2' imm' aq' rl'
made op rd rs1 rs2 rd' rs1' rs2' imm imm' aq aq' rl rl' a b c d e f = cc

abbrev pub Decodes : Instr → Type 0
Decodes i = decode_of (encode_of i) ≡ Some i

pub register_decodes : (op : Op) (rd rs1 rs2 : ℕ) → (row_of op).format ≡ RegisterFormat → rd < 32 → rs1 < 32 → rs2 < 32 → Decodes (instr op rd rs1 rs2 (pos 0) false false)
unfolding instr
register_decodes op rd rs1 rs2 is hd h1 h2 =
    let r : Row = row_of op in
    let s : IsRow r = row_small op in
    let above : r.above < 128 = let b : r.above * 2 ^ 25 < 2 ^ 32 = subst (λ (f : Format). r.above * 2 ^ above_from f < 2 ^ 32) is s.above in omega arith in
    let f = register_fields r.opcode r.funct3 rd rs1 rs2 r.above s.opcode s.funct3 hd h1 h2 above in
    by_row op RegisterFormat (instr op rd rs1 rs2 (pos 0) false false) refl is f.0 (rw (equal _ _ f.2, equal _ _ f.5) refl) (made op _ _ _ rd rs1 rs2 _ (pos 0) _ false _ false f.1 f.3 f.4 refl refl refl)

pub immediate_decodes : (op : Op) (rd rs1 : ℕ) (n : ℤ) → (row_of op).format ≡ ImmediateFormat → rd < 32 → rs1 < 32 → int_le (negsuc 2047) n ≡ true → int_le n (pos 2047) ≡ true → Decodes (instr op rd rs1 0 n false false)
unfolding instr
immediate_decodes op rd rs1 n is hd h1 low high =
    let r : Row = row_of op in
    let s : IsRow r = row_small op in
    let x : ℕ = bits_of (cast_unsigned w64 n % 2 ^ 32) 0 12 in
    let f = immediate_fields r.opcode r.funct3 rd rs1 x s.opcode s.funct3 hd h1 (omega arith) in
    let whole : x ≡ cast_unsigned w64 n % 2 ^ 32 % 2 ^ 12 = omega arith in
    let imm = ap (sign_extended 12) (f.4 ∙ whole) ∙ low_12 n low high in
    by_row op ImmediateFormat (instr op rd rs1 0 n false false) refl is f.0 (rw (equal _ _ f.2) refl) (made op _ _ 0 rd rs1 0 _ n _ false _ false f.1 f.3 refl imm refl refl)

pub shift_decodes : (op : Op) (rd rs1 n : ℕ) → (row_of op).format ≡ ShiftFormat → rd < 32 → rs1 < 32 → n < 64 → Decodes (instr op rd rs1 0 (pos n) false false)
unfolding instr
shift_decodes op rd rs1 n is hd h1 small =
    let r : Row = row_of op in
    let s : IsRow r = row_small op in
    let above : r.above < 64 = let b : r.above * 2 ^ 26 < 2 ^ 32 = subst (λ (f : Format). r.above * 2 ^ above_from f < 2 ^ 32) is s.above in omega arith in
    let x : ℕ = bits_of (n % 2 ^ 32) 0 6 in
    let same : x ≡ n = omega arith in
    let f = shift_fields r.opcode r.funct3 rd rs1 x r.above s.opcode s.funct3 hd h1 (omega arith) above in
    let imm = ap pos (f.4 ∙ same) in
    by_row op ShiftFormat (instr op rd rs1 0 (pos n) false false) refl is f.0 (rw (equal _ _ f.2, equal _ _ f.5) refl) (made op _ _ 0 rd rs1 0 _ (pos n) _ false _ false f.1 f.3 refl imm refl refl)

pub shift_word_decodes : (op : Op) (rd rs1 n : ℕ) → (row_of op).format ≡ ShiftWordFormat → rd < 32 → rs1 < 32 → n < 32 → Decodes (instr op rd rs1 0 (pos n) false false)
unfolding instr
shift_word_decodes op rd rs1 n is hd h1 small =
    let r : Row = row_of op in
    let s : IsRow r = row_small op in
    let above : r.above < 128 = let b : r.above * 2 ^ 25 < 2 ^ 32 = subst (λ (f : Format). r.above * 2 ^ above_from f < 2 ^ 32) is s.above in omega arith in
    let x : ℕ = bits_of (n % 2 ^ 32) 0 5 in
    let same : x ≡ n = omega arith in
    let f = shift_word_fields r.opcode r.funct3 rd rs1 x r.above s.opcode s.funct3 hd h1 (omega arith) above in
    let imm = ap pos (f.4 ∙ same) in
    by_row op ShiftWordFormat (instr op rd rs1 0 (pos n) false false) refl is f.0 (rw (equal _ _ f.2, equal _ _ f.5) refl) (made op _ _ 0 rd rs1 0 _ (pos n) _ false _ false f.1 f.3 refl imm refl refl)

pub store_decodes : (op : Op) (rs1 rs2 : ℕ) (n : ℤ) → (row_of op).format ≡ StoreFormat → rs1 < 32 → rs2 < 32 → int_le (negsuc 2047) n ≡ true → int_le n (pos 2047) ≡ true → Decodes (instr op 0 rs1 rs2 n false false)
unfolding instr
store_decodes op rs1 rs2 n is h1 h2 low high =
    let r : Row = row_of op in
    let s : IsRow r = row_small op in
    let word : ℕ = cast_unsigned w64 n % 2 ^ 32 in
    let f = store_fields r.opcode r.funct3 rs1 rs2 (bits_of word 0 5) (bits_of word 5 7) s.opcode s.funct3 h1 h2 (omega arith) (omega arith) in
    let whole : bits_of word 5 7 * 2 ^ 5 + bits_of word 0 5 ≡ word % 2 ^ 12 = omega arith in
    let imm = ap₂ (λ (a b : ℕ). sign_extended 12 (a * 2 ^ 5 + b)) f.5 f.4 ∙ (ap (sign_extended 12) whole ∙ low_12 n low high) in
    by_row op StoreFormat (instr op 0 rs1 rs2 n false false) refl is f.0 (rw (equal _ _ f.1) refl) (made op 0 _ _ 0 rs1 rs2 _ n _ false _ false refl f.2 f.3 imm refl refl)

low_13 : (n : ℤ) → int_le (negsuc 4095) n ≡ true → int_le n (pos 4094) ≡ true → is_even n ≡ true → (sign_extended 13 (cast_unsigned w64 n % 2 ^ 32 % 2 ^ 13) ≡ n) × (cast_unsigned w64 n % 2 ^ 32 % 2 ≡ 0)
low_13 (pos n) lo hi even =
    let small : n < 2 ^ 12 = grind (arith, ints) in
    let same : n % 2 ^ 32 % 2 ^ 13 ≡ n = omega arith in
    let test : nat_lt n (2 ^ 12) ≡ true = grind (arith, nat_tests) in
    let e : n % 2 ≡ 0 = eqb-true (n % 2) 0 even in
    (rw (same, test) refl, omega arith)
low_13 (negsuc n) lo hi even =
    let small : n < 2 ^ 12 = grind (arith, ints) in
    let same : cast_unsigned w64 (negsuc n) % 2 ^ 32 % 2 ^ 13 ≡ 2 ^ 13 - 1 - n = omega arith in
    let test : nat_lt (2 ^ 13 - 1 - n) (2 ^ 12) ≡ false = grind (arith, nat_tests) in
    let is : pos (2 ^ 13 - 1 - n) -ℤ pos (2 ^ 13) ≡ negsuc n = grind (arith, ints) in
    let e : n % 2 ≡ 1 = eqb-true (n % 2) 1 even in
    (rw (same, test) is, omega arith)

pub branch_decodes : (op : Op) (rs1 rs2 : ℕ) (n : ℤ) → (row_of op).format ≡ BranchFormat → rs1 < 32 → rs2 < 32 → int_le (negsuc 4095) n ≡ true → int_le n (pos 4094) ≡ true → is_even n ≡ true → Decodes (instr op 0 rs1 rs2 n false false)
unfolding instr
branch_decodes op rs1 rs2 n is h1 h2 low high even =
    let r : Row = row_of op in
    let s : IsRow r = row_small op in
    let word : ℕ = cast_unsigned w64 n % 2 ^ 32 in
    let back = low_13 n low high even in
    let f = branch_fields r.opcode r.funct3 rs1 rs2 (bits_of word 11 1) (bits_of word 1 4) (bits_of word 5 6) (bits_of word 12 1) s.opcode s.funct3 h1 h2 (omega arith) (omega arith) (omega arith) (omega arith) in
    let whole : bits_of word 12 1 * 2 ^ 12 + bits_of word 11 1 * 2 ^ 11 + bits_of word 5 6 * 2 ^ 5 + bits_of word 1 4 * 2 ≡ word % 2 ^ 13 = omega (arith, back.1) in
    let imm = ap₂ (λ (a b : ℕ). sign_extended 13 (a * 2 ^ 12 + b * 2 ^ 11 + bits_of (word_of BranchFormat r (instr op 0 rs1 rs2 n false false)) 25 6 * 2 ^ 5 + bits_of (word_of BranchFormat r (instr op 0 rs1 rs2 n false false)) 8 4 * 2)) f.7 f.4 ∙
    (ap₂ (λ (c d : ℕ). sign_extended 13 (bits_of word 12 1 * 2 ^ 12 + bits_of word 11 1 * 2 ^ 11 + c * 2 ^ 5 + d * 2)) f.6 f.5 ∙ (ap (sign_extended 13) whole ∙ back.0)) in
    by_row op BranchFormat (instr op 0 rs1 rs2 n false false) refl is f.0 (rw (equal _ _ f.1) refl) (made op 0 _ _ 0 rs1 rs2 _ n _ false _ false refl f.2 f.3 imm refl refl)

low_21 : (n : ℤ) → int_le (negsuc 1048575) n ≡ true → int_le n (pos 1048574) ≡ true → is_even n ≡ true → (sign_extended 21 (cast_unsigned w64 n % 2 ^ 32 % 2 ^ 21) ≡ n) × (cast_unsigned w64 n % 2 ^ 32 % 2 ≡ 0)
low_21 (pos n) lo hi even =
    let small : n < 2 ^ 20 = grind (arith, ints) in
    let same : n % 2 ^ 32 % 2 ^ 21 ≡ n = omega arith in
    let test : nat_lt n (2 ^ 20) ≡ true = grind (arith, nat_tests) in
    let e : n % 2 ≡ 0 = eqb-true (n % 2) 0 even in
    (rw (same, test) refl, omega arith)
low_21 (negsuc n) lo hi even =
    let small : n < 2 ^ 20 = grind (arith, ints) in
    let same : cast_unsigned w64 (negsuc n) % 2 ^ 32 % 2 ^ 21 ≡ 2 ^ 21 - 1 - n = omega arith in
    let test : nat_lt (2 ^ 21 - 1 - n) (2 ^ 20) ≡ false = grind (arith, nat_tests) in
    let is : pos (2 ^ 21 - 1 - n) -ℤ pos (2 ^ 21) ≡ negsuc n = grind (arith, ints) in
    let e : n % 2 ≡ 1 = eqb-true (n % 2) 1 even in
    (rw (same, test) is, omega arith)

pub jump_decodes : (op : Op) (rd : ℕ) (n : ℤ) → (row_of op).format ≡ JumpFormat → rd < 32 → int_le (negsuc 1048575) n ≡ true → int_le n (pos 1048574) ≡ true → is_even n ≡ true → Decodes (instr op rd 0 0 n false false)
unfolding instr
jump_decodes op rd n is hd low high even =
    let r : Row = row_of op in
    let s : IsRow r = row_small op in
    let word : ℕ = cast_unsigned w64 n % 2 ^ 32 in
    let w : ℕ = word_of JumpFormat r (instr op rd 0 0 n false false) in
    let back = low_21 n low high even in
    let f = jump_fields r.opcode rd (bits_of word 12 8) (bits_of word 11 1) (bits_of word 1 10) (bits_of word 20 1) s.opcode hd (omega arith) (omega arith) (omega arith) (omega arith) in
    let whole : bits_of word 20 1 * 2 ^ 20 + bits_of word 12 8 * 2 ^ 12 + bits_of word 11 1 * 2 ^ 11 + bits_of word 1 10 * 2 ≡ word % 2 ^ 21 = omega (arith, back.1) in
    let imm = ap₂ (λ (a b : ℕ). sign_extended 21 (a * 2 ^ 20 + b * 2 ^ 12 + bits_of w 20 1 * 2 ^ 11 + bits_of w 21 10 * 2)) f.5 f.2 ∙
    (ap₂ (λ (c d : ℕ). sign_extended 21 (bits_of word 20 1 * 2 ^ 20 + bits_of word 12 8 * 2 ^ 12 + c * 2 ^ 11 + d * 2)) f.3 f.4 ∙ (ap (sign_extended 21) whole ∙ back.0)) in
    by_row op JumpFormat (instr op rd 0 0 n false false) refl is f.0 refl (made op _ 0 0 rd 0 0 _ n _ false _ false f.1 refl refl imm refl refl)

pub upper_decodes : (op : Op) (rd y : ℕ) → (row_of op).format ≡ UpperFormat → rd < 32 → y < 2 ^ 20 → cast_unsigned w64 (sign_extended 32 (y * 2 ^ 12)) % 2 ^ 32 / 2 ^ 12 ≡ y → Decodes (instr op rd 0 0 (sign_extended 32 (y * 2 ^ 12)) false false)
unfolding instr
upper_decodes op rd y is hd small back =
    let r : Row = row_of op in
    let s : IsRow r = row_small op in
    let word : ℕ = cast_unsigned w64 (sign_extended 32 (y * 2 ^ 12)) % 2 ^ 32 in
    let f = upper_fields r.opcode rd (bits_of word 12 20) s.opcode hd (omega arith) in
    let whole : bits_of word 12 20 ≡ y = ap (λ (m : ℕ). m % 2 ^ 20) back ∙ omega arith in
    let imm = ap (λ (m : ℕ). sign_extended 32 (m * 2 ^ 12)) (f.2 ∙ whole) in
    by_row op UpperFormat (instr op rd 0 0 (sign_extended 32 (y * 2 ^ 12)) false false) refl is f.0 refl (made op _ 0 0 rd 0 0 _ _ _ false _ false f.1 refl refl imm refl refl)

pub whole_decodes : (op : Op) → (row_of op).format ≡ WholeFormat → Decodes (instr op 0 0 0 (pos 0) false false)
unfolding instr
whole_decodes op is =
    let r : Row = row_of op in
    let s : IsRow r = row_small op in
    let above : r.above < 2 ^ 12 = let b : r.above * 2 ^ 20 < 2 ^ 32 = subst (λ (f : Format). r.above * 2 ^ above_from f < 2 ^ 32) is s.above in omega arith in
    let f = whole_fields r.opcode r.above s.opcode above in
    by_row op WholeFormat (instr op 0 0 0 (pos 0) false false) refl is f.0 (rw (equal _ _ f.1, equal _ _ f.2) refl) refl

bit : (b : Bool) → (from_bool b < 2) × ((from_bool b == 1) ≡ b)
bit true = (omega arith, refl)
bit false = (omega arith, refl)

pub atomic_decodes : (op : Op) (rd rs1 rs2 : ℕ) (aq rl : Bool) → (row_of op).format ≡ AtomicFormat → rd < 32 → rs1 < 32 → rs2 < 32 → Decodes (instr op rd rs1 rs2 (pos 0) aq rl)
unfolding instr
atomic_decodes op rd rs1 rs2 aq rl is hd h1 h2 =
    let r : Row = row_of op in
    let s : IsRow r = row_small op in
    let above : r.above < 32 = let b : r.above * 2 ^ 27 < 2 ^ 32 = subst (λ (f : Format). r.above * 2 ^ above_from f < 2 ^ 32) is s.above in omega arith in
    let f = atomic_fields r.opcode r.funct3 rd rs1 rs2 (from_bool aq) (from_bool rl) r.above s.opcode s.funct3 hd h1 h2 (bit aq).0 (bit rl).0 above in
    let q = ap (λ (m : ℕ). m == 1) f.5 ∙ (bit aq).1 in
    let l = ap (λ (m : ℕ). m == 1) f.6 ∙ (bit rl).1 in
    by_row op AtomicFormat (instr op rd rs1 rs2 (pos 0) aq rl) refl is f.0 (rw (equal _ _ f.2, equal _ _ f.7) refl) (made op _ _ _ rd rs1 rs2 (pos 0) (pos 0) _ aq _ rl f.1 f.3 f.4 refl q l)

pub reserve_decodes : (op : Op) (rd rs1 : ℕ) (aq rl : Bool) → (row_of op).format ≡ ReserveFormat → rd < 32 → rs1 < 32 → Decodes (instr op rd rs1 0 (pos 0) aq rl)
unfolding instr
reserve_decodes op rd rs1 aq rl is hd h1 =
    let r : Row = row_of op in
    let s : IsRow r = row_small op in
    let above : r.above < 32 = let b : r.above * 2 ^ 27 < 2 ^ 32 = subst (λ (f : Format). r.above * 2 ^ above_from f < 2 ^ 32) is s.above in omega arith in
    let f = reserve_fields r.opcode r.funct3 rd rs1 (from_bool aq) (from_bool rl) r.above s.opcode s.funct3 hd h1 (bit aq).0 (bit rl).0 above in
    let q = ap (λ (m : ℕ). m == 1) f.5 ∙ (bit aq).1 in
    let l = ap (λ (m : ℕ). m == 1) f.6 ∙ (bit rl).1 in
    by_row op ReserveFormat (instr op rd rs1 0 (pos 0) aq rl) refl is f.0 (rw (equal _ _ f.2, equal _ _ f.7, equal _ _ f.4) refl) (made op _ _ 0 rd rs1 0 (pos 0) (pos 0) _ aq _ rl f.1 f.3 refl refl q l)
