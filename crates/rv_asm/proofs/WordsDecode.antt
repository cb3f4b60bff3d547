-- The word of an instruction of a source decodes to that instruction.
use Rattle.std.specs.Prelude.{ℤ, pos, negsuc, int_le}
use Rattle.std.specs.Int.{w64, cast_unsigned}
use Rattle.std.proofs.Common.{◌≡◌, ℕ, ◌*◌, ◌^◌, ◌<◌, ◌≤◌, ◌==◌, ◌&&◌, ◌||◌, Bool, true, false, cond, arith, refl, ap, subst}
use Rattle.std.proofs.lemmas.Int.{ints}
use Rattle.rv_decode.specs.declared.Op.{Op}
use Rattle.rv_decode.specs.declared.Format.{Format}
use Rattle.rv_decode.specs.declared.Format.TheVariants.{Register as RegisterFormat, Immediate as ImmediateFormat, Shift as ShiftFormat, ShiftWord as ShiftWordFormat, Store as StoreFormat, Branch as BranchFormat, Upper as UpperFormat, Jump as JumpFormat, Whole as WholeFormat, Reserve as ReserveFormat, Atomic as AtomicFormat}
use Rattle.rv_decode.specs.Fields.{sign_extended}
use Rattle.rv_decode.specs.Words.{row_of}
use Rattle.rv_asm.specs.declared.form.Form.{Form}
use Rattle.rv_asm.specs.declared.form.Form.TheVariants.{Upper, Jump, Branch, Offset, Store, Immediate, Shift, ShiftWord, Register, Fence, Bare, Reserve, Atomic}
use Rattle.rv_asm.specs.declared.names.Ordering.{Ordering}
use Rattle.rv_asm.specs.declared.meaning.Registers.{Registers}
use Rattle.rv_asm.specs.Names.{form_by, form_of}
use Rattle.rv_asm.specs.Meaning.{lowest, highest, is_stepped, is_in_range, immediate_of, instr_of}
use Rattle.rv_asm.specs.Laws.{AreOperands, WordsDecode}
use Rattle.rv_asm.proofs.Decoded.{signed_12, upper_back}
use Rattle.rv_asm.proofs.Decoding.{Decodes, instr, register_decodes, immediate_decodes, shift_decodes, shift_word_decodes, store_decodes, branch_decodes, jump_decodes, upper_decodes, whole_decodes, atomic_decodes, reserve_decodes}

record Ranged (form : Form) (n : ℤ) : Type 0 where
  low : int_le (lowest form) n ≡ true
  high : int_le n (highest form) ≡ true
  step : is_stepped form n ≡ true

ranged : (form : Form) (n : ℤ) → is_in_range form n ≡ true → Ranged form n
unfolding is_in_range
ranged form n h = go (int_le (lowest form) n) refl (int_le n (highest form)) refl h
  where
    go : (a : Bool) → int_le (lowest form) n ≡ a → (b : Bool) → int_le n (highest form) ≡ b → (a && (b && is_stepped form n)) ≡ true → Ranged form n
    go true x true y k = record { low = x; high = y; step = k }
    go true x false y k = absurd (cc)
    go false x b y k = absurd (cc)

zero_is : (n : ℤ) → int_le (pos 0) n ≡ true → int_le n (pos 0) ≡ true → n ≡ pos 0
zero_is (pos n) low high = let e : n ≡ 0 = grind (arith, ints) in ap pos e
zero_is (negsuc n) low high = absurd (grind (arith, ints))

-- a number that is not below 0
record Natural (high : ℕ) (n : ℤ) : Type 0 where
  is : n ≡ pos (cast_unsigned w64 n)
  below : cast_unsigned w64 n ≤ high

natural : (high : ℕ) (n : ℤ) → int_le (pos 0) n ≡ true → int_le n (pos high) ≡ true → Natural high n
natural high (pos n) low up = record { is = refl; below = grind (arith, ints) }
natural high (negsuc n) low up = absurd (grind (arith, ints))

-- the instruction in its plain form
plain : (op : Op) (o : Ordering) (rs : Registers) (imm imm' : ℤ) (rd rs1 rs2 : ℕ) (aq rl : Bool) → rs.rd ≡ rd → rs.rs1 ≡ rs1 → rs.rs2 ≡ rs2 → imm ≡ imm' → o.aq ≡ aq → o.rl ≡ rl → Decodes (instr op rd rs1 rs2 imm' aq rl) → Decodes (instr_of op o rs imm)
unfolding instr
plain op o rs imm imm' rd rs1 rs2 aq rl a b c d e f h =
    let same : instr op rd rs1 rs2 imm' aq rl ≡ instr_of op o rs imm = cc in
    subst Decodes same h

by_format : (op : Op) (o : Ordering) (rs : Registers) (n : ℤ) (format : Format) (opcode : ℕ) → (row_of op).format ≡ format → AreOperands (form_by format opcode) o rs n → Decodes (instr_of op o rs (immediate_of (form_by format opcode) n))
by_format op o rs n RegisterFormat opcode is h =
    let r : Ranged Register n = ranged Register n h.in_range in
    let q = h.ordered refl in
    plain op o rs n (pos 0) rs.rd rs.rs1 rs.rs2 false false refl refl refl (zero_is n r.low r.high) q.0 q.1 (register_decodes op rs.rd rs.rs1 rs.rs2 is h.rd h.rs1 h.rs2)
by_format op o rs n ImmediateFormat opcode is h = go ((opcode == 0b1100111) || (opcode == 0b0000011)) (opcode == 0b0001111) h
  where
    go : (a b : Bool) → AreOperands (cond a Offset (cond b Fence Immediate)) o rs n → Decodes (instr_of op o rs (immediate_of (cond a Offset (cond b Fence Immediate)) n))
    go true b k =
        let r : Ranged Offset n = ranged Offset n k.in_range in
        let q = k.ordered refl in
        plain op o rs n n rs.rd rs.rs1 0 false false refl refl k.rs2 refl q.0 q.1 (immediate_decodes op rs.rd rs.rs1 n is k.rd k.rs1 r.low r.high)
    go false true k =
        let r : Ranged Fence n = ranged Fence n k.in_range in
        let m : Natural 4095 n = natural 4095 n r.low r.high in
        let z : ℤ = sign_extended 12 (cast_unsigned w64 n) in
        let b = (signed_12 (cast_unsigned w64 n) (omega (arith, m.below))).0 in
        let q = k.ordered refl in
        plain op o rs z z rs.rd rs.rs1 0 false false refl refl k.rs2 refl q.0 q.1 (immediate_decodes op rs.rd rs.rs1 z is k.rd k.rs1 b.0 b.1)
    go false false k =
        let r : Ranged Immediate n = ranged Immediate n k.in_range in
        let q = k.ordered refl in
        plain op o rs n n rs.rd rs.rs1 0 false false refl refl k.rs2 refl q.0 q.1 (immediate_decodes op rs.rd rs.rs1 n is k.rd k.rs1 r.low r.high)
by_format op o rs n ShiftFormat opcode is h =
    let r : Ranged Shift n = ranged Shift n h.in_range in
    let m : Natural 63 n = natural 63 n r.low r.high in
    let q = h.ordered refl in
    plain op o rs n (pos (cast_unsigned w64 n)) rs.rd rs.rs1 0 false false refl refl h.rs2 m.is q.0 q.1 (shift_decodes op rs.rd rs.rs1 (cast_unsigned w64 n) is h.rd h.rs1 (omega (arith, m.below)))
by_format op o rs n ShiftWordFormat opcode is h =
    let r : Ranged ShiftWord n = ranged ShiftWord n h.in_range in
    let m : Natural 31 n = natural 31 n r.low r.high in
    let q = h.ordered refl in
    plain op o rs n (pos (cast_unsigned w64 n)) rs.rd rs.rs1 0 false false refl refl h.rs2 m.is q.0 q.1 (shift_word_decodes op rs.rd rs.rs1 (cast_unsigned w64 n) is h.rd h.rs1 (omega (arith, m.below)))
by_format op o rs n StoreFormat opcode is h =
    let r : Ranged Store n = ranged Store n h.in_range in
    let q = h.ordered refl in
    plain op o rs n n 0 rs.rs1 rs.rs2 false false h.rd refl refl refl q.0 q.1 (store_decodes op rs.rs1 rs.rs2 n is h.rs1 h.rs2 r.low r.high)
by_format op o rs n BranchFormat opcode is h =
    let r : Ranged Branch n = ranged Branch n h.in_range in
    let q = h.ordered refl in
    plain op o rs n n 0 rs.rs1 rs.rs2 false false h.rd refl refl refl q.0 q.1 (branch_decodes op rs.rs1 rs.rs2 n is h.rs1 h.rs2 r.low r.high r.step)
by_format op o rs n UpperFormat opcode is h =
    let r : Ranged Upper n = ranged Upper n h.in_range in
    let m : Natural 1048575 n = natural 1048575 n r.low r.high in
    let y : ℕ = cast_unsigned w64 n in
    let small : y < 2 ^ 20 = omega (arith, m.below) in
    let q = h.ordered refl in
    plain op o rs (sign_extended 32 (y * 2 ^ 12)) (sign_extended 32 (y * 2 ^ 12)) rs.rd 0 0 false false refl h.rs1 h.rs2 refl q.0 q.1 (upper_decodes op rs.rd y is h.rd small (upper_back y small).0)
by_format op o rs n JumpFormat opcode is h =
    let r : Ranged Jump n = ranged Jump n h.in_range in
    let q = h.ordered refl in
    plain op o rs n n rs.rd 0 0 false false refl h.rs1 h.rs2 refl q.0 q.1 (jump_decodes op rs.rd n is h.rd r.low r.high r.step)
by_format op o rs n WholeFormat opcode is h =
    let r : Ranged Bare n = ranged Bare n h.in_range in
    let q = h.ordered refl in
    plain op o rs n (pos 0) 0 0 0 false false h.rd h.rs1 h.rs2 (zero_is n r.low r.high) q.0 q.1 (whole_decodes op is)
by_format op o rs n ReserveFormat opcode is h =
    let r : Ranged Reserve n = ranged Reserve n h.in_range in
    plain op o rs n (pos 0) rs.rd rs.rs1 0 o.aq o.rl refl refl h.rs2 (zero_is n r.low r.high) refl refl (reserve_decodes op rs.rd rs.rs1 o.aq o.rl is h.rd h.rs1)
by_format op o rs n AtomicFormat opcode is h =
    let r : Ranged Atomic n = ranged Atomic n h.in_range in
    plain op o rs n (pos 0) rs.rd rs.rs1 rs.rs2 o.aq o.rl refl refl refl (zero_is n r.low r.high) refl refl (atomic_decodes op rs.rd rs.rs1 rs.rs2 o.aq o.rl is h.rd h.rs1 h.rs2)

pub decodes : WordsDecode
unfolding form_of
decodes op o rs n h = by_format op o rs n (row_of op).format (row_of op).opcode refl h
