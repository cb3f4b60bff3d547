-- The kinds of work that the 74 operations fall into: what the code of a hart goes by.
use Rattle.std.specs.Prelude.{ℕ, ◌-◌, ◌%◌, Bool, true, false, not, ◌==◌, ◌||◌, bit_and, bit_or, bit_xor, Option, Some, None, cond}
use Rattle.std.specs.Int.{from_bool}
use Rattle.og_line.specs.declared.AtomicOp.TheVariants.{Swap, Add as sum, Xor as either, And as both, Or as any, Min, Max, Minu, Maxu}
use Rattle.og_line.specs.declared.Access.{Access}
use Rattle.og_line.specs.declared.Access.TheVariants as access
use Rattle.og_line.specs.Line.{low_bytes_of}
use Rattle.rv_decode.specs.declared.Op.{Op}
use Rattle.rv_decode.specs.declared.Op.TheVariants.{Lui, Auipc, Jal, Jalr, Lb, Lh, Lw, Ld, Lbu, Lhu, Lwu, Addi, Slti, Sltiu, Xori, Ori, Andi, Slli, Srli, Srai, Add, Sub, Sll, Slt, Sltu, Xor, Srl, Sra, Or, And, Addiw, Slliw, Srliw, Sraiw, Addw, Subw, Sllw, Srlw, Sraw, LrW, ScW, AmoswapW, AmoaddW, AmoxorW, AmoandW, AmoorW, AmominW, AmomaxW, AmominuW, AmomaxuW, LrD, ScD, AmoswapD, AmoaddD, AmoxorD, AmoandD, AmoorD, AmominD, AmomaxD, AmominuD, AmomaxuD, Beq, Bne, Blt, Bge, Bltu, Bgeu, Sb, Sh, Sw, Sd, Fence, Ecall, Ebreak}
use Rattle.rv_hart.specs.declared.work.Alu.{Alu}
use Rattle.rv_hart.specs.declared.work.Alu.TheVariants as alu
use Rattle.rv_hart.specs.declared.work.WordAlu.{WordAlu}
use Rattle.rv_hart.specs.declared.work.WordAlu.TheVariants as word
use Rattle.rv_hart.specs.declared.work.Condition.{Condition}
use Rattle.rv_hart.specs.declared.work.Condition.TheVariants as when
use Rattle.rv_hart.specs.declared.work.Work.{Work}
use Rattle.rv_hart.specs.declared.work.Work.TheVariants as work
use Rattle.rv_hart.specs.Effect.{plus, minus, shifted_left, shifted_right, shifted_right_signed, is_less, is_less_signed, byte_extended, half_extended, word_extended, word_plus, word_minus, word_shifted_left, word_shifted_right, word_shifted_right_signed, branch_to}

unfoldable pub work_of : Op → Work
work_of Lui = work.Upper
work_of Auipc = work.UpperPc
work_of Jal = work.Jump
work_of Jalr = work.JumpRegister
work_of Beq = work.Branch when.Equal
work_of Bne = work.Branch when.NotEqual
work_of Blt = work.Branch when.Less
work_of Bge = work.Branch when.NotLess
work_of Bltu = work.Branch when.LessUnsigned
work_of Bgeu = work.Branch when.NotLessUnsigned
work_of Lb = work.Load 1 true
work_of Lh = work.Load 2 true
work_of Lw = work.Load 4 true
work_of Ld = work.Load 8 false
work_of Lbu = work.Load 1 false
work_of Lhu = work.Load 2 false
work_of Lwu = work.Load 4 false
work_of Sb = work.Store 1
work_of Sh = work.Store 2
work_of Sw = work.Store 4
work_of Sd = work.Store 8
work_of Addi = work.Immediate alu.Add
work_of Slti = work.Immediate alu.Less
work_of Sltiu = work.Immediate alu.LessUnsigned
work_of Xori = work.Immediate alu.Xor
work_of Ori = work.Immediate alu.Or
work_of Andi = work.Immediate alu.And
work_of Slli = work.Immediate alu.ShiftLeft
work_of Srli = work.Immediate alu.ShiftRight
work_of Srai = work.Immediate alu.ShiftRightSigned
work_of Add = work.Register alu.Add
work_of Sll = work.Register alu.ShiftLeft
work_of Slt = work.Register alu.Less
work_of Sltu = work.Register alu.LessUnsigned
work_of Xor = work.Register alu.Xor
work_of Srl = work.Register alu.ShiftRight
work_of Or = work.Register alu.Or
work_of And = work.Register alu.And
work_of Sub = work.Register alu.Sub
work_of Sra = work.Register alu.ShiftRightSigned
work_of Addiw = work.ImmediateWord word.Add
work_of Slliw = work.ImmediateWord word.ShiftLeft
work_of Srliw = work.ImmediateWord word.ShiftRight
work_of Sraiw = work.ImmediateWord word.ShiftRightSigned
work_of Addw = work.RegisterWord word.Add
work_of Sllw = work.RegisterWord word.ShiftLeft
work_of Srlw = work.RegisterWord word.ShiftRight
work_of Subw = work.RegisterWord word.Sub
work_of Sraw = work.RegisterWord word.ShiftRightSigned
work_of Fence = work.Fence
work_of Ecall = work.Call
work_of Ebreak = work.Break
work_of LrW = work.Reserve 4
work_of LrD = work.Reserve 8
work_of ScW = work.Conditional 4
work_of AmoswapW = work.Atomic Swap 4
work_of AmoaddW = work.Atomic sum 4
work_of AmoxorW = work.Atomic either 4
work_of AmoandW = work.Atomic both 4
work_of AmoorW = work.Atomic any 4
work_of AmominW = work.Atomic Min 4
work_of AmomaxW = work.Atomic Max 4
work_of AmominuW = work.Atomic Minu 4
work_of AmomaxuW = work.Atomic Maxu 4
work_of ScD = work.Conditional 8
work_of AmoswapD = work.Atomic Swap 8
work_of AmoaddD = work.Atomic sum 8
work_of AmoxorD = work.Atomic either 8
work_of AmoandD = work.Atomic both 8
work_of AmoorD = work.Atomic any 8
work_of AmominD = work.Atomic Min 8
work_of AmomaxD = work.Atomic Max 8
work_of AmominuD = work.Atomic Minu 8
work_of AmomaxuD = work.Atomic Maxu 8

abbrev pub alu_value : Alu → ℕ → ℕ → ℕ
alu_value alu.Add a b = plus a b
alu_value alu.Sub a b = minus a b
alu_value alu.ShiftLeft a b = shifted_left a b
alu_value alu.Less a b = from_bool (is_less_signed a b)
alu_value alu.LessUnsigned a b = from_bool (is_less a b)
alu_value alu.Xor a b = bit_xor a b
alu_value alu.ShiftRight a b = shifted_right a b
alu_value alu.ShiftRightSigned a b = shifted_right_signed a b
alu_value alu.Or a b = bit_or a b
alu_value alu.And a b = bit_and a b

abbrev pub word_alu_value : WordAlu → ℕ → ℕ → ℕ
word_alu_value word.Add a b = word_plus a b
word_alu_value word.Sub a b = word_minus a b
word_alu_value word.ShiftLeft a b = word_shifted_left a b
word_alu_value word.ShiftRight a b = word_shifted_right a b
word_alu_value word.ShiftRightSigned a b = word_shifted_right_signed a b

abbrev pub is_met : Condition → ℕ → ℕ → Bool
is_met when.Equal a b = a == b
is_met when.NotEqual a b = not (a == b)
is_met when.Less a b = is_less_signed a b
is_met when.NotLess a b = not (is_less_signed a b)
is_met when.LessUnsigned a b = is_less a b
is_met when.NotLessUnsigned a b = not (is_less a b)

-- the low bytes of an answer, sign-extended
abbrev pub extended : ℕ → ℕ → ℕ
extended width x =
    cond (width == 1) (byte_extended x) (cond (width == 2) (half_extended x) (cond (width == 4) (word_extended x) x))

unfoldable pub value_by : Work → (imm pc a b answer : ℕ) → Option ℕ
value_by work.Upper imm pc a b answer = Some imm
value_by work.UpperPc imm pc a b answer = Some (plus pc imm)
value_by work.Jump imm pc a b answer = Some (plus pc 4)
value_by work.JumpRegister imm pc a b answer = Some (plus pc 4)
value_by (work.Branch c) imm pc a b answer = None
value_by (work.Load width signed) imm pc a b answer = Some (cond signed (extended width answer) answer)
value_by (work.Store width) imm pc a b answer = None
value_by (work.Immediate o) imm pc a b answer = Some (alu_value o a imm)
value_by (work.Register o) imm pc a b answer = Some (alu_value o a b)
value_by (work.ImmediateWord o) imm pc a b answer = Some (word_alu_value o a imm)
value_by (work.RegisterWord o) imm pc a b answer = Some (word_alu_value o a b)
value_by work.Fence imm pc a b answer = None
value_by work.Call imm pc a b answer = None
value_by work.Break imm pc a b answer = None
value_by (work.Reserve width) imm pc a b answer = Some (extended width answer)
value_by (work.Conditional width) imm pc a b answer = Some answer
value_by (work.Atomic o width) imm pc a b answer = Some (extended width answer)

unfoldable pub access_by : Work → (imm a b : ℕ) → Option Access
access_by (work.Load width signed) imm a b = Some (access.Load (plus a imm) width)
access_by (work.Store width) imm a b = Some (access.Store (plus a imm) width (low_bytes_of width b))
access_by (work.Reserve width) imm a b = Some (access.Reserve a width)
access_by (work.Conditional width) imm a b = Some (access.Conditional a width (low_bytes_of width b))
access_by (work.Atomic o width) imm a b = Some (access.Atomic o a width (low_bytes_of width b))
access_by _ imm a b = None

unfoldable pub target_by : Work → (imm pc a b : ℕ) → Option ℕ
target_by work.Jump imm pc a b = Some (plus pc imm)
target_by work.JumpRegister imm pc a b = Some (plus a imm - plus a imm % 2)
target_by (work.Branch c) imm pc a b = branch_to (is_met c a b) (plus pc imm)
target_by _ imm pc a b = None

-- the work has a width that its kind may have
abbrev pub is_width : ℕ → Bool
is_width width = (width == 1) || ((width == 2) || ((width == 4) || (width == 8)))

abbrev pub is_atomic_width : ℕ → Bool
is_atomic_width width = (width == 4) || (width == 8)

abbrev pub is_width_known : Work → Bool
is_width_known (work.Load width signed) = is_width width
is_width_known (work.Store width) = is_width width
is_width_known (work.Reserve width) = is_atomic_width width
is_width_known (work.Conditional width) = is_atomic_width width
is_width_known (work.Atomic o width) = is_atomic_width width
is_width_known _ = true
