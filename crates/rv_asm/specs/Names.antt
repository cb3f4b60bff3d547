-- The mnemonics: the names of the instruction table in lower case, where LR, SC and the atomics have `.w` or `.d` after
-- it. Those may have `.aq`, `.rl` or `.aqrl` after that. And which operands a mnemonic takes.
use Rattle.std.specs.Prelude.{ℕ, ◌==◌, ◌||◌, Bool, true, false, cond, List, [], ◌∷◌, length, take, drop, codes, Option, None, Some}
use Rattle.std.specs.Option.{option_map, option_or}
use Rattle.std.specs.Str.{bytes_eq}
use Rattle.rv_decode.specs.declared.Op.{Op}
use Rattle.rv_decode.specs.declared.Op.TheVariants.{Lui, Auipc, Jal, Jalr, Beq, Bne, Blt, Bge, Bltu, Bgeu, Lb, Lh, Lw, Ld, Lbu, Lhu, Lwu, Sb, Sh, Sw, Sd, Addi, Slti, Sltiu, Xori, Ori, Andi, Slli, Srli, Srai, Add, Sll, Slt, Sltu, Xor, Srl, Or, And, Sub, Sra, Addiw, Slliw, Srliw, Sraiw, Addw, Sllw, Srlw, Subw, Sraw, Fence, Ecall, Ebreak, LrW, LrD, ScW, AmoswapW, AmoaddW, AmoxorW, AmoandW, AmoorW, AmominW, AmomaxW, AmominuW, AmomaxuW, ScD, AmoswapD, AmoaddD, AmoxorD, AmoandD, AmoorD, AmominD, AmomaxD, AmominuD, AmomaxuD}
use Rattle.rv_decode.specs.declared.Format.{Format}
use Rattle.rv_decode.specs.declared.Format.TheVariants.{Register as RegisterFormat, Immediate as ImmediateFormat, Shift as ShiftFormat, ShiftWord as ShiftWordFormat, Store as StoreFormat, Branch as BranchFormat, Upper as UpperFormat, Jump as JumpFormat, Whole as WholeFormat, Reserve as ReserveFormat, Atomic as AtomicFormat}
use Rattle.rv_decode.specs.Words.{row_of}
use Rattle.rv_asm.specs.declared.form.Form.{Form}
use Rattle.rv_asm.specs.declared.form.Form.TheVariants.{Upper, Jump, Branch, Offset, Store, Immediate, Shift, ShiftWord, Register, Fence, Bare, Reserve, Atomic, Data}
use Rattle.rv_asm.specs.declared.names.Ordering.{Ordering}
use Rattle.rv_asm.specs.declared.names.Mnemonic.{Mnemonic}
use Rattle.rv_asm.specs.declared.names.Mnemonic.TheVariants.{Word, Named}

-- the name of an instruction
unfoldable pub name_of : Op → List ℕ
name_of Lui = codes "lui"
name_of Auipc = codes "auipc"
name_of Jal = codes "jal"
name_of Jalr = codes "jalr"
name_of Beq = codes "beq"
name_of Bne = codes "bne"
name_of Blt = codes "blt"
name_of Bge = codes "bge"
name_of Bltu = codes "bltu"
name_of Bgeu = codes "bgeu"
name_of Lb = codes "lb"
name_of Lh = codes "lh"
name_of Lw = codes "lw"
name_of Ld = codes "ld"
name_of Lbu = codes "lbu"
name_of Lhu = codes "lhu"
name_of Lwu = codes "lwu"
name_of Sb = codes "sb"
name_of Sh = codes "sh"
name_of Sw = codes "sw"
name_of Sd = codes "sd"
name_of Addi = codes "addi"
name_of Slti = codes "slti"
name_of Sltiu = codes "sltiu"
name_of Xori = codes "xori"
name_of Ori = codes "ori"
name_of Andi = codes "andi"
name_of Slli = codes "slli"
name_of Srli = codes "srli"
name_of Srai = codes "srai"
name_of Add = codes "add"
name_of Sll = codes "sll"
name_of Slt = codes "slt"
name_of Sltu = codes "sltu"
name_of Xor = codes "xor"
name_of Srl = codes "srl"
name_of Or = codes "or"
name_of And = codes "and"
name_of Sub = codes "sub"
name_of Sra = codes "sra"
name_of Addiw = codes "addiw"
name_of Slliw = codes "slliw"
name_of Srliw = codes "srliw"
name_of Sraiw = codes "sraiw"
name_of Addw = codes "addw"
name_of Sllw = codes "sllw"
name_of Srlw = codes "srlw"
name_of Subw = codes "subw"
name_of Sraw = codes "sraw"
name_of Fence = codes "fence"
name_of Ecall = codes "ecall"
name_of Ebreak = codes "ebreak"
name_of LrW = codes "lr.w"
name_of LrD = codes "lr.d"
name_of ScW = codes "sc.w"
name_of AmoswapW = codes "amoswap.w"
name_of AmoaddW = codes "amoadd.w"
name_of AmoxorW = codes "amoxor.w"
name_of AmoandW = codes "amoand.w"
name_of AmoorW = codes "amoor.w"
name_of AmominW = codes "amomin.w"
name_of AmomaxW = codes "amomax.w"
name_of AmominuW = codes "amominu.w"
name_of AmomaxuW = codes "amomaxu.w"
name_of ScD = codes "sc.d"
name_of AmoswapD = codes "amoswap.d"
name_of AmoaddD = codes "amoadd.d"
name_of AmoxorD = codes "amoxor.d"
name_of AmoandD = codes "amoand.d"
name_of AmoorD = codes "amoor.d"
name_of AmominD = codes "amomin.d"
name_of AmomaxD = codes "amomax.d"
name_of AmominuD = codes "amominu.d"
name_of AmomaxuD = codes "amomaxu.d"

-- the instructions, in the order of the table
unfoldable pub ops : List Op
ops =
    Lui ∷ Auipc ∷ Jal ∷ Jalr ∷ Beq ∷ Bne ∷ Blt ∷ Bge ∷ Bltu ∷ Bgeu ∷ Lb ∷ Lh ∷ Lw ∷ Ld ∷ Lbu ∷ Lhu ∷ Lwu ∷ Sb ∷ Sh ∷ Sw ∷ Sd ∷ Addi ∷ Slti ∷ Sltiu ∷ Xori ∷ Ori ∷ Andi ∷ Slli ∷ Srli ∷ Srai ∷ Add ∷ Sll ∷ Slt ∷ Sltu ∷ Xor ∷ Srl ∷ Or ∷ And ∷ Sub ∷ Sra ∷ Addiw ∷ Slliw ∷ Srliw ∷ Sraiw ∷ Addw ∷ Sllw ∷ Srlw ∷ Subw ∷ Sraw ∷ Fence ∷ Ecall ∷ Ebreak ∷ LrW ∷ LrD ∷ ScW ∷ AmoswapW ∷ AmoaddW ∷ AmoxorW ∷ AmoandW ∷ AmoorW ∷ AmominW ∷ AmomaxW ∷ AmominuW ∷ AmomaxuW ∷ ScD ∷ AmoswapD ∷ AmoaddD ∷ AmoxorD ∷ AmoandD ∷ AmoorD ∷ AmominD ∷ AmomaxD ∷ AmominuD ∷ AmomaxuD ∷ []

-- ------------------------------------------------------------------------------ operands

-- the operands of an instruction, by its format: of those with 12 bits, JALR and the loads have an address, and FENCE
-- keeps all of its bits
abbrev pub form_by : Format → ℕ → Form
form_by RegisterFormat opcode = Register
form_by ImmediateFormat opcode =
    cond ((opcode == 0b1100111) || (opcode == 0b0000011)) Offset (cond (opcode == 0b0001111) Fence Immediate)
form_by ShiftFormat opcode = Shift
form_by ShiftWordFormat opcode = ShiftWord
form_by StoreFormat opcode = Store
form_by BranchFormat opcode = Branch
form_by UpperFormat opcode = Upper
form_by JumpFormat opcode = Jump
form_by WholeFormat opcode = Bare
form_by ReserveFormat opcode = Reserve
form_by AtomicFormat opcode = Atomic

unfoldable pub form_of : Op → Form
form_of op = form_by (row_of op).format (row_of op).opcode

-- ------------------------------------------------------------------------------ orderings

-- an instruction whose name may have an ordering after it
abbrev pub has_ordering : Form → Bool
has_ordering Upper = false
has_ordering Jump = false
has_ordering Branch = false
has_ordering Offset = false
has_ordering Store = false
has_ordering Immediate = false
has_ordering Shift = false
has_ordering ShiftWord = false
has_ordering Register = false
has_ordering Fence = false
has_ordering Bare = false
has_ordering Reserve = true
has_ordering Atomic = true
has_ordering Data = false

abbrev pub order : Bool → Bool → Ordering
order aq rl = record { aq = aq; rl = rl }

abbrev pub ordering_text : Bool → Bool → List ℕ
ordering_text false false = []
ordering_text true false = codes ".aq"
ordering_text false true = codes ".rl"
ordering_text true true = codes ".aqrl"

-- the ordering that a text after the name is
abbrev pub ordering_in : List ℕ → Option Ordering
ordering_in text =
    cond (bytes_eq text (codes ".aq")) (Some (order true false))
    (cond (bytes_eq text (codes ".rl")) (Some (order false true))
    (cond (bytes_eq text (codes ".aqrl")) (Some (order true true)) None))

-- what stands after the name: nothing, or an ordering where the instruction may have one
abbrev pub tail_in : Form → List ℕ → Option Ordering
tail_in form text =
    cond (length text == 0) (Some (order false false)) (cond (has_ordering form) (ordering_in text) None)

-- the ordering of a mnemonic that is this instruction's
unfoldable pub ordering_of : Op → List ℕ → Option Ordering
ordering_of op text =
    cond (bytes_eq (take (length (name_of op)) text) (name_of op)) (tail_in (form_of op) (drop (length (name_of op)) text)) None

-- ------------------------------------------------------------------------------ mnemonics

abbrev pub named_by : Op → Option Ordering → Option Mnemonic
named_by op ordering = option_map (λ o. Named op o) ordering

-- the first of these instructions whose mnemonic a text is
abbrev pub first_named : List Op → List ℕ → Option Mnemonic
first_named [] text = None
first_named (op ∷ rest) text = option_or (named_by op (ordering_of op text)) (first_named rest text)

-- the mnemonic that a word is: `.word`, or that of an instruction
unfoldable pub mnemonic_in : List ℕ → Option Mnemonic
mnemonic_in text = cond (bytes_eq text (codes ".word")) (Some Word) (first_named ops text)

-- what a mnemonic takes
abbrev pub form_for : Mnemonic → Form
form_for Word = Data
form_for (Named op ordering) = form_of op
