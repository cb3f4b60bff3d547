-- The instructions of RV64IA, row by row (RISC-V unprivileged manual, "RV32/64G Instruction Set Listings"): the format,
-- the opcode in bits 0 to 6, funct3 in bits 12 to 14, and what the format has above: funct7 in bits 25 to 31, the six
-- bits above a shift amount, or the five bits that name an atomic. A field that a row's format hasn't is 0.
use Rattle.std.specs.Prelude.{ℕ, ◌==◌, ◌&&◌, Bool, true, false, pos, List, [], ◌∷◌, ◌++◌, ◌<◌, ◌≤◌, length, filter, Option, find}
use Rattle.std.specs.Option.{option_map}
use Rattle.rv_decode.specs.declared.Op.{Op}
use Rattle.rv_decode.specs.declared.Op.TheVariants.{Lui, Auipc, Jal, Jalr, Beq, Bne, Blt, Bge, Bltu, Bgeu, Lb, Lh, Lw, Ld, Lbu, Lhu, Lwu, Sb, Sh, Sw, Sd, Addi, Slti, Sltiu, Xori, Ori, Andi, Slli, Srli, Srai, Add, Sll, Slt, Sltu, Xor, Srl, Or, And, Sub, Sra, Addiw, Slliw, Srliw, Sraiw, Addw, Sllw, Srlw, Subw, Sraw, Fence, Ecall, Ebreak, LrW, ScW, AmoswapW, AmoaddW, AmoxorW, AmoandW, AmoorW, AmominW, AmomaxW, AmominuW, AmomaxuW, LrD, ScD, AmoswapD, AmoaddD, AmoxorD, AmoandD, AmoorD, AmominD, AmomaxD, AmominuD, AmomaxuD}
use Rattle.rv_decode.specs.declared.Format.{Format}
use Rattle.rv_decode.specs.declared.Format.TheVariants.{Register, Immediate, Shift, ShiftWord, Store, Branch, Upper, Jump, Whole, Reserve, Atomic}
use Rattle.rv_decode.specs.declared.Row.{Row}
use Rattle.rv_decode.specs.declared.Instr.{Instr}
use Rattle.rv_decode.specs.Fields.{bits_of, opcode_of, rd_of, funct3_of, rs1_of, rs2_of, funct5_of, funct6_of, funct7_of, aq_of, rl_of, imm_i, imm_s, imm_b, imm_u, imm_j}

abbrev pub row : Op → Format → ℕ → ℕ → ℕ → Row
row name format opcode funct3 above = record {
  name = name;
  format = format;
  opcode = opcode;
  funct3 = funct3;
  above = above;
}

-- LUI
abbrev pub lui_rows : List Row
lui_rows =
    row Lui Upper 0b0110111 0 0 ∷ []

-- AUIPC
abbrev pub auipc_rows : List Row
auipc_rows =
    row Auipc Upper 0b0010111 0 0 ∷ []

-- JAL
abbrev pub jal_rows : List Row
jal_rows =
    row Jal Jump 0b1101111 0 0 ∷ []

-- JALR
abbrev pub jalr_rows : List Row
jalr_rows =
    row Jalr Immediate 0b1100111 0b000 0 ∷ []

-- BRANCH
abbrev pub branch_rows : List Row
branch_rows =
    row Beq Branch 0b1100011 0b000 0 ∷
    row Bne Branch 0b1100011 0b001 0 ∷
    row Blt Branch 0b1100011 0b100 0 ∷
    row Bge Branch 0b1100011 0b101 0 ∷
    row Bltu Branch 0b1100011 0b110 0 ∷
    row Bgeu Branch 0b1100011 0b111 0 ∷ []

-- LOAD
abbrev pub load_rows : List Row
load_rows =
    row Lb Immediate 0b0000011 0b000 0 ∷
    row Lh Immediate 0b0000011 0b001 0 ∷
    row Lw Immediate 0b0000011 0b010 0 ∷
    row Ld Immediate 0b0000011 0b011 0 ∷
    row Lbu Immediate 0b0000011 0b100 0 ∷
    row Lhu Immediate 0b0000011 0b101 0 ∷
    row Lwu Immediate 0b0000011 0b110 0 ∷ []

-- STORE
abbrev pub store_rows : List Row
store_rows =
    row Sb Store 0b0100011 0b000 0 ∷
    row Sh Store 0b0100011 0b001 0 ∷
    row Sw Store 0b0100011 0b010 0 ∷
    row Sd Store 0b0100011 0b011 0 ∷ []

-- OP-IMM without shifts
abbrev pub immediate_rows : List Row
immediate_rows =
    row Addi Immediate 0b0010011 0b000 0 ∷
    row Slti Immediate 0b0010011 0b010 0 ∷
    row Sltiu Immediate 0b0010011 0b011 0 ∷
    row Xori Immediate 0b0010011 0b100 0 ∷
    row Ori Immediate 0b0010011 0b110 0 ∷
    row Andi Immediate 0b0010011 0b111 0 ∷ []

-- OP-IMM, shifts
abbrev pub shift_rows : List Row
shift_rows =
    row Slli Shift 0b0010011 0b001 0b000000 ∷
    row Srli Shift 0b0010011 0b101 0b000000 ∷
    row Srai Shift 0b0010011 0b101 0b010000 ∷ []

-- OP
abbrev pub register_rows : List Row
register_rows =
    row Add Register 0b0110011 0b000 0b0000000 ∷
    row Sll Register 0b0110011 0b001 0b0000000 ∷
    row Slt Register 0b0110011 0b010 0b0000000 ∷
    row Sltu Register 0b0110011 0b011 0b0000000 ∷
    row Xor Register 0b0110011 0b100 0b0000000 ∷
    row Srl Register 0b0110011 0b101 0b0000000 ∷
    row Or Register 0b0110011 0b110 0b0000000 ∷
    row And Register 0b0110011 0b111 0b0000000 ∷
    row Sub Register 0b0110011 0b000 0b0100000 ∷
    row Sra Register 0b0110011 0b101 0b0100000 ∷ []

-- OP-IMM-32 without shifts
abbrev pub immediate_word_rows : List Row
immediate_word_rows =
    row Addiw Immediate 0b0011011 0b000 0 ∷ []

-- OP-IMM-32, shifts
abbrev pub shift_word_rows : List Row
shift_word_rows =
    row Slliw ShiftWord 0b0011011 0b001 0b0000000 ∷
    row Srliw ShiftWord 0b0011011 0b101 0b0000000 ∷
    row Sraiw ShiftWord 0b0011011 0b101 0b0100000 ∷ []

-- OP-32
abbrev pub register_word_rows : List Row
register_word_rows =
    row Addw Register 0b0111011 0b000 0b0000000 ∷
    row Sllw Register 0b0111011 0b001 0b0000000 ∷
    row Srlw Register 0b0111011 0b101 0b0000000 ∷
    row Subw Register 0b0111011 0b000 0b0100000 ∷
    row Sraw Register 0b0111011 0b101 0b0100000 ∷ []

-- MISC-MEM: rd, rs1 and bits 20 to 31 of a FENCE are kept
abbrev pub fence_rows : List Row
fence_rows =
    row Fence Immediate 0b0001111 0b000 0 ∷ []

-- SYSTEM
abbrev pub system_rows : List Row
system_rows =
    row Ecall Whole 0b1110011 0 0 ∷
    row Ebreak Whole 0b1110011 0 1 ∷ []

-- AMO, load-reserved: rs2 is 0
abbrev pub reserve_rows : List Row
reserve_rows =
    row LrW Reserve 0b0101111 0b010 0b00010 ∷
    row LrD Reserve 0b0101111 0b011 0b00010 ∷ []

-- AMO, the others
abbrev pub atomic_rows : List Row
atomic_rows =
    row ScW Atomic 0b0101111 0b010 0b00011 ∷
    row AmoswapW Atomic 0b0101111 0b010 0b00001 ∷
    row AmoaddW Atomic 0b0101111 0b010 0b00000 ∷
    row AmoxorW Atomic 0b0101111 0b010 0b00100 ∷
    row AmoandW Atomic 0b0101111 0b010 0b01100 ∷
    row AmoorW Atomic 0b0101111 0b010 0b01000 ∷
    row AmominW Atomic 0b0101111 0b010 0b10000 ∷
    row AmomaxW Atomic 0b0101111 0b010 0b10100 ∷
    row AmominuW Atomic 0b0101111 0b010 0b11000 ∷
    row AmomaxuW Atomic 0b0101111 0b010 0b11100 ∷
    row ScD Atomic 0b0101111 0b011 0b00011 ∷
    row AmoswapD Atomic 0b0101111 0b011 0b00001 ∷
    row AmoaddD Atomic 0b0101111 0b011 0b00000 ∷
    row AmoxorD Atomic 0b0101111 0b011 0b00100 ∷
    row AmoandD Atomic 0b0101111 0b011 0b01100 ∷
    row AmoorD Atomic 0b0101111 0b011 0b01000 ∷
    row AmominD Atomic 0b0101111 0b011 0b10000 ∷
    row AmomaxD Atomic 0b0101111 0b011 0b10100 ∷
    row AmominuD Atomic 0b0101111 0b011 0b11000 ∷
    row AmomaxuD Atomic 0b0101111 0b011 0b11100 ∷ []

-- the 74 rows
unfoldable pub rows : List Row
rows =
    lui_rows ++ (auipc_rows ++ (jal_rows ++ (jalr_rows ++ (branch_rows ++ (load_rows ++ (store_rows ++ (immediate_rows ++ (shift_rows ++ (register_rows ++ (immediate_word_rows ++ (shift_word_rows ++ (register_word_rows ++ (fence_rows ++ (system_rows ++ (reserve_rows ++ (atomic_rows))))))))))))))))

-- a word has the row's opcode and the fields that the row's format names it by
abbrev pub has_fields : Format → Row → ℕ → Bool
has_fields Register r word = (funct3_of word == r.funct3) && (funct7_of word == r.above)
has_fields Immediate r word = funct3_of word == r.funct3
has_fields Shift r word = (funct3_of word == r.funct3) && (funct6_of word == r.above)
has_fields ShiftWord r word = (funct3_of word == r.funct3) && (funct7_of word == r.above)
has_fields Store r word = funct3_of word == r.funct3
has_fields Branch r word = funct3_of word == r.funct3
has_fields Upper r word = true
has_fields Jump r word = true
has_fields Whole r word = (bits_of word 7 13 == 0) && (bits_of word 20 12 == r.above)
has_fields Reserve r word =
    (funct3_of word == r.funct3) && ((funct5_of word == r.above) && (rs2_of word == 0))
has_fields Atomic r word = (funct3_of word == r.funct3) && (funct5_of word == r.above)

abbrev pub fits : ℕ → Row → Bool
fits word r = (opcode_of word == r.opcode) && has_fields r.format r word

-- the operands of a word, by the format: a field that the format hasn't is 0
abbrev pub operands_of : Format → Op → ℕ → Instr
operands_of Register op word = record { op = op; rd = rd_of word; rs1 = rs1_of word; rs2 = rs2_of word; imm = pos 0; aq = false; rl = false }
operands_of Immediate op word = record { op = op; rd = rd_of word; rs1 = rs1_of word; rs2 = 0; imm = imm_i word; aq = false; rl = false }
operands_of Shift op word = record { op = op; rd = rd_of word; rs1 = rs1_of word; rs2 = 0; imm = pos (bits_of word 20 6); aq = false; rl = false }
operands_of ShiftWord op word = record { op = op; rd = rd_of word; rs1 = rs1_of word; rs2 = 0; imm = pos (bits_of word 20 5); aq = false; rl = false }
operands_of Store op word = record { op = op; rd = 0; rs1 = rs1_of word; rs2 = rs2_of word; imm = imm_s word; aq = false; rl = false }
operands_of Branch op word = record { op = op; rd = 0; rs1 = rs1_of word; rs2 = rs2_of word; imm = imm_b word; aq = false; rl = false }
operands_of Upper op word = record { op = op; rd = rd_of word; rs1 = 0; rs2 = 0; imm = imm_u word; aq = false; rl = false }
operands_of Jump op word = record { op = op; rd = rd_of word; rs1 = 0; rs2 = 0; imm = imm_j word; aq = false; rl = false }
operands_of Whole op word = record { op = op; rd = 0; rs1 = 0; rs2 = 0; imm = pos 0; aq = false; rl = false }
operands_of Reserve op word = record { op = op; rd = rd_of word; rs1 = rs1_of word; rs2 = 0; imm = pos 0; aq = aq_of word; rl = rl_of word }
operands_of Atomic op word = record { op = op; rd = rd_of word; rs1 = rs1_of word; rs2 = rs2_of word; imm = pos 0; aq = aq_of word; rl = rl_of word }

-- the instruction of a word by a row
abbrev pub read_by : ℕ → Row → Instr
read_by word r = operands_of r.format r.name word

-- the name of the first row of a list that passes a test
abbrev pub name_by : (Row → Bool) → List Row → Option Op
name_by test rs = option_map (λ r. r.name) (find test rs)

-- the instruction of a word, by the row that the word fits
unfoldable pub decode_of : ℕ → Option Instr
decode_of word = option_map (read_by word) (find (fits word) rows)

-- no word fits two rows
abbrev pub NoWordTwice : Type 0
NoWordTwice = (word : ℕ) → length (filter (fits word) rows) ≤ 1

-- the operands that name registers
pub record HasRegisters (i : Instr) : Type 0 where
  pub rd : i.rd < 32
  pub rs1 : i.rs1 < 32
  pub rs2 : i.rs2 < 32
