-- The way back: the row of a name, and an instruction's fields in their places.
use Rattle.std.specs.Prelude.{◌≡◌, ℕ, ◌+◌, ◌*◌, ◌%◌, ◌^◌, ◌<◌, Some}
use Rattle.std.specs.Int.{w64, cast_unsigned, from_bool}
use Rattle.rv_decode.specs.declared.Op.{Op}
use Rattle.rv_decode.specs.declared.Op.TheVariants.{Lui, Auipc, Jal, Jalr, Beq, Bne, Blt, Bge, Bltu, Bgeu, Lb, Lh, Lw, Ld, Lbu, Lhu, Lwu, Sb, Sh, Sw, Sd, Addi, Slti, Sltiu, Xori, Ori, Andi, Slli, Srli, Srai, Add, Sll, Slt, Sltu, Xor, Srl, Or, And, Sub, Sra, Addiw, Slliw, Srliw, Sraiw, Addw, Sllw, Srlw, Subw, Sraw, Fence, Ecall, Ebreak, LrW, LrD, ScW, AmoswapW, AmoaddW, AmoxorW, AmoandW, AmoorW, AmominW, AmomaxW, AmominuW, AmomaxuW, ScD, AmoswapD, AmoaddD, AmoxorD, AmoandD, AmoorD, AmominD, AmomaxD, AmominuD, AmomaxuD}
use Rattle.rv_decode.specs.declared.Format.{Format}
use Rattle.rv_decode.specs.declared.Format.TheVariants.{Register, Immediate, Shift, ShiftWord, Store, Branch, Upper, Jump, Whole, Reserve, Atomic}
use Rattle.rv_decode.specs.declared.Row.{Row}
use Rattle.rv_decode.specs.declared.Instr.{Instr}
use Rattle.rv_decode.specs.Fields.{bits_of}
use Rattle.rv_decode.specs.Rows.{row, decode_of}

-- the row of a name
unfoldable pub row_of : Op → Row
row_of Lui = row Lui Upper 0b0110111 0 0
row_of Auipc = row Auipc Upper 0b0010111 0 0
row_of Jal = row Jal Jump 0b1101111 0 0
row_of Jalr = row Jalr Immediate 0b1100111 0b000 0
row_of Beq = row Beq Branch 0b1100011 0b000 0
row_of Bne = row Bne Branch 0b1100011 0b001 0
row_of Blt = row Blt Branch 0b1100011 0b100 0
row_of Bge = row Bge Branch 0b1100011 0b101 0
row_of Bltu = row Bltu Branch 0b1100011 0b110 0
row_of Bgeu = row Bgeu Branch 0b1100011 0b111 0
row_of Lb = row Lb Immediate 0b0000011 0b000 0
row_of Lh = row Lh Immediate 0b0000011 0b001 0
row_of Lw = row Lw Immediate 0b0000011 0b010 0
row_of Ld = row Ld Immediate 0b0000011 0b011 0
row_of Lbu = row Lbu Immediate 0b0000011 0b100 0
row_of Lhu = row Lhu Immediate 0b0000011 0b101 0
row_of Lwu = row Lwu Immediate 0b0000011 0b110 0
row_of Sb = row Sb Store 0b0100011 0b000 0
row_of Sh = row Sh Store 0b0100011 0b001 0
row_of Sw = row Sw Store 0b0100011 0b010 0
row_of Sd = row Sd Store 0b0100011 0b011 0
row_of Addi = row Addi Immediate 0b0010011 0b000 0
row_of Slti = row Slti Immediate 0b0010011 0b010 0
row_of Sltiu = row Sltiu Immediate 0b0010011 0b011 0
row_of Xori = row Xori Immediate 0b0010011 0b100 0
row_of Ori = row Ori Immediate 0b0010011 0b110 0
row_of Andi = row Andi Immediate 0b0010011 0b111 0
row_of Slli = row Slli Shift 0b0010011 0b001 0b000000
row_of Srli = row Srli Shift 0b0010011 0b101 0b000000
row_of Srai = row Srai Shift 0b0010011 0b101 0b010000
row_of Add = row Add Register 0b0110011 0b000 0b0000000
row_of Sll = row Sll Register 0b0110011 0b001 0b0000000
row_of Slt = row Slt Register 0b0110011 0b010 0b0000000
row_of Sltu = row Sltu Register 0b0110011 0b011 0b0000000
row_of Xor = row Xor Register 0b0110011 0b100 0b0000000
row_of Srl = row Srl Register 0b0110011 0b101 0b0000000
row_of Or = row Or Register 0b0110011 0b110 0b0000000
row_of And = row And Register 0b0110011 0b111 0b0000000
row_of Sub = row Sub Register 0b0110011 0b000 0b0100000
row_of Sra = row Sra Register 0b0110011 0b101 0b0100000
row_of Addiw = row Addiw Immediate 0b0011011 0b000 0
row_of Slliw = row Slliw ShiftWord 0b0011011 0b001 0b0000000
row_of Srliw = row Srliw ShiftWord 0b0011011 0b101 0b0000000
row_of Sraiw = row Sraiw ShiftWord 0b0011011 0b101 0b0100000
row_of Addw = row Addw Register 0b0111011 0b000 0b0000000
row_of Sllw = row Sllw Register 0b0111011 0b001 0b0000000
row_of Srlw = row Srlw Register 0b0111011 0b101 0b0000000
row_of Subw = row Subw Register 0b0111011 0b000 0b0100000
row_of Sraw = row Sraw Register 0b0111011 0b101 0b0100000
row_of Fence = row Fence Immediate 0b0001111 0b000 0
row_of Ecall = row Ecall Whole 0b1110011 0 0
row_of Ebreak = row Ebreak Whole 0b1110011 0 1
row_of LrW = row LrW Reserve 0b0101111 0b010 0b00010
row_of LrD = row LrD Reserve 0b0101111 0b011 0b00010
row_of ScW = row ScW Atomic 0b0101111 0b010 0b00011
row_of AmoswapW = row AmoswapW Atomic 0b0101111 0b010 0b00001
row_of AmoaddW = row AmoaddW Atomic 0b0101111 0b010 0b00000
row_of AmoxorW = row AmoxorW Atomic 0b0101111 0b010 0b00100
row_of AmoandW = row AmoandW Atomic 0b0101111 0b010 0b01100
row_of AmoorW = row AmoorW Atomic 0b0101111 0b010 0b01000
row_of AmominW = row AmominW Atomic 0b0101111 0b010 0b10000
row_of AmomaxW = row AmomaxW Atomic 0b0101111 0b010 0b10100
row_of AmominuW = row AmominuW Atomic 0b0101111 0b010 0b11000
row_of AmomaxuW = row AmomaxuW Atomic 0b0101111 0b010 0b11100
row_of ScD = row ScD Atomic 0b0101111 0b011 0b00011
row_of AmoswapD = row AmoswapD Atomic 0b0101111 0b011 0b00001
row_of AmoaddD = row AmoaddD Atomic 0b0101111 0b011 0b00000
row_of AmoxorD = row AmoxorD Atomic 0b0101111 0b011 0b00100
row_of AmoandD = row AmoandD Atomic 0b0101111 0b011 0b01100
row_of AmoorD = row AmoorD Atomic 0b0101111 0b011 0b01000
row_of AmominD = row AmominD Atomic 0b0101111 0b011 0b10000
row_of AmomaxD = row AmomaxD Atomic 0b0101111 0b011 0b10100
row_of AmominuD = row AmominuD Atomic 0b0101111 0b011 0b11000
row_of AmomaxuD = row AmomaxuD Atomic 0b0101111 0b011 0b11100

-- the low 32 bits of the immediate
abbrev pub imm_word : Instr → ℕ
imm_word i = cast_unsigned w64 i.imm % 2 ^ 32

-- a register's number at bit `low`
abbrev pub register_at : ℕ → ℕ → ℕ
register_at register low = register % 2 ^ 5 * 2 ^ low

-- so many bits of the immediate, from bit `from` upwards, at bit `low`
abbrev pub imm_at : Instr → ℕ → ℕ → ℕ → ℕ
imm_at i from count low = bits_of (imm_word i) from count * 2 ^ low

-- the two bits of ordering
abbrev pub ordering_at : Instr → ℕ
ordering_at i = from_bool i.aq * 2 ^ 26 + from_bool i.rl * 2 ^ 25

-- opcode and funct3
abbrev pub fixed_of : Row → ℕ
fixed_of r = r.opcode + r.funct3 * 2 ^ 12

abbrev pub sources_of : Instr → ℕ
sources_of i = register_at i.rs1 15 + register_at i.rs2 20

-- the bit at which a format's field above lies
abbrev pub above_from : Format → ℕ
above_from Register = 25
above_from Immediate = 0
above_from Shift = 26
above_from ShiftWord = 25
above_from Store = 0
above_from Branch = 0
above_from Upper = 0
above_from Jump = 0
above_from Whole = 20
above_from Reserve = 27
above_from Atomic = 27

-- the field above, in its place
abbrev pub above_of : Row → ℕ
above_of r = r.above * 2 ^ above_from r.format

-- the word of an instruction, by its format and its row
abbrev pub word_of : Format → Row → Instr → ℕ
word_of Register r i = fixed_of r + register_at i.rd 7 + sources_of i + r.above * 2 ^ 25
word_of Immediate r i = fixed_of r + register_at i.rd 7 + register_at i.rs1 15 + imm_at i 0 12 20
word_of Shift r i = fixed_of r + register_at i.rd 7 + register_at i.rs1 15 + imm_at i 0 6 20 + r.above * 2 ^ 26
word_of ShiftWord r i = fixed_of r + register_at i.rd 7 + register_at i.rs1 15 + imm_at i 0 5 20 + r.above * 2 ^ 25
word_of Store r i = fixed_of r + imm_at i 0 5 7 + sources_of i + imm_at i 5 7 25
word_of Branch r i = fixed_of r + imm_at i 11 1 7 + imm_at i 1 4 8 + sources_of i + imm_at i 5 6 25 + imm_at i 12 1 31
word_of Upper r i = r.opcode + register_at i.rd 7 + imm_at i 12 20 12
word_of Jump r i = r.opcode + register_at i.rd 7 + imm_at i 12 8 12 + imm_at i 11 1 20 + imm_at i 1 10 21 + imm_at i 20 1 31
word_of Whole r i = r.opcode + r.above * 2 ^ 20
word_of Reserve r i = fixed_of r + register_at i.rd 7 + register_at i.rs1 15 + ordering_at i + r.above * 2 ^ 27
word_of Atomic r i = fixed_of r + register_at i.rd 7 + sources_of i + ordering_at i + r.above * 2 ^ 27

-- the word of an instruction
abbrev pub encode_of : Instr → ℕ
encode_of i = word_of (row_of i.op).format (row_of i.op) i

-- an instruction that some word decodes to encodes to that word
abbrev pub EncodesBack : Instr → ℕ → Type 0
EncodesBack i result = (word : ℕ) → word < 2 ^ 32 → decode_of word ≡ Some i → result ≡ word
