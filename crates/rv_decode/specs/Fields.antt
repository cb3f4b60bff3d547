-- The fields of an instruction word and the immediates that they make (RISC-V unprivileged manual, "Base Instruction
-- Formats" and "Immediate Encoding Variants").
use Rattle.std.specs.Prelude.{ℕ, ◌+◌, ◌-◌, ◌*◌, ◌/◌, ◌%◌, ◌^◌, Bool, ◌==◌, nat_lt, ℤ, pos, ◌-ℤ◌, if◌then◌else◌}

-- so many bits of a word, from bit `low` upwards
abbrev pub bits_of : ℕ → ℕ → ℕ → ℕ
bits_of word low count = word / 2 ^ low % 2 ^ count

-- the signed number that the low `count` bits are, in two's complement
abbrev pub sign_extended : ℕ → ℕ → ℤ
sign_extended count x = if nat_lt x (2 ^ (count - 1)) then pos x else pos x -ℤ pos (2 ^ count)

abbrev pub opcode_of : ℕ → ℕ
opcode_of word = bits_of word 0 7

abbrev pub rd_of : ℕ → ℕ
rd_of word = bits_of word 7 5

abbrev pub funct3_of : ℕ → ℕ
funct3_of word = bits_of word 12 3

abbrev pub rs1_of : ℕ → ℕ
rs1_of word = bits_of word 15 5

abbrev pub rs2_of : ℕ → ℕ
rs2_of word = bits_of word 20 5

abbrev pub funct7_of : ℕ → ℕ
funct7_of word = bits_of word 25 7

-- the six bits above a shift amount of six bits
abbrev pub funct6_of : ℕ → ℕ
funct6_of word = bits_of word 26 6

-- the five bits that name an atomic
abbrev pub funct5_of : ℕ → ℕ
funct5_of word = bits_of word 27 5

abbrev pub aq_of : ℕ → Bool
aq_of word = bits_of word 26 1 == 1

abbrev pub rl_of : ℕ → Bool
rl_of word = bits_of word 25 1 == 1

-- bits 20 to 31
abbrev pub imm_i : ℕ → ℤ
imm_i word = sign_extended 12 (bits_of word 20 12)

-- bits 25 to 31 above bits 7 to 11
abbrev pub imm_s : ℕ → ℤ
imm_s word = sign_extended 12 (bits_of word 25 7 * 2 ^ 5 + bits_of word 7 5)

-- bit 31, bit 7, bits 25 to 30 and bits 8 to 11, from bit 12 of the offset down to bit 1
abbrev pub imm_b : ℕ → ℤ
imm_b word = sign_extended 13
    (bits_of word 31 1 * 2 ^ 12 + bits_of word 7 1 * 2 ^ 11 + bits_of word 25 6 * 2 ^ 5 + bits_of word 8 4 * 2)

-- bits 12 to 31, where they stand
abbrev pub imm_u : ℕ → ℤ
imm_u word = sign_extended 32 (bits_of word 12 20 * 2 ^ 12)

-- bit 31, bits 12 to 19, bit 20 and bits 21 to 30, from bit 20 of the offset down to bit 1
abbrev pub imm_j : ℕ → ℤ
imm_j word = sign_extended 21
    (bits_of word 31 1 * 2 ^ 20 + bits_of word 12 8 * 2 ^ 12 + bits_of word 20 1 * 2 ^ 11 + bits_of word 21 10 * 2)
