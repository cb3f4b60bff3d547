-- What one instruction computes, operation by operation (RISC-V unprivileged manual, chapters "RV32I", "RV64I" and "A").
-- Registers hold numbers below 2 ^ 64. `imm` is the sign-extended immediate as such a number, `a` and `b` are the two
-- source registers, and `answer` is what memory answers, zero-extended.
use Rattle.std.specs.Prelude.{ℕ, ◌+◌, ◌-◌, ◌*◌, ◌/◌, ◌%◌, ◌^◌, Bool, not, ◌==◌, nat_lt, int_lt, bit_and, bit_or, bit_xor, Option, Some, None, if◌then◌else◌}
use Rattle.std.specs.Int.{w8, w16, w32, w64, cast_signed, cast_unsigned, int_shr, from_bool}
use Rattle.og_line.specs.declared.AtomicOp.TheVariants.{Swap, Add as sum, Xor as either, And as both, Or as any, Min, Max, Minu, Maxu}
use Rattle.og_line.specs.declared.Access.{Access}
use Rattle.og_line.specs.declared.Access.TheVariants.{Load, Store, Reserve, Conditional, Atomic}
use Rattle.og_line.specs.Line.{low_bytes_of}
use Rattle.rv_decode.specs.declared.Op.{Op}
use Rattle.rv_decode.specs.declared.Op.TheVariants.{Lui, Auipc, Jal, Jalr, Lb, Lh, Lw, Ld, Lbu, Lhu, Lwu, Addi, Slti, Sltiu, Xori, Ori, Andi, Slli, Srli, Srai, Add, Sub, Sll, Slt, Sltu, Xor, Srl, Sra, Or, And, Addiw, Slliw, Srliw, Sraiw, Addw, Subw, Sllw, Srlw, Sraw, LrW, ScW, AmoswapW, AmoaddW, AmoxorW, AmoandW, AmoorW, AmominW, AmomaxW, AmominuW, AmomaxuW, LrD, ScD, AmoswapD, AmoaddD, AmoxorD, AmoandD, AmoorD, AmominD, AmomaxD, AmominuD, AmomaxuD, Beq, Bne, Blt, Bge, Bltu, Bgeu, Sb, Sh, Sw, Sd, Fence, Ecall, Ebreak}

-- ---- arithmetic on 64 bits

abbrev pub plus : ℕ → ℕ → ℕ
plus a b = (a + b) % 2 ^ 64

abbrev pub minus : ℕ → ℕ → ℕ
minus a b = (a + (2 ^ 64 - b)) % 2 ^ 64

-- shift amounts have six bits
abbrev pub shifted_left : ℕ → ℕ → ℕ
shifted_left a n = a * 2 ^ (n % 64) % 2 ^ 64

abbrev pub shifted_right : ℕ → ℕ → ℕ
shifted_right a n = a / 2 ^ (n % 64)

-- copies of the sign come in from above
abbrev pub shifted_right_signed : ℕ → ℕ → ℕ
shifted_right_signed a n = cast_unsigned w64 (int_shr (cast_signed w64 a) (n % 64))

abbrev pub is_less : ℕ → ℕ → Bool
is_less a b = nat_lt a b

abbrev pub is_less_signed : ℕ → ℕ → Bool
is_less_signed a b = int_lt (cast_signed w64 a) (cast_signed w64 b)

-- ---- the low 8, 16 or 32 bits of a number, sign-extended

abbrev pub byte_extended : ℕ → ℕ
byte_extended x = cast_unsigned w64 (cast_signed w8 (x % 2 ^ 8))

abbrev pub half_extended : ℕ → ℕ
half_extended x = cast_unsigned w64 (cast_signed w16 (x % 2 ^ 16))

abbrev pub word_extended : ℕ → ℕ
word_extended x = cast_unsigned w64 (cast_signed w32 (x % 2 ^ 32))

-- ---- arithmetic on 32 bits: the result is sign-extended, and shift amounts have five bits

abbrev pub word_plus : ℕ → ℕ → ℕ
word_plus a b = word_extended (a + b)

abbrev pub word_minus : ℕ → ℕ → ℕ
word_minus a b = word_extended (minus a b)

abbrev pub word_shifted_left : ℕ → ℕ → ℕ
word_shifted_left a n = word_extended (a * 2 ^ (n % 32))

abbrev pub word_shifted_right : ℕ → ℕ → ℕ
word_shifted_right a n = word_extended (a % 2 ^ 32 / 2 ^ (n % 32))

abbrev pub word_shifted_right_signed : ℕ → ℕ → ℕ
word_shifted_right_signed a n = cast_unsigned w64 (int_shr (cast_signed w32 (a % 2 ^ 32)) (n % 32))

-- ---- what the result register gets: None where there is no result

unfoldable pub value_of : Op → (imm pc a b answer : ℕ) → Option ℕ
value_of Lui imm pc a b answer = Some imm
value_of Auipc imm pc a b answer = Some (plus pc imm)
value_of Jal imm pc a b answer = Some (plus pc 4)
value_of Jalr imm pc a b answer = Some (plus pc 4)
value_of Lb imm pc a b answer = Some (byte_extended answer)
value_of Lh imm pc a b answer = Some (half_extended answer)
value_of Lw imm pc a b answer = Some (word_extended answer)
value_of Ld imm pc a b answer = Some answer
value_of Lbu imm pc a b answer = Some answer
value_of Lhu imm pc a b answer = Some answer
value_of Lwu imm pc a b answer = Some answer
value_of Addi imm pc a b answer = Some (plus a imm)
value_of Slti imm pc a b answer = Some (from_bool (is_less_signed a imm))
value_of Sltiu imm pc a b answer = Some (from_bool (is_less a imm))
value_of Xori imm pc a b answer = Some (bit_xor a imm)
value_of Ori imm pc a b answer = Some (bit_or a imm)
value_of Andi imm pc a b answer = Some (bit_and a imm)
value_of Slli imm pc a b answer = Some (shifted_left a imm)
value_of Srli imm pc a b answer = Some (shifted_right a imm)
value_of Srai imm pc a b answer = Some (shifted_right_signed a imm)
value_of Add imm pc a b answer = Some (plus a b)
value_of Sub imm pc a b answer = Some (minus a b)
value_of Sll imm pc a b answer = Some (shifted_left a b)
value_of Slt imm pc a b answer = Some (from_bool (is_less_signed a b))
value_of Sltu imm pc a b answer = Some (from_bool (is_less a b))
value_of Xor imm pc a b answer = Some (bit_xor a b)
value_of Srl imm pc a b answer = Some (shifted_right a b)
value_of Sra imm pc a b answer = Some (shifted_right_signed a b)
value_of Or imm pc a b answer = Some (bit_or a b)
value_of And imm pc a b answer = Some (bit_and a b)
value_of Addiw imm pc a b answer = Some (word_plus a imm)
value_of Slliw imm pc a b answer = Some (word_shifted_left a imm)
value_of Srliw imm pc a b answer = Some (word_shifted_right a imm)
value_of Sraiw imm pc a b answer = Some (word_shifted_right_signed a imm)
value_of Addw imm pc a b answer = Some (word_plus a b)
value_of Subw imm pc a b answer = Some (word_minus a b)
value_of Sllw imm pc a b answer = Some (word_shifted_left a b)
value_of Srlw imm pc a b answer = Some (word_shifted_right a b)
value_of Sraw imm pc a b answer = Some (word_shifted_right_signed a b)
value_of LrW imm pc a b answer = Some (word_extended answer)
value_of ScW imm pc a b answer = Some answer
value_of AmoswapW imm pc a b answer = Some (word_extended answer)
value_of AmoaddW imm pc a b answer = Some (word_extended answer)
value_of AmoxorW imm pc a b answer = Some (word_extended answer)
value_of AmoandW imm pc a b answer = Some (word_extended answer)
value_of AmoorW imm pc a b answer = Some (word_extended answer)
value_of AmominW imm pc a b answer = Some (word_extended answer)
value_of AmomaxW imm pc a b answer = Some (word_extended answer)
value_of AmominuW imm pc a b answer = Some (word_extended answer)
value_of AmomaxuW imm pc a b answer = Some (word_extended answer)
value_of LrD imm pc a b answer = Some answer
value_of ScD imm pc a b answer = Some answer
value_of AmoswapD imm pc a b answer = Some answer
value_of AmoaddD imm pc a b answer = Some answer
value_of AmoxorD imm pc a b answer = Some answer
value_of AmoandD imm pc a b answer = Some answer
value_of AmoorD imm pc a b answer = Some answer
value_of AmominD imm pc a b answer = Some answer
value_of AmomaxD imm pc a b answer = Some answer
value_of AmominuD imm pc a b answer = Some answer
value_of AmomaxuD imm pc a b answer = Some answer
value_of Beq imm pc a b answer = None
value_of Bne imm pc a b answer = None
value_of Blt imm pc a b answer = None
value_of Bge imm pc a b answer = None
value_of Bltu imm pc a b answer = None
value_of Bgeu imm pc a b answer = None
value_of Sb imm pc a b answer = None
value_of Sh imm pc a b answer = None
value_of Sw imm pc a b answer = None
value_of Sd imm pc a b answer = None
value_of Fence imm pc a b answer = None
value_of Ecall imm pc a b answer = None
value_of Ebreak imm pc a b answer = None

-- ---- the access to memory: None where there is none. Of a stored register only the low bytes count

unfoldable pub access_of : Op → (imm a b : ℕ) → Option Access
access_of Lb imm a b = Some (Load (plus a imm) 1)
access_of Lh imm a b = Some (Load (plus a imm) 2)
access_of Lw imm a b = Some (Load (plus a imm) 4)
access_of Ld imm a b = Some (Load (plus a imm) 8)
access_of Lbu imm a b = Some (Load (plus a imm) 1)
access_of Lhu imm a b = Some (Load (plus a imm) 2)
access_of Lwu imm a b = Some (Load (plus a imm) 4)
access_of Sb imm a b = Some (Store (plus a imm) 1 (low_bytes_of 1 b))
access_of Sh imm a b = Some (Store (plus a imm) 2 (low_bytes_of 2 b))
access_of Sw imm a b = Some (Store (plus a imm) 4 (low_bytes_of 4 b))
access_of Sd imm a b = Some (Store (plus a imm) 8 (low_bytes_of 8 b))
access_of LrW imm a b = Some (Reserve a 4)
access_of ScW imm a b = Some (Conditional a 4 (low_bytes_of 4 b))
access_of AmoswapW imm a b = Some (Atomic Swap a 4 (low_bytes_of 4 b))
access_of AmoaddW imm a b = Some (Atomic sum a 4 (low_bytes_of 4 b))
access_of AmoxorW imm a b = Some (Atomic either a 4 (low_bytes_of 4 b))
access_of AmoandW imm a b = Some (Atomic both a 4 (low_bytes_of 4 b))
access_of AmoorW imm a b = Some (Atomic any a 4 (low_bytes_of 4 b))
access_of AmominW imm a b = Some (Atomic Min a 4 (low_bytes_of 4 b))
access_of AmomaxW imm a b = Some (Atomic Max a 4 (low_bytes_of 4 b))
access_of AmominuW imm a b = Some (Atomic Minu a 4 (low_bytes_of 4 b))
access_of AmomaxuW imm a b = Some (Atomic Maxu a 4 (low_bytes_of 4 b))
access_of LrD imm a b = Some (Reserve a 8)
access_of ScD imm a b = Some (Conditional a 8 (low_bytes_of 8 b))
access_of AmoswapD imm a b = Some (Atomic Swap a 8 (low_bytes_of 8 b))
access_of AmoaddD imm a b = Some (Atomic sum a 8 (low_bytes_of 8 b))
access_of AmoxorD imm a b = Some (Atomic either a 8 (low_bytes_of 8 b))
access_of AmoandD imm a b = Some (Atomic both a 8 (low_bytes_of 8 b))
access_of AmoorD imm a b = Some (Atomic any a 8 (low_bytes_of 8 b))
access_of AmominD imm a b = Some (Atomic Min a 8 (low_bytes_of 8 b))
access_of AmomaxD imm a b = Some (Atomic Max a 8 (low_bytes_of 8 b))
access_of AmominuD imm a b = Some (Atomic Minu a 8 (low_bytes_of 8 b))
access_of AmomaxuD imm a b = Some (Atomic Maxu a 8 (low_bytes_of 8 b))
access_of _ imm a b = None

-- ---- the target of a jump or of a branch that is taken: None where the next instruction follows

-- where a branch goes
abbrev pub branch_to : Bool → ℕ → Option ℕ
branch_to taken target = if taken then Some target else None

unfoldable pub target_of : Op → (imm pc a b : ℕ) → Option ℕ
target_of Jal imm pc a b = Some (plus pc imm)
target_of Jalr imm pc a b = Some (plus a imm - plus a imm % 2)
target_of Beq imm pc a b = branch_to (a == b) (plus pc imm)
target_of Bne imm pc a b = branch_to (not (a == b)) (plus pc imm)
target_of Blt imm pc a b = branch_to (is_less_signed a b) (plus pc imm)
target_of Bge imm pc a b = branch_to (not (is_less_signed a b)) (plus pc imm)
target_of Bltu imm pc a b = branch_to (is_less a b) (plus pc imm)
target_of Bgeu imm pc a b = branch_to (not (is_less a b)) (plus pc imm)
target_of _ imm pc a b = None
