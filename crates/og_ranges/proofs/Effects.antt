-- What an instruction computes of numbers of 64 bits is one, and so are the numbers of its access.
use Rattle.std.proofs.Common.{◌≡◌, ℕ, ◌+◌, ◌*◌, ◌/◌, ◌%◌, ◌^◌, ◌<◌, ◌≤◌, Bool, true, false, Option, Some, None, IfSome, refl, arith, lit<}
use Rattle.std.specs.Prelude.{bit_and}
use Rattle.std.specs.List.{find}
use Rattle.std.specs.Option.{option_map}
use Rattle.std.specs.Int.{w8, w16, w32, w64, cast_signed, from_bool, int_shr}
use Rattle.std.proofs.lemmas.Nat.{and_le_l, or_lt, xor_lt, shr_le}
use Rattle.og_line.specs.declared.Access.{Access}
use Rattle.og_line.specs.Access.{addr_of, width_of, operand_of}
use Rattle.og_line.specs.Line.{low_bytes_of}
use Rattle.rv_decode.specs.declared.Op.{Op}
use Rattle.rv_decode.specs.declared.Op.TheVariants.{Lui, Auipc, Jal, Jalr, Lb, Lh, Lw, Ld, Lbu, Lhu, Lwu, Addi, Slti, Sltiu, Xori, Ori, Andi, Slli, Srli, Srai, Add, Sub, Sll, Slt, Sltu, Xor, Srl, Sra, Or, And, Addiw, Slliw, Srliw, Sraiw, Addw, Subw, Sllw, Srlw, Sraw, LrW, ScW, AmoswapW, AmoaddW, AmoxorW, AmoandW, AmoorW, AmominW, AmomaxW, AmominuW, AmomaxuW, LrD, ScD, AmoswapD, AmoaddD, AmoxorD, AmoandD, AmoorD, AmominD, AmomaxD, AmominuD, AmomaxuD, Beq, Bne, Blt, Bge, Bltu, Bgeu, Sb, Sh, Sw, Sd}
use Rattle.rv_decode.specs.declared.Format.{Format}
use Rattle.rv_decode.specs.declared.Format.TheVariants as format
use Rattle.rv_decode.specs.declared.Row.{Row}
use Rattle.rv_decode.specs.Fields.{bits_of}
use Rattle.rv_decode.specs.Rows.{decode_of, operands_of, read_by, rows, fits}
use Rattle.rv_hart.specs.Effect.{plus, shifted_right_signed, byte_extended, half_extended, word_extended, word_shifted_right_signed, value_of, access_of, target_of, branch_to}
use Rattle.og_trace.specs.Grammar.{is_width}
use Rattle.og_ranges.proofs.Integers.{IsMild, mild_fits, extended_mild, signed_mild, shifted_mild}

-- ---- the immediate

operands_mild : (f : Format) (op : Op) (word : ℕ) → IsMild (operands_of f op word).imm
operands_mild format.Register op word = lit< tt
operands_mild format.Immediate op word = extended_mild 12 (bits_of word 20 12) (omega arith)
operands_mild format.Shift op word = omega arith
operands_mild format.ShiftWord op word = omega arith
operands_mild format.Store op word = extended_mild 12 (bits_of word 25 7 * 2 ^ 5 + bits_of word 7 5) (omega arith)
operands_mild format.Branch op word = extended_mild 13 (bits_of word 31 1 * 2 ^ 12 + bits_of word 7 1 * 2 ^ 11 + bits_of word 25 6 * 2 ^ 5 + bits_of word 8 4 * 2) (omega arith)
operands_mild format.Upper op word = extended_mild 32 (bits_of word 12 20 * 2 ^ 12) (omega arith)
operands_mild format.Jump op word = extended_mild 21 (bits_of word 31 1 * 2 ^ 20 + bits_of word 12 8 * 2 ^ 12 + bits_of word 20 1 * 2 ^ 11 + bits_of word 21 10 * 2) (omega arith)
operands_mild format.Whole op word = lit< tt
operands_mild format.Reserve op word = lit< tt
operands_mild format.Atomic op word = lit< tt

pub decoded_mild : (word : ℕ) → IfSome (decode_of word) (λ i. IsMild i.imm)
unfolding decode_of
decoded_mild word = by (find (fits word) rows)
  where
    by : (o : Option Row) → IfSome (option_map (read_by word) o) (λ i. IsMild i.imm)
    by None = tt
    by (Some r) = operands_mild r.format r.name word

-- ---- results

from_test : (t : Bool) → from_bool t < 2 ^ 64
from_test true = lit< tt
from_test false = lit< tt

and_fits : (a b : ℕ) → a < 2 ^ 64 → bit_and a b < 2 ^ 64
and_fits a b low = let less : bit_and a b ≤ a = and_le_l a b in omega arith

right_fits : (a k : ℕ) → a < 2 ^ 64 → a / 2 ^ k < 2 ^ 64
right_fits a k low = let less : a / 2 ^ k ≤ a = shr_le a k in omega arith

right_signed_fits : (a n : ℕ) → a < 2 ^ 64 → shifted_right_signed a n < 2 ^ 64
right_signed_fits a n low = mild_fits (int_shr (cast_signed w64 a) (n % 64)) (shifted_mild (cast_signed w64 a) (n % 64) (signed_mild w64 a low))

byte_fits : (x : ℕ) → byte_extended x < 2 ^ 64
byte_fits x = mild_fits (cast_signed w8 (x % 2 ^ 8)) (signed_mild w8 (x % 2 ^ 8) (omega arith))

half_fits : (x : ℕ) → half_extended x < 2 ^ 64
half_fits x = mild_fits (cast_signed w16 (x % 2 ^ 16)) (signed_mild w16 (x % 2 ^ 16) (omega arith))

word_fits : (x : ℕ) → word_extended x < 2 ^ 64
word_fits x = mild_fits (cast_signed w32 (x % 2 ^ 32)) (signed_mild w32 (x % 2 ^ 32) (omega arith))

word_right_signed_fits : (a n : ℕ) → word_shifted_right_signed a n < 2 ^ 64
word_right_signed_fits a n = mild_fits (int_shr (cast_signed w32 (a % 2 ^ 32)) (n % 32)) (shifted_mild (cast_signed w32 (a % 2 ^ 32)) (n % 32) (signed_mild w32 (a % 2 ^ 32) (omega arith)))

sum_fits : (a b : ℕ) → plus a b < 2 ^ 64
sum_fits a b = omega arith

pub value_fits : (op : Op) (imm pc a b answer : ℕ) → imm < 2 ^ 64 → a < 2 ^ 64 → b < 2 ^ 64 → answer < 2 ^ 64 → IfSome (value_of op imm pc a b answer) (λ v. v < 2 ^ 64)
unfolding value_of
value_fits Lui imm pc a b answer i x y r = i
value_fits Auipc imm pc a b answer i x y r = sum_fits pc imm
value_fits Jal imm pc a b answer i x y r = sum_fits pc 4
value_fits Jalr imm pc a b answer i x y r = sum_fits pc 4
value_fits Lb imm pc a b answer i x y r = byte_fits answer
value_fits Lh imm pc a b answer i x y r = half_fits answer
value_fits Lw imm pc a b answer i x y r = word_fits answer
value_fits Ld imm pc a b answer i x y r = r
value_fits Lbu imm pc a b answer i x y r = r
value_fits Lhu imm pc a b answer i x y r = r
value_fits Lwu imm pc a b answer i x y r = r
value_fits Addi imm pc a b answer i x y r = sum_fits a imm
value_fits Slti imm pc a b answer i x y r = from_test _
value_fits Sltiu imm pc a b answer i x y r = from_test _
value_fits Xori imm pc a b answer i x y r = xor_lt 64 a imm x i
value_fits Ori imm pc a b answer i x y r = or_lt 64 a imm x i
value_fits Andi imm pc a b answer i x y r = and_fits a imm x
value_fits Slli imm pc a b answer i x y r = omega arith
value_fits Srli imm pc a b answer i x y r = right_fits a (imm % 64) x
value_fits Srai imm pc a b answer i x y r = right_signed_fits a imm x
value_fits Add imm pc a b answer i x y r = sum_fits a b
value_fits Sub imm pc a b answer i x y r = omega arith
value_fits Sll imm pc a b answer i x y r = omega arith
value_fits Slt imm pc a b answer i x y r = from_test _
value_fits Sltu imm pc a b answer i x y r = from_test _
value_fits Xor imm pc a b answer i x y r = xor_lt 64 a b x y
value_fits Srl imm pc a b answer i x y r = right_fits a (b % 64) x
value_fits Sra imm pc a b answer i x y r = right_signed_fits a b x
value_fits Or imm pc a b answer i x y r = or_lt 64 a b x y
value_fits And imm pc a b answer i x y r = and_fits a b x
value_fits Addiw imm pc a b answer i x y r = word_fits _
value_fits Slliw imm pc a b answer i x y r = word_fits _
value_fits Srliw imm pc a b answer i x y r = word_fits _
value_fits Sraiw imm pc a b answer i x y r = word_right_signed_fits a imm
value_fits Addw imm pc a b answer i x y r = word_fits _
value_fits Subw imm pc a b answer i x y r = word_fits _
value_fits Sllw imm pc a b answer i x y r = word_fits _
value_fits Srlw imm pc a b answer i x y r = word_fits _
value_fits Sraw imm pc a b answer i x y r = word_right_signed_fits a b
value_fits LrW imm pc a b answer i x y r = word_fits answer
value_fits ScW imm pc a b answer i x y r = r
value_fits AmoswapW imm pc a b answer i x y r = word_fits answer
value_fits AmoaddW imm pc a b answer i x y r = word_fits answer
value_fits AmoxorW imm pc a b answer i x y r = word_fits answer
value_fits AmoandW imm pc a b answer i x y r = word_fits answer
value_fits AmoorW imm pc a b answer i x y r = word_fits answer
value_fits AmominW imm pc a b answer i x y r = word_fits answer
value_fits AmomaxW imm pc a b answer i x y r = word_fits answer
value_fits AmominuW imm pc a b answer i x y r = word_fits answer
value_fits AmomaxuW imm pc a b answer i x y r = word_fits answer
value_fits LrD imm pc a b answer i x y r = r
value_fits ScD imm pc a b answer i x y r = r
value_fits AmoswapD imm pc a b answer i x y r = r
value_fits AmoaddD imm pc a b answer i x y r = r
value_fits AmoxorD imm pc a b answer i x y r = r
value_fits AmoandD imm pc a b answer i x y r = r
value_fits AmoorD imm pc a b answer i x y r = r
value_fits AmominD imm pc a b answer i x y r = r
value_fits AmomaxD imm pc a b answer i x y r = r
value_fits AmominuD imm pc a b answer i x y r = r
value_fits AmomaxuD imm pc a b answer i x y r = r
value_fits _ imm pc a b answer i x y r = tt

-- ---- targets

branch_fits : (t : Bool) (target : ℕ) → target < 2 ^ 64 → IfSome (branch_to t target) (λ v. v < 2 ^ 64)
branch_fits true target low = low
branch_fits false target low = tt

pub target_fits : (op : Op) (imm pc a b : ℕ) → IfSome (target_of op imm pc a b) (λ v. v < 2 ^ 64)
unfolding target_of
target_fits Jal imm pc a b = sum_fits pc imm
target_fits Jalr imm pc a b = let low : plus a imm < 2 ^ 64 = sum_fits a imm in omega arith
target_fits Beq imm pc a b = branch_fits _ (plus pc imm) (sum_fits pc imm)
target_fits Bne imm pc a b = branch_fits _ (plus pc imm) (sum_fits pc imm)
target_fits Blt imm pc a b = branch_fits _ (plus pc imm) (sum_fits pc imm)
target_fits Bge imm pc a b = branch_fits _ (plus pc imm) (sum_fits pc imm)
target_fits Bltu imm pc a b = branch_fits _ (plus pc imm) (sum_fits pc imm)
target_fits Bgeu imm pc a b = branch_fits _ (plus pc imm) (sum_fits pc imm)
target_fits _ imm pc a b = tt

-- ---- accesses

-- an address, an operand, and one of the widths
pub record Fits (x : Access) : Type 0 where
  pub addr : addr_of x < 2 ^ 64
  pub width : is_width (width_of x) ≡ true
  pub operand : operand_of x < 2 ^ 64

low_1 : (b : ℕ) → low_bytes_of 1 b < 2 ^ 64
low_1 b = omega arith

low_2 : (b : ℕ) → low_bytes_of 2 b < 2 ^ 64
low_2 b = omega arith

low_4 : (b : ℕ) → low_bytes_of 4 b < 2 ^ 64
low_4 b = omega arith

low_8 : (b : ℕ) → low_bytes_of 8 b < 2 ^ 64
low_8 b = omega arith

pub access_fits : (op : Op) (imm a b : ℕ) → a < 2 ^ 64 → IfSome (access_of op imm a b) Fits
unfolding access_of
access_fits Lb imm a b x = record { addr = sum_fits a imm; width = refl; operand = lit< tt }
access_fits Lh imm a b x = record { addr = sum_fits a imm; width = refl; operand = lit< tt }
access_fits Lw imm a b x = record { addr = sum_fits a imm; width = refl; operand = lit< tt }
access_fits Ld imm a b x = record { addr = sum_fits a imm; width = refl; operand = lit< tt }
access_fits Lbu imm a b x = record { addr = sum_fits a imm; width = refl; operand = lit< tt }
access_fits Lhu imm a b x = record { addr = sum_fits a imm; width = refl; operand = lit< tt }
access_fits Lwu imm a b x = record { addr = sum_fits a imm; width = refl; operand = lit< tt }
access_fits Sb imm a b x = record { addr = sum_fits a imm; width = refl; operand = low_1 b }
access_fits Sh imm a b x = record { addr = sum_fits a imm; width = refl; operand = low_2 b }
access_fits Sw imm a b x = record { addr = sum_fits a imm; width = refl; operand = low_4 b }
access_fits Sd imm a b x = record { addr = sum_fits a imm; width = refl; operand = low_8 b }
access_fits LrW imm a b x = record { addr = x; width = refl; operand = lit< tt }
access_fits ScW imm a b x = record { addr = x; width = refl; operand = low_4 b }
access_fits AmoswapW imm a b x = record { addr = x; width = refl; operand = low_4 b }
access_fits AmoaddW imm a b x = record { addr = x; width = refl; operand = low_4 b }
access_fits AmoxorW imm a b x = record { addr = x; width = refl; operand = low_4 b }
access_fits AmoandW imm a b x = record { addr = x; width = refl; operand = low_4 b }
access_fits AmoorW imm a b x = record { addr = x; width = refl; operand = low_4 b }
access_fits AmominW imm a b x = record { addr = x; width = refl; operand = low_4 b }
access_fits AmomaxW imm a b x = record { addr = x; width = refl; operand = low_4 b }
access_fits AmominuW imm a b x = record { addr = x; width = refl; operand = low_4 b }
access_fits AmomaxuW imm a b x = record { addr = x; width = refl; operand = low_4 b }
access_fits LrD imm a b x = record { addr = x; width = refl; operand = lit< tt }
access_fits ScD imm a b x = record { addr = x; width = refl; operand = low_8 b }
access_fits AmoswapD imm a b x = record { addr = x; width = refl; operand = low_8 b }
access_fits AmoaddD imm a b x = record { addr = x; width = refl; operand = low_8 b }
access_fits AmoxorD imm a b x = record { addr = x; width = refl; operand = low_8 b }
access_fits AmoandD imm a b x = record { addr = x; width = refl; operand = low_8 b }
access_fits AmoorD imm a b x = record { addr = x; width = refl; operand = low_8 b }
access_fits AmominD imm a b x = record { addr = x; width = refl; operand = low_8 b }
access_fits AmomaxD imm a b x = record { addr = x; width = refl; operand = low_8 b }
access_fits AmominuD imm a b x = record { addr = x; width = refl; operand = low_8 b }
access_fits AmomaxuD imm a b x = record { addr = x; width = refl; operand = low_8 b }
access_fits _ imm a b x = tt
