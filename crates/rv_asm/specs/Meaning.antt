-- What an instruction of a source is: the instruction that its mnemonic names, its registers, and its number, which the
-- row of its mnemonic bounds.
use Rattle.std.specs.Prelude.{ℕ, ◌*◌, ◌%◌, ◌^◌, ◌==◌, ◌&&◌, Bool, true, false, cond, List, ℤ, pos, negsuc, ◌-ℤ◌, int_le, Option, None, Some, Result, Ok, Err}
use Rattle.std.specs.Int.{w64, cast_unsigned}
use Rattle.rv_decode.specs.declared.Op.{Op}
use Rattle.rv_decode.specs.declared.Instr.{Instr}
use Rattle.rv_decode.specs.Fields.{sign_extended}
use Rattle.rv_decode.specs.Words.{encode_of}
use Rattle.rv_asm.specs.declared.form.Form.{Form}
use Rattle.rv_asm.specs.declared.form.Form.TheVariants.{Upper, Jump, Branch, Offset, Store, Immediate, Shift, ShiftWord, Register, Fence, Bare, Reserve, Atomic, Data}
use Rattle.rv_asm.specs.declared.line.Shape.{Shape}
use Rattle.rv_asm.specs.declared.line.Shape.TheVariants.{Nothing, Number, NameNumber, NameName, NameNameNumber, NameNameName, NameOffset, NameAddress, NameNameAddress}
use Rattle.rv_asm.specs.declared.names.Ordering.{Ordering}
use Rattle.rv_asm.specs.declared.names.Mnemonic.{Mnemonic}
use Rattle.rv_asm.specs.declared.names.Mnemonic.TheVariants.{Word, Named}
use Rattle.rv_asm.specs.declared.meaning.Registers.{Registers}
use Rattle.rv_asm.specs.declared.source.SourceCause.{SourceCause}
use Rattle.rv_asm.specs.declared.source.SourceCause.TheVariants as cause
use Rattle.rv_asm.specs.declared.labels.Place.{Place}
use Rattle.rv_asm.specs.Names.{form_of, form_for, mnemonic_in}
use Rattle.rv_asm.specs.Registers.{register_in}
use Rattle.rv_asm.specs.Syntax.{Parts, value_of}

-- ------------------------------------------------------------------------------ operands

-- the operands that a form takes; a target is a number or a label
abbrev pub takes : Form → Shape → Bool
takes Upper NameNumber = true
takes Jump NameNumber = true
takes Jump NameName = true
takes Branch NameNameNumber = true
takes Branch NameNameName = true
takes Offset NameOffset = true
takes Store NameOffset = true
takes Immediate NameNameNumber = true
takes Shift NameNameNumber = true
takes ShiftWord NameNameNumber = true
takes Register NameNameName = true
takes Fence NameNameNumber = true
takes Bare Nothing = true
takes Reserve NameAddress = true
takes Atomic NameNameAddress = true
takes Data Number = true
takes _ _ = false

abbrev pub registers : ℕ → ℕ → ℕ → Registers
registers rd rs1 rs2 = record { rd = rd; rs1 = rs1; rs2 = rs2 }

-- rd, rs1 and rs2, where each of them is a register
abbrev pub all_registers : Option ℕ → Option ℕ → Option ℕ → Option Registers
all_registers (Some rd) (Some rs1) (Some rs2) = Some (registers rd rs1 rs2)
all_registers _ _ _ = None

-- which operand is which register
abbrev pub registers_in : Form → Parts → Option Registers
registers_in Upper p = all_registers (register_in p.first) (Some 0) (Some 0)
registers_in Jump p = all_registers (register_in p.first) (Some 0) (Some 0)
registers_in Branch p = all_registers (Some 0) (register_in p.first) (register_in p.second)
registers_in Offset p = all_registers (register_in p.first) (register_in p.third) (Some 0)
registers_in Store p = all_registers (Some 0) (register_in p.third) (register_in p.first)
registers_in Immediate p = all_registers (register_in p.first) (register_in p.second) (Some 0)
registers_in Shift p = all_registers (register_in p.first) (register_in p.second) (Some 0)
registers_in ShiftWord p = all_registers (register_in p.first) (register_in p.second) (Some 0)
registers_in Register p = all_registers (register_in p.first) (register_in p.second) (register_in p.third)
registers_in Fence p = all_registers (register_in p.first) (register_in p.second) (Some 0)
registers_in Bare p = all_registers (Some 0) (Some 0) (Some 0)
registers_in Reserve p = all_registers (register_in p.first) (register_in p.second) (Some 0)
registers_in Atomic p = all_registers (register_in p.first) (register_in p.third) (register_in p.second)
registers_in Data p = all_registers (Some 0) (Some 0) (Some 0)

-- a number, as a word or by a label; or none
pub data Value : Type 0 where
  NoNumber : Value
  Written : List ℕ → Value
  Target : List ℕ → Value

-- a target, by what stands there
abbrev pub target : Shape → List ℕ → Value
target NameName w = Target w
target NameNameName w = Target w
target _ w = Written w

-- which operand is the number
abbrev pub value_in : Form → Parts → Value
value_in Upper p = Written p.second
value_in Jump p = target p.shape p.second
value_in Branch p = target p.shape p.third
value_in Offset p = Written p.second
value_in Store p = Written p.second
value_in Immediate p = Written p.third
value_in Shift p = Written p.third
value_in ShiftWord p = Written p.third
value_in Register p = NoNumber
value_in Fence p = Written p.third
value_in Bare p = NoNumber
value_in Reserve p = NoNumber
value_in Atomic p = NoNumber
value_in Data p = Written p.first

-- an instruction whose number isn't known yet
pub record Draft : Type 0 where
  pub mnemonic : Mnemonic
  pub registers : Registers
  pub value : Value

abbrev pub draft : Mnemonic → Value → Registers → Draft
draft m v rs = record { mnemonic = m; registers = rs; value = v }

abbrev pub with_registers : Mnemonic → Value → Option Registers → Result Draft SourceCause
with_registers m v None = Err cause.Register
with_registers m v (Some rs) = Ok (draft m v rs)

abbrev pub with_mnemonic : Parts → Option Mnemonic → Result Draft SourceCause
with_mnemonic p None = Err cause.Name
with_mnemonic p (Some m) =
    cond (takes (form_for m) p.shape) (with_registers m (value_in (form_for m) p) (registers_in (form_for m) p)) (Err cause.Operands)

-- the draft of an instruction; or, of `Name`, `Operands` and `Register`, the first that applies
unfoldable pub draft_of : Parts → Result Draft SourceCause
draft_of p = with_mnemonic p (mnemonic_in p.mnemonic)

-- ------------------------------------------------------------------------------ numbers

-- the least number of a form
abbrev pub lowest : Form → ℤ
lowest Upper = pos 0
lowest Jump = negsuc 1048575
lowest Branch = negsuc 4095
lowest Offset = negsuc 2047
lowest Store = negsuc 2047
lowest Immediate = negsuc 2047
lowest Shift = pos 0
lowest ShiftWord = pos 0
lowest Register = pos 0
lowest Fence = pos 0
lowest Bare = pos 0
lowest Reserve = pos 0
lowest Atomic = pos 0
lowest Data = pos 0

-- the greatest number of a form
abbrev pub highest : Form → ℤ
highest Upper = pos 1048575
highest Jump = pos 1048574
highest Branch = pos 4094
highest Offset = pos 2047
highest Store = pos 2047
highest Immediate = pos 2047
highest Shift = pos 63
highest ShiftWord = pos 31
highest Register = pos 0
highest Fence = pos 4095
highest Bare = pos 0
highest Reserve = pos 0
highest Atomic = pos 0
highest Data = pos 4294967295

abbrev pub is_even : ℤ → Bool
is_even (pos n) = n % 2 == 0
is_even (negsuc n) = n % 2 == 1

-- the distance of a jump or a branch is even
abbrev pub is_stepped : Form → ℤ → Bool
is_stepped Jump n = is_even n
is_stepped Branch n = is_even n
is_stepped _ n = true

-- whether a number is in the range of its row
unfoldable pub is_in_range : Form → ℤ → Bool
is_in_range form n = int_le (lowest form) n && (int_le n (highest form) && is_stepped form n)

-- the immediate that a number stands for: the upper 20 bits of a word, bits 20 to 31, or the number
abbrev pub immediate_of : Form → ℤ → ℤ
immediate_of Upper n = sign_extended 32 (cast_unsigned w64 n * 2 ^ 12)
immediate_of Fence n = sign_extended 12 (cast_unsigned w64 n)
immediate_of _ n = n

abbrev pub instr_of : Op → Ordering → Registers → ℤ → Instr
instr_of op ordering rs imm = record { op = op; rd = rs.rd; rs1 = rs.rs1; rs2 = rs.rs2; imm = imm; aq = ordering.aq; rl = ordering.rl }

-- the word of a mnemonic, its registers and its number
abbrev pub word_by : Mnemonic → Registers → ℤ → ℕ
word_by Word rs n = cast_unsigned w64 n
word_by (Named op ordering) rs n = encode_of (instr_of op ordering rs (immediate_of (form_of op) n))

-- ------------------------------------------------------------------------------ labels

-- the bytes from the instruction at an index to a place
abbrev pub distance : ℕ → ℕ → ℤ
distance index place = pos (4 * place) -ℤ pos (4 * index)

-- a number in the range of a form
abbrev pub within : Form → ℤ → Result ℤ SourceCause
within form n = cond (is_in_range form n) (Ok n) (Err cause.Range)

abbrev pub to_place : Form → ℕ → Option Place → Result ℤ SourceCause
to_place form index None = Err cause.Label
to_place form index (Some place) = within form (distance index place.index)

-- the number of the instruction at an index, where labels have these places; or `Label` or `Range`
abbrev pub number_in : (List ℕ → Option Place) → Form → ℕ → Value → Result ℤ SourceCause
number_in places form index NoNumber = within form (pos 0)
number_in places form index (Written w) = within form (value_of w)
number_in places form index (Target name) = to_place form index (places name)

abbrev pub worded : Draft → Result ℤ SourceCause → Result ℕ SourceCause
worded d (Err c) = Err c
worded d (Ok n) = Ok (word_by d.mnemonic d.registers n)

-- the word of the instruction at an index; or `Label` or `Range`
unfoldable pub word_in : (List ℕ → Option Place) → ℕ → Draft → Result ℕ SourceCause
word_in places index d = worded d (number_in places (form_for d.mnemonic) index d.value)
