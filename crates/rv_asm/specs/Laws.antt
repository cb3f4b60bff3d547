-- What holds between the assembler and the printer.
use Rattle.std.specs.Prelude.{◌≡◌, ℕ, ◌^◌, ◌<◌, ◌≤◌, ℤ, Bool, true, false, List, length, Ok, Some}
use Rattle.std.specs.List.{AllByRecursion}
use Rattle.rv_decode.specs.declared.Op.{Op}
use Rattle.rv_decode.specs.Rows.{decode_of}
use Rattle.rv_asm.specs.declared.form.Form.{Form}
use Rattle.rv_asm.specs.declared.form.Form.TheVariants.{Upper, Jump, Branch, Store, Register, Bare, Atomic, Data}
use Rattle.rv_asm.specs.declared.names.Ordering.{Ordering}
use Rattle.rv_asm.specs.declared.names.Mnemonic.TheVariants.{Named}
use Rattle.rv_asm.specs.declared.meaning.Registers.{Registers}
use Rattle.rv_asm.specs.Names.{form_of, has_ordering}
use Rattle.rv_asm.specs.Meaning.{is_in_range, immediate_of, instr_of, word_by}
use Rattle.rv_asm.specs.Source.{assembled}
use Rattle.rv_asm.specs.Printed.{printed}

-- a list of words that has room
pub record IsProgram (words : List ℕ) : Type 0 where
  pub some : 1 ≤ length words
  pub room : length words ≤ 245760
  pub small : AllByRecursion (λ w. w < 2 ^ 32) words

-- the text of words assembles to the same words
abbrev pub PrintedAssembles : Type 0
PrintedAssembles = (words : List ℕ) → IsProgram words → assembled (printed words) ≡ Ok words

-- ------------------------------------------------------------------------------ decoding

abbrev pub has_rd : Form → Bool
has_rd Branch = false
has_rd Store = false
has_rd Bare = false
has_rd Data = false
has_rd _ = true

abbrev pub has_rs1 : Form → Bool
has_rs1 Upper = false
has_rs1 Jump = false
has_rs1 Bare = false
has_rs1 Data = false
has_rs1 _ = true

abbrev pub has_rs2 : Form → Bool
has_rs2 Branch = true
has_rs2 Store = true
has_rs2 Register = true
has_rs2 Atomic = true
has_rs2 _ = false

-- registers of an instruction: those that its form has are below 32, and the others are 0
abbrev pub IsRegister : Bool → ℕ → Type 0
IsRegister true r = r < 32
IsRegister false r = r ≡ 0

-- what an instruction of a source may have beside its name
pub record AreOperands (form : Form) (ordering : Ordering) (rs : Registers) (n : ℤ) : Type 0 where
  pub rd : IsRegister (has_rd form) rs.rd
  pub rs1 : IsRegister (has_rs1 form) rs.rs1
  pub rs2 : IsRegister (has_rs2 form) rs.rs2
  pub ordered : has_ordering form ≡ false → (ordering.aq ≡ false) × (ordering.rl ≡ false)
  pub in_range : is_in_range form n ≡ true

-- the word of an instruction decodes to that instruction
abbrev pub WordsDecode : Type 0
WordsDecode = (op : Op) (ordering : Ordering) (rs : Registers) (n : ℤ) → AreOperands (form_of op) ordering rs n →
    decode_of (word_by (Named op ordering) rs n) ≡ Some (instr_of op ordering rs (immediate_of (form_of op) n))
