-- The operands of an instruction stand after a blank, where there are some.
use Rattle.std.proofs.Common.{◌≡◌, ◌++◌, refl}
use Rattle.rv_decode.specs.declared.Instr.{Instr}
use Rattle.rv_asm.specs.declared.form.Form.{Form}
use Rattle.rv_asm.specs.declared.form.Form.TheVariants.{Upper}
use Rattle.rv_asm.specs.Printed.{operands, tokens_text, spaced, blank_before}

pub spaced_is : (form : Form) (i : Instr) → spaced (operands form i) ≡ blank_before form ++ tokens_text (operands form i)
spaced_is Upper i = refl
spaced_is _ i = refl
