use Rattle.std.proofs.Math.Path.{◌∙◌}
use Rattle.std.proofs.Common.{ap, w64, to_z, of_z, ◌≡◌}
use Rattle.std.proofs.lemmas.Int.{to_z-of_z}
use Rattle.rv_asm.specs.Meaning.{within}
use Rattle.rv_asm.proofs.Ranges.{near_within}
use Rattle.rv_asm.proofs.meaning.written.Goals as goal

pub returns-clause-value : goal.returns-clause-value
returns-clause-value c =
    let read : to_z w64 (of_z w64 c.number_of.result) ≡ c.number_of.result = to_z-of_z w64 c.number_of.result (record { sfits = c.number_of.type_inv }) in
    c.within.ensures.value ∙ (ap (within c.args.form) read ∙ near_within c.args.form c.number_of.result _ c.number_of.ensures)
