use Rattle.std.proofs.Math.Path.{◌∙◌}
use Rattle.std.proofs.Common.{ap, w64, to_z, of_z, ◌≡◌}
use Rattle.std.proofs.lemmas.Int.{to_z-of_z}
use Rattle.rv_asm.specs.Meaning.{within}
use Rattle.rv_asm.proofs.Ranges.{near_within}
use Rattle.rv_asm.proofs.meaning.to_place.Goals as goal

pub returns-clause-value : goal.returns-clause-value
returns-clause-value c =
    let read : to_z w64 (of_z w64 c.distance.result) ≡ c.distance.result = to_z-of_z w64 c.distance.result (record { sfits = c.distance.type_inv }) in
    c.within.ensures.value ∙ (ap (within c.args.form) read ∙ near_within c.args.form c.distance.result _ c.distance.ensures)
