use Rattle.std.proofs.Common.{◌≡◌, subst, arith}
use Rattle.std.proofs.lemmas.Grind.{common_steps}
use Rattle.og_base.specs.declared.Frame.{Frame}
use Rattle.og_pager.specs.PageTable.{IsPageTable, IsFrame, frame_in}
use Rattle.og_pager.proofs.Pager.frame_at.Goals as goal

pub returns-clause-inside : goal.returns-clause-inside
returns-clause-inside c =
    let same : frame_in c.args.self.now c.args.number ≡ c.index.result.now = grind (arith, common_steps) in
    subst (λ (f : Frame). IsFrame c.args.self.now f) same ((subst IsPageTable c.self.view_is c.self.invariant).roled.framed c.args.number c.requires).0
