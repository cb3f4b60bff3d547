use Rattle.std.proofs.Common.{subst, arith}
use Rattle.std.proofs.lemmas.Grind.{common_steps}
use Rattle.og_tlb.proofs.Fills.{same_tlb, kept-filled}
use Rattle.og_tlb.specs.Tlb.{IsTlb, filled}
use Rattle.og_tlb.proofs.Tlb.fill.Goals as goal

pub invariant_of-self : goal.invariant_of-self
unfolding filled
invariant_of-self c =
    same_tlb _ (filled c.args.self.now c.args.page c.args.frame) (grind (arith, common_steps)) (kept-filled c.args.self.now (subst IsTlb c.self.view_is c.self.invariant) c.args.page c.args.frame)
