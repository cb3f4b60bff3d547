use Rattle.std.proofs.Common.{subst, arith}
use Rattle.std.proofs.lemmas.Grind.{common_steps}
use Rattle.og_tlb.proofs.Fills.{same_tlb, kept-without_frame}
use Rattle.og_tlb.specs.Tlb.{IsTlb, without_frame}
use Rattle.og_tlb.proofs.Tlb.drop_frame.Goals as goal

pub invariant_of-self : goal.invariant_of-self
unfolding without_frame
invariant_of-self c =
    same_tlb _ (without_frame c.args.self.now c.args.frame) (grind (arith, common_steps)) (kept-without_frame c.args.self.now (subst IsTlb c.self.view_is c.self.invariant) c.args.frame)
