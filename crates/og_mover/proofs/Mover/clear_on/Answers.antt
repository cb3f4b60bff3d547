use Rattle.std.proofs.Common.{subst, sym}
use Rattle.og_mover.specs.Table.{MoverState}
use Rattle.og_mover.specs.Sound.{IsCleared, IsClearing}
use Rattle.og_mover.proofs.Mover.clear_on.Goals as goal

pub invariant_of-self : goal.invariant_of-self
invariant_of-self c = record {
  pages = c.self.invariant.pages;
  job = (subst (λ (m : MoverState). IsCleared m.pages c.args.frame) (sym c.self.view_is) c.requires.frame, subst (λ (m : MoverState). IsClearing m.pages c.args.frame c.args.step) (sym c.self.view_is) c.requires.step);
}
