use Rattle.std.proofs.Common.{subst, sym}
use Rattle.og_mover.specs.Table.{MoverState}
use Rattle.og_mover.specs.Sound.{IsRoute}
use Rattle.og_mover.proofs.Mover.go_on.Goals as goal

pub invariant_of-self : goal.invariant_of-self
invariant_of-self c = record {
  pages = c.self.invariant.pages;
  job = (subst (λ (m : MoverState). IsRoute m.pages m.settings c.args.route) (sym c.self.view_is) c.requires.route, c.requires.phase);
}
