use Rattle.std.proofs.Common.{subst, sym, ◌∙◌, ap}
use Rattle.og_pager.specs.PageTable.{PageTable, IsPageTable, walked}
use Rattle.og_pager.proofs.Seen.{walk_laws}
use Rattle.og_mover.specs.Table.{MoverState}
use Rattle.og_mover.specs.Sound.{IsJob}
use Rattle.og_mover.proofs.Kept.{job_after_walk, walk_row_mover}
use Rattle.og_mover.proofs.Mover.walk.Goals as goal

pub invariant_of-self : goal.invariant_of-self
invariant_of-self c = record {
  pages = subst IsPageTable (sym c.walk.ensures.left) (walk_laws.sound c.self.inside.pager c.args.page c.args.sender c.self.invariant.pages);
  job = subst (λ (t : PageTable). IsJob t c.self.inside.settings c.self.inside.job) (sym c.walk.ensures.left) (job_after_walk c.self.inside.pager c.self.invariant.pages c.self.inside.settings c.args.page c.args.sender c.self.inside.job c.self.invariant.job);
}

pub returns-clause-mover : goal.returns-clause-mover
returns-clause-mover c =
    ap (λ (t : PageTable). record { pages = t; job = c.self.inside.job; settings = c.self.inside.settings }) c.walk.ensures.left ∙
    (ap (λ (m : MoverState). record m { pages = walked m.pages c.args.page c.args.sender }) c.self.view_is ∙ sym (walk_row_mover c.args.self.now c.args.sender c.args.page))
