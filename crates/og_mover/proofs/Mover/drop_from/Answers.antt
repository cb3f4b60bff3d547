use Rattle.std.proofs.Common.{◌≡◌, subst, sym, ◌∙◌, ap}
use Rattle.og_pager.specs.PageTable.{PageTable, IsPageTable}
use Rattle.og_pager.proofs.Seen.{drop_laws}
use Rattle.og_mover.specs.declared.Job.{Job}
use Rattle.og_mover.specs.declared.Job.TheVariants.{Reclaim}
use Rattle.og_mover.specs.declared.Clearing.TheVariants.{Gather}
use Rattle.og_mover.specs.Table.{MoverState}
use Rattle.og_mover.specs.Sound.{IsJob, IsCleared}
use Rattle.og_mover.proofs.Kept.{cleared_after_drop}
use Rattle.og_mover.proofs.Mover.drop_from.Goals as goal

pub invariant_of-self : goal.invariant_of-self
invariant_of-self c =
    let job : c.self.inside.job ≡ Reclaim c.args.frame Gather = ap (λ (m : MoverState). m.job) c.self.view_is ∙ c.requires.job in
    record {
      pages = subst IsPageTable (sym c.dropped.ensures) (drop_laws.sound c.self.inside.pager c.args.frame c.args.sender c.self.invariant.pages);
      job = subst (λ (j : Job). IsJob c.dropped.new.self c.self.inside.settings j) (sym job)
          (subst (λ (t : PageTable). IsCleared t c.args.frame) (sym c.dropped.ensures) (cleared_after_drop c.self.inside.pager c.self.invariant.pages c.args.frame c.args.sender (subst (λ (m : MoverState). IsCleared m.pages c.args.frame) (sym c.self.view_is) c.requires.frame)), tt);
    }

pub returns-clause-frame : goal.returns-clause-frame
returns-clause-frame c =
    subst (λ (t : PageTable). IsCleared t c.args.frame) (sym c.dropped.ensures) (cleared_after_drop c.self.inside.pager c.self.invariant.pages c.args.frame c.args.sender (subst (λ (m : MoverState). IsCleared m.pages c.args.frame) (sym c.self.view_is) c.requires.frame))
