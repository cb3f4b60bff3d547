use Rattle.std.proofs.Common.{◌≡◌, None, subst, sym, ◌∙◌}
use Rattle.og_pager.specs.PageTable.{PageTable, IsPageTable, move_of}
use Rattle.og_pager.proofs.Seen.{reclaim_laws}
use Rattle.og_mover.specs.Table.{MoverState}
use Rattle.og_mover.specs.Sound.{IsCleared}
use Rattle.og_mover.proofs.Mover.free_frame.Goals as goal

pub invariant_of-self : goal.invariant_of-self
invariant_of-self c =
    let cleared : IsCleared c.self.inside.pager c.args.frame = subst (λ (m : MoverState). IsCleared m.pages c.args.frame) (sym c.self.view_is) c.requires.frame in
    record {
      pages = subst IsPageTable (sym c.reclaim.ensures) (reclaim_laws.sound c.self.inside.pager c.args.frame c.self.invariant.pages cleared.1 cleared.2);
      job = subst (λ (t : PageTable). move_of t ≡ None) (sym c.reclaim.ensures) (reclaim_laws.move c.self.inside.pager c.args.frame ∙ cleared.0);
    }
