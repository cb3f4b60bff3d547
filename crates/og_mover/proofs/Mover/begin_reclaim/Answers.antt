use Rattle.std.proofs.Common.{◌≡◌, Some, subst, sym, ◌∙◌, ap}
use Rattle.og_pager.specs.PageTable.{oldest}
use Rattle.og_pager.proofs.Seen.{found_laws}
use Rattle.og_mover.specs.Table.{MoverState}
use Rattle.og_mover.specs.Sound.{IsMover}
use Rattle.og_mover.proofs.Mover.begin_reclaim.Goals as goal

pub clear_on-requires-clause-frame : goal.clear_on-requires-clause-frame
clear_on-requires-clause-frame c =
    let e : oldest c.args.self.now.pages c.args.node ≡ Some c.in-Some.frame = ap (λ (m : MoverState). oldest m.pages c.args.node) (sym c.self.view_is) ∙ sym c.in-Some.ensures in
    let found = found_laws.oldest c.args.self.now.pages c.args.node c.in-Some.frame (subst IsMover c.self.view_is c.self.invariant).pages c.requires.node e in
    (c.requires.idle, found.0, found.1)
