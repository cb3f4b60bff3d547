use Rattle.std.proofs.Common.{◌≡◌, None, refl, subst, sym}
use Rattle.std.specs.Prelude.{IsSome}
use Rattle.og_pager.specs.PageTable.{PageTable, IsPageTable, move_of}
use Rattle.og_mover.specs.Table.{MoverState}
use Rattle.og_mover.specs.Sound.{IsRoute}
use Rattle.og_mover.proofs.Kept.{few_moves, settled_table}
use Rattle.og_mover.proofs.Mover.publish.Goals as goal

pub settle-requires-clause-moves : goal.settle-requires-clause-moves
settle-requires-clause-moves c =
    let route : IsRoute c.self.inside.pager c.self.inside.settings c.args.route = subst (λ (m : MoverState). IsRoute m.pages m.settings c.args.route) (sym c.self.view_is) c.requires in
    subst IsSome (sym route.0) refl

pub settle-requires-clause-few : goal.settle-requires-clause-few
settle-requires-clause-few c =
    let route : IsRoute c.self.inside.pager c.self.inside.settings c.args.route = subst (λ (m : MoverState). IsRoute m.pages m.settings c.args.route) (sym c.self.view_is) c.requires in
    few_moves c.self.inside.pager c.self.inside.settings c.args.route route

pub invariant_of-self : goal.invariant_of-self
invariant_of-self c =
    let route : IsRoute c.self.inside.pager c.self.inside.settings c.args.route = subst (λ (m : MoverState). IsRoute m.pages m.settings c.args.route) (sym c.self.view_is) c.requires in
    let after = settled_table c.self.inside.pager c.self.inside.settings c.args.route c.self.invariant.pages route in
    record { pages = subst IsPageTable (sym c.settle.ensures) after.0; job = subst (λ (t : PageTable). move_of t ≡ None) (sym c.settle.ensures) after.1 }
