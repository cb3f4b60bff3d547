use Rattle.std.proofs.Common.{◌≡◌, ◌-◌, ◌^◌, ◌<◌, Some, get_or, sym, ◌∙◌, arith}
use Rattle.std.proofs.lemmas.Grind.{common_steps}
use Rattle.og_pager.specs.PageTable.{published_move}
use Rattle.og_pager.proofs.Kept.{same_table, kept_published, few_moved, few_published}
use Rattle.og_pager.proofs.Pager.settle.Goals as goal

pub overflow_add-index_mut : goal.overflow_add-index_mut
overflow_add-index_mut c =
    let e : c.args.self.now.moving ≡ Some c.in-Some.moving = sym c.move_under_way.ensures.move_is ∙ c.in-Some.is in
    let few : get_or c.args.self.now.moves c.in-Some.moving.number 0 < 2 ^ 32 - 1 = few_moved c.args.self.now c.move_under_way.ensures.sound c.requires.few c.in-Some.moving e in
    grind (arith, common_steps)

pub overflow_add-self : goal.overflow_add-self
overflow_add-self c = let few : c.args.self.now.published < 2 ^ 63 = few_published c.args.self.now c.move_under_way.ensures.sound in grind (arith, common_steps)

pub invariant_of-self : goal.invariant_of-self
invariant_of-self c =
    let e : c.args.self.now.moving ≡ Some c.in-Some.moving = sym c.move_under_way.ensures.move_is ∙ c.in-Some.is in
    let few : get_or c.args.self.now.moves c.in-Some.moving.number 0 < 2 ^ 32 - 1 = few_moved c.args.self.now c.move_under_way.ensures.sound c.requires.few c.in-Some.moving e in
    same_table _ (published_move c.args.self.now (Some c.in-Some.moving)) (grind (arith, common_steps)) (kept_published c.args.self.now c.move_under_way.ensures.sound c.in-Some.moving e few)
