use Rattle.std.proofs.Common.{◌≡◌, ◌<◌, length, get_or, arith}
use Rattle.std.proofs.lemmas.Grind.{common_steps}
use Rattle.og_pager.specs.declared.Role.TheVariants.{Free, Mapped}
use Rattle.og_pager.specs.PageTable.{role_of, page_of}
use Rattle.og_pager.proofs.Pager.page_of.Goals as goal

pub index-requires-in-Mapped : goal.index-requires-in-Mapped
index-requires-in-Mapped c =
    let here : get_or c.self.inside.roles.items c.number.result Free ≡ Mapped c.in-Mapped.number = grind (arith, common_steps) in
    omega (arith, (c.self.invariant.roled.mapped c.number.result c.in-Mapped.number here).0)

pub returns-in-Mapped : goal.returns-in-Mapped
unfolding page_of
returns-in-Mapped c =
    let here : role_of c.args.self.now c.args.frame ≡ Mapped c.in-Mapped.number = grind (arith, common_steps) in
    let low : c.in-Mapped.number < length c.self.inside.pages.items = (c.self.invariant.roled.mapped c.number.result c.in-Mapped.number (grind (arith, common_steps))).0 in
    rw here (grind (arith, common_steps))
