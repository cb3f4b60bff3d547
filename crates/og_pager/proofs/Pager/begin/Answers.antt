use Rattle.std.proofs.Common.{◌≡◌, Some, arith}
use Rattle.std.proofs.lemmas.Grind.{common_steps}
use Rattle.og_pager.specs.PageTable.{number_of, least_free, begun}
use Rattle.og_pager.proofs.Kept.{same_table, kept_begun}
use Rattle.og_pager.proofs.Pager.begin.Goals as goal

pub number-place-requires : goal.number-place-requires
number-place-requires c =
    let least : least_free c.args.self.now c.args.node ≡ Some c.unwrap-new.result = cc in c.least_free.ensures.inside c.unwrap-new.result least

pub invariant_of-self : goal.invariant_of-self
unfolding begun
invariant_of-self c =
    let least : least_free c.args.self.now c.args.node ≡ Some c.unwrap-new.result = cc in
    let number : number_of c.args.self.now c.args.page ≡ Some c.unwrap-number.result = cc in
    same_table _ (begun c.args.self.now c.args.page c.args.node) (rw (least, number) (grind (arith, common_steps))) (kept_begun c.args.self.now c.page_number.ensures.sound c.args.page c.args.node c.unwrap-number.result c.unwrap-new.result number c.requires.node least c.requires.idle)
