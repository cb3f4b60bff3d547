use Rattle.std.proofs.Common.{◌≡◌, subst, sym, ◌∙◌, arith}
use Rattle.std.proofs.lemmas.Grind.{common_steps}
use Rattle.og_mover.specs.Table.{decided}
use Rattle.og_mover.specs.Sound.{IsMover}
use Rattle.og_mover.proofs.Kept.{moved_so, full_so}
use Rattle.og_mover.proofs.Mover.decided.Goals as goal

pub returns-clause-moves : goal.returns-clause-moves
returns-clause-moves c = λ e.
    let value : c.decide.result ≡ decided c.args.self.now c.args.hot c.args.page = grind (arith, common_steps) in
    moved_so c.args.self.now c.args.hot c.args.page (subst IsMover c.self.view_is c.self.invariant) (sym value ∙ e)

pub returns-clause-full : goal.returns-clause-full
returns-clause-full c = λ e.
    let value : c.decide.result ≡ decided c.args.self.now c.args.hot c.args.page = grind (arith, common_steps) in
    full_so c.args.self.now c.args.hot c.args.page (subst IsMover c.self.view_is c.self.invariant) (sym value ∙ e)
