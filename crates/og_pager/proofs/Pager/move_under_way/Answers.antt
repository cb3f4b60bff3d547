use Rattle.std.proofs.Common.{subst}
use Rattle.og_pager.specs.PageTable.{IsPageTable}
use Rattle.og_pager.proofs.Pager.move_under_way.Goals as goal

pub returns-clause-low : goal.returns-clause-low
returns-clause-low c = λ m e. ((subst IsPageTable c.self.view_is c.self.invariant).roled.moving m e).0

pub returns-clause-inside : goal.returns-clause-inside
returns-clause-inside c = λ m e. ((subst IsPageTable c.self.view_is c.self.invariant).roled.moving m e).1
