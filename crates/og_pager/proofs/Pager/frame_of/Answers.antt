use Rattle.og_pager.proofs.Kept.{frame_inside}
use Rattle.og_pager.proofs.Pager.frame_of.Goals as goal

pub returns-in-Some-clause-inside : goal.returns-in-Some-clause-inside
returns-in-Some-clause-inside c = λ f e. frame_inside c.args.self.now c.page_number.ensures.sound c.args.page f e

pub returns-in-None-clause-inside : goal.returns-in-None-clause-inside
returns-in-None-clause-inside c = λ f e. frame_inside c.args.self.now c.page_number.ensures.sound c.args.page f e
