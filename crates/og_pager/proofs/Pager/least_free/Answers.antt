use Rattle.og_pager.proofs.Kept.{least_is_free}
use Rattle.og_pager.proofs.Pager.least_free.Goals as goal

pub returns-clause-inside : goal.returns-clause-inside
returns-clause-inside c = λ f e. (least_is_free c.args.self.now c.roles_at.ensures.sound c.args.node f c.requires e).0
