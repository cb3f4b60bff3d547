use Rattle.og_pager.proofs.Kept.{kept_holders}
use Rattle.og_pager.proofs.Pager.dropped.Goals as goal

pub invariant_of-self : goal.invariant_of-self
invariant_of-self c = kept_holders _ c.self.invariant _ _
