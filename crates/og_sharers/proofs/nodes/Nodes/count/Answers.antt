use Rattle.std.proofs.Common.{◌∙◌, ap, sym}
use Rattle.std.specs.FinSet as set
use Rattle.og_sharers.proofs.Words.{len-members_of}
use Rattle.og_sharers.proofs.nodes.Nodes.count.Goals as goal

pub returns : goal.returns
returns c = sym (ap set.len (sym c.self.view_is) ∙ len-members_of 128 c.self.inside.bits c.self.invariant)
