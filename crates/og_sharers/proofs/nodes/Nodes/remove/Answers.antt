use Rattle.std.proofs.Common.{◌∙◌, ap}
use Rattle.std.specs.FinSet as set
use Rattle.std.specs.Int.{w128}
use Rattle.og_sharers.proofs.Words.{members_of-clear}
use Rattle.og_sharers.proofs.nodes.Nodes.remove.Goals as goal

pub returns : goal.returns
returns c = members_of-clear w128 c.self.inside.bits c.args.node c.self.invariant c.requires ∙ ap (λ s. set.remove s c.args.node) c.self.view_is
