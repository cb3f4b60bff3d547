use Rattle.std.proofs.Common.{◌∙◌, ap}
use Rattle.std.specs.FinSet as set
use Rattle.og_sharers.proofs.Others.{contains-added}
use Rattle.og_sharers.proofs.sharers.add_other.Goals as goal

pub returns-then-other-node : goal.returns-then-other-node
returns-then-other-node c = λ k.
    ap (λ s. set.contains s k) c.add.ensures ∙ contains-added c.args.others.now c.args.other c.args.node c.args.nodes k c.if-other-nodes.true c.if-other-node.true
