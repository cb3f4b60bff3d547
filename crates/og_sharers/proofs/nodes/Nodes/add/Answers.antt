use Rattle.std.proofs.Common.{◌∙◌, ap}
use Rattle.std.specs.FinSet as set
use Rattle.std.specs.Int.{w128}
use Rattle.std.proofs.Math.Nat.{mod-lt}
use Rattle.std.proofs.Math.Pow.{pow_pos}
use Rattle.std.proofs.lemmas.Nat.{or_lt}
use Rattle.og_sharers.proofs.Words.{members_of-set}
use Rattle.og_sharers.proofs.nodes.Nodes.add.Goals as goal

pub invariant_of-self : goal.invariant_of-self
invariant_of-self c = or_lt 128 c.self.inside.bits _ c.self.invariant (mod-lt _ (pow_pos 128))

pub returns : goal.returns
returns c = members_of-set w128 c.self.inside.bits c.args.node c.self.invariant c.requires ∙ ap (λ s. set.insert s c.args.node) c.self.view_is
