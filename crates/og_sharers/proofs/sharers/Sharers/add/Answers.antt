use Rattle.std.proofs.Common.{◌∙◌, ap}
use Rattle.std.specs.FinSet as set
use Rattle.std.specs.Int.{w64}
use Rattle.std.proofs.Math.Nat.{mod-lt}
use Rattle.std.proofs.Math.Pow.{pow_pos}
use Rattle.std.proofs.lemmas.Nat.{or_lt}
use Rattle.og_sharers.proofs.Words.{members_of-set}
use Rattle.og_sharers.proofs.sharers.Sharers.add.Goals as goal

pub invariant_of-self : goal.invariant_of-self
invariant_of-self c = or_lt 64 c.self.inside.bits _ c.self.invariant (mod-lt _ (pow_pos 64))

pub returns : goal.returns
returns c =
    members_of-set w64 c.self.inside.bits c.group.result c.self.invariant c.group.ensures.few
    ∙ ap (λ s. set.insert s c.group.result) c.self.view_is ∙ ap (λ g. set.insert c.args.self.now g) c.group.ensures.value
