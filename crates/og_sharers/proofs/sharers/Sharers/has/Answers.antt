use Rattle.std.proofs.Common.{◌∙◌, ap, sym, nat_eq}
use Rattle.std.specs.FinSet as set
use Rattle.std.proofs.lemmas.Nat.Bits.{shr_and_one}
use Rattle.og_sharers.proofs.Words.{contains-word}
use Rattle.og_sharers.proofs.sharers.Sharers.has.Goals as goal

pub returns : goal.returns
returns c =
    ap (λ b. nat_eq b 1) (shr_and_one c.self.inside.bits c.group.result) ∙ sym (contains-word 64 c.self.inside.bits c.group.result c.self.invariant)
    ∙ ap (λ s. set.contains s c.group.result) c.self.view_is ∙ ap (λ g. set.contains c.args.self.now g) c.group.ensures.value
