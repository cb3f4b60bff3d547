use Rattle.std.proofs.Common.{◌&&◌, ap, ap₂, refl, ◌∙◌, add-one}
use Rattle.og_home.specs.Home.{is_poison, are_poisoned}
use Rattle.og_home.proofs.Home.is_poisoned.Goals as goal

pub loop-number-init : goal.loop-number-init
unfolding are_poisoned
loop-number-init c = refl

pub loop-number-preserved : goal.loop-number-preserved
unfolding are_poisoned
loop-number-preserved c = rw add-one (ap₂ (λ a b. a && b) c.loop-number.invariant (c.is_poison-poisoned.ensures ∙ ap is_poison c.entry.ensures))
