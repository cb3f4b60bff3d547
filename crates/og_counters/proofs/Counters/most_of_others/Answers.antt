use Rattle.std.proofs.Common.{◌≡◌, max, ap₂, refl, ◌∙◌, add-one, arith}
use Rattle.std.proofs.lemmas.Grind.{common_steps}
use Rattle.og_counters.specs.Counts.{most_of_others}
use Rattle.og_counters.proofs.Counters.most_of_others.Goals as goal

pub loop-other-init : goal.loop-other-init
unfolding most_of_others
loop-other-init c = refl

pub loop-other-preserved : goal.loop-other-preserved
unfolding most_of_others
loop-other-preserved c =
    let greater : c.max-most.result ≡ max c.loop-other.most c.other_count.result = grind (arith, common_steps) in
    rw add-one (greater ∙ ap₂ max c.loop-other.invariant c.other_count.ensures)
