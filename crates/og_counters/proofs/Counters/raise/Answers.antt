use Rattle.std.proofs.Common.{◌≡◌, ◌+◌, ap, ap₂, refl, arith}
use Rattle.og_counters.specs.Kept.{frame_in}
use Rattle.og_counters.specs.Counts.{sum_of}
use Rattle.og_counters.proofs.Found.{kept-raised}
use Rattle.og_counters.proofs.Changes.{raised_now}
use Rattle.og_counters.proofs.Counters.raise.Goals as goal

pub invariant_of-self : goal.invariant_of-self
invariant_of-self c =
    let sum_is : c.sum-sum.result ≡ sum_of c.args.self.now.rules.nodes (frame_in c.args.self.now c.args.index).count = c.sum-sum.ensures.value in
    kept-raised c.self.view_is c.first.ensures.sound _ c.args.index c.args.node (c.first.result + c.from.result) c.from-2.result (c.count_of-count.result + 1) (c.sum-sum.result + 1) refl refl refl refl
    (ap₂ (λ a b. a + b) c.first.ensures.value c.from.ensures) c.from-2.ensures c.requires.frame c.requires.node (omega arith)
    (ap (λ n. n + 1) c.count_of-count.ensures.value) (ap (λ n. n + 1) c.sum-sum.ensures.value) (omega arith)

pub returns : goal.returns
returns c =
    raised_now c.self.view_is _ c.args.index c.args.node (c.first.result + c.from.result) (c.count_of-count.result + 1) refl refl refl
    (ap₂ (λ a b. a + b) c.first.ensures.value c.from.ensures) c.requires.node (omega arith) (ap (λ n. n + 1) c.count_of-count.ensures.value)
