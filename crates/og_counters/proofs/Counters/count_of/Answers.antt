use Rattle.std.proofs.Common.{◌≡◌, ◌+◌, ◌<◌, ap₂, sym, subst, arith}
use Rattle.og_counters.specs.Kept.{frame_in}
use Rattle.og_counters.proofs.Found.{read_count, count_is_low}
use Rattle.og_counters.proofs.Counters.count_of.Goals as goal

pub returns-clause-value : goal.returns-clause-value
returns-clause-value c =
    read_count c.self.view_is c.args.index c.args.node (c.first.result + c.from.result) c.index.result.now
    (ap₂ (λ a b. a + b) c.first.ensures.value c.from.ensures) c.requires.node (omega arith) c.index.ensures

pub returns-clause-low : goal.returns-clause-low
returns-clause-low c =
    let value : c.index.result.now ≡ (frame_in c.args.self.now c.args.index).count c.args.node = returns-clause-value c in
    subst (λ x. x < 1000000) (sym value) (count_is_low c.args.self.now c.first.ensures.sound c.args.index c.args.node c.requires.node)
