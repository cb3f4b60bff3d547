use Rattle.std.proofs.Common.{◌≡◌, length, subst, arith}
use Rattle.og_counters.specs.Kept.{AreCounters}
use Rattle.og_counters.proofs.Found.{read_sum}
use Rattle.og_counters.proofs.Counters.sum.Goals as goal

pub returns-clause-value : goal.returns-clause-value
returns-clause-value c =
    let sound : AreCounters c.args.self.now = subst AreCounters c.self.view_is c.self.invariant in
    let all : length c.args.self.now.sums ≡ c.args.self.now.rules.frames = sound.all_sums in
    read_sum c.self.view_is sound c.args.index c.from.result c.index.result.now c.from.ensures (omega arith) c.index.ensures
