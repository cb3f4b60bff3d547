use Rattle.std.proofs.Common.{◌≡◌, length, subst, arith}
use Rattle.og_counters.specs.Kept.{AreCounters}
use Rattle.og_counters.proofs.Found.{read_mark}
use Rattle.og_counters.proofs.Counters.is_noticed.Goals as goal

pub returns : goal.returns
returns c =
    let sound : AreCounters c.args.self.now = subst AreCounters c.self.view_is c.self.invariant in
    let all : length c.args.self.now.noticed ≡ c.args.self.now.rules.frames = sound.all_noticed in
    read_mark c.self.view_is c.args.index c.from.result c.index.result.now c.from.ensures (omega arith) c.index.ensures
