use Rattle.std.proofs.Common.{◌≡◌, length, subst, refl, arith}
use Rattle.og_counters.specs.Kept.{AreCounters}
use Rattle.og_counters.proofs.Changes.{marked_now}
use Rattle.og_counters.proofs.Counters.set_noticed.Goals as goal

pub returns : goal.returns
returns c =
    let sound : AreCounters c.args.self.now = subst AreCounters c.self.view_is c.self.invariant in
    let all : length c.args.self.now.noticed ≡ c.args.self.now.rules.frames = sound.all_noticed in
    marked_now c.self.view_is _ c.args.index c.from.result c.args.noticed refl refl refl c.from.ensures (omega arith)
