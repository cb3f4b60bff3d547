use Rattle.std.proofs.Common.{rules}
use Rattle.og_actors.specs.Actors.{seen}
use Rattle.og_actors.proofs.Turns.{turns_more, turns_keep}
use Rattle.og_actors.proofs.actor.Actor.turns.Goals as goal

pub loop-preserved : goal.loop-preserved
loop-preserved g c =
    let i = c.loop.invariant in
    let more = turns_more g.S.Scheme.rules c.loop.counter (seen g.S.Scheme.state c.args.self.now) (seen g.S.Scheme.state c.loop.self) (seen g.S.Scheme.state c.turn-in-loop.new.self) c.turn-in-loop.result i.turns c.turn-in-loop.ensures in
    let k = turns_keep g.S.Scheme.rules _ _ _ more in
    record { turns = more; table = k.table; count = k.count; within = search rules }
