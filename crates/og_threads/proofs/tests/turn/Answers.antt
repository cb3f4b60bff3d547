use Rattle.std.proofs.Common.{refl}
use Rattle.og_actors.specs.Actors.{seen}
use Rattle.og_actors.proofs.Turns.{turns_keep}
use Rattle.og_machine.specs.Machine.{rules}
use Rattle.og_threads.specs.Threads.{actor_of}
use Rattle.og_threads.proofs.tests.turn.Goals as goal

pub returns : goal.returns
returns g c =
    let k = turns_keep (rules g.M.Machines.setup) 1 (seen actor_of c.args.actor.now) (seen actor_of c.turn.new.self) (seen actor_of c.args.actor.now, c.turn.result, refl, c.turn.ensures) in
    record { table = k.table; actor = k.actor; turns = k.count }
