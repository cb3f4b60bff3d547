use Rattle.og_threads.proofs.Reached.{has_room, is_ready}
use Rattle.og_threads.proofs.tests.play.Goals as goal

pub make-requires-clause-has_room : goal.make-requires-clause-has_room
make-requires-clause-has_room g c = has_room g.M.Machines.setup g.M.Machines.most c.requires.plays.runnable

pub make-requires-clause-ready : goal.make-requires-clause-ready
make-requires-clause-ready g c = is_ready g.M.Machines.setup g.M.Machines.most c.requires.plays.runnable
