use Rattle.std.proofs.Common.{◌*◌, ap}
use Rattle.og_machine.specs.Machine.{Setup}
use Rattle.og_threads.proofs.Reached.{has_room, is_ready}
use Rattle.og_threads.proofs.Whole.{run_of_all, counted, if_ok, if_both}
use Rattle.og_threads.proofs.run_of.Goals as goal

pub run-requires-clause-has_room : goal.run-requires-clause-has_room
run-requires-clause-has_room g c κs within = has_room g.M.Machines.setup g.M.Machines.most c.requires.plays.runnable

pub run-requires-clause-ready : goal.run-requires-clause-ready
run-requires-clause-ready g c κs within = is_ready g.M.Machines.setup g.M.Machines.most c.requires.plays.runnable

pub returns-clause-run : goal.returns-clause-run
returns-clause-run g c = if_ok c.run.result (λ r h. run_of_all g.M.Machines.setup r.rounds r.events.items r.left.items h) c.run.ensures.run

pub returns-clause-counted : goal.returns-clause-counted
returns-clause-counted g c = if_both c.run.result
    (λ r sorted h. counted g.M.Machines.setup (c.args.rounds * c.args.turns) c.args.settings.now.nodes r.rounds _ r.events.items (ap (λ (s : Setup). s.settings.nodes) c.requires.setup) sorted h) c.run.ensures.merged c.run.ensures.counted
