use Rattle.og_pages.proofs.Safe.{waits}
use Rattle.og_whole.proofs.Runs.{reached}
use Rattle.og_whole.proofs.Worlds.{collect_moves, waiters_move}
use Rattle.og_whole.proofs.mover_waits_for_something.Goals as goal

pub returns-clause-waits : goal.returns-clause-waits
returns-clause-waits g c = λ actors mover pages blocks w r. waits pages blocks w.pages (reached actors mover pages blocks w r).of_pages

pub returns-clause-collects : goal.returns-clause-collects
returns-clause-collects g c = λ actors mover pages blocks w r. collect_moves actors mover pages blocks w r

pub returns-clause-nodes : goal.returns-clause-nodes
returns-clause-nodes g c = λ actors mover pages blocks w r. waiters_move actors mover pages blocks w r
