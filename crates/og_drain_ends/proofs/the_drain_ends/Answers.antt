use Rattle.og_drain_ends.proofs.Ends.{drain_ends, simulations_end_quiet}
use Rattle.og_drain_ends.proofs.the_drain_ends.Goals as goal

pub returns-clause-events : goal.returns-clause-events
returns-clause-events c = drain_ends

pub returns-clause-simulations : goal.returns-clause-simulations
returns-clause-simulations c = simulations_end_quiet
