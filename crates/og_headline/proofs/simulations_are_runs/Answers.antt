use Rattle.og_headline.proofs.Drawn.{simulation_runs, simulation_holds}
use Rattle.og_headline.proofs.simulations_are_runs.Goals as goal

pub returns-clause-runs : goal.returns-clause-runs
returns-clause-runs c = simulation_runs

pub returns-clause-faithful : goal.returns-clause-faithful
returns-clause-faithful c = simulation_holds
