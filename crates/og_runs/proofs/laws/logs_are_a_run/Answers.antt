use Rattle.og_runs.proofs.StatedLogs.{logs_run}
use Rattle.og_runs.proofs.laws.logs_are_a_run.Goals as goal

pub returns : goal.returns
returns g c = logs_run
