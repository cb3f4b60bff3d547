use Rattle.og_runs.proofs.StatedLogs.{run_logs}
use Rattle.og_runs.proofs.laws.runs_give_logs.Goals as goal

pub returns : goal.returns
returns g c = run_logs
