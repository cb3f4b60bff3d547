use Rattle.og_runs.proofs.StatedLogs.{sorted_events_run}
use Rattle.og_runs.proofs.laws.sorted_events_are_a_run.Goals as goal

pub returns : goal.returns
returns g c = sorted_events_run
