use Rattle.og_runs.proofs.Whole.{world_append}
use Rattle.og_runs.proofs.laws.runs_append.Goals as goal

pub returns : goal.returns
returns g c = world_append
