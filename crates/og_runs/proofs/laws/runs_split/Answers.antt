use Rattle.og_runs.proofs.Stated.{world_split}
use Rattle.og_runs.proofs.laws.runs_split.Goals as goal

pub returns : goal.returns
returns g c = world_split
