use Rattle.og_runs.proofs.Stated.{taken_never_flies}
use Rattle.og_runs.proofs.laws.taken_never_flies.Goals as goal

pub returns : goal.returns
returns g c = taken_never_flies
