use Rattle.og_runs.proofs.Stated.{names_stay}
use Rattle.og_runs.proofs.laws.names_used_once.Goals as goal

pub returns : goal.returns
returns g c = names_stay
