use Rattle.og_runs.proofs.Stated.{clocks_within}
use Rattle.og_runs.proofs.laws.clocks_bounded.Goals as goal

pub returns : goal.returns
returns g c = clocks_within
