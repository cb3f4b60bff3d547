use Rattle.og_runs.proofs.Stated.{stamps_rise}
use Rattle.og_runs.proofs.laws.stamps_rise.Goals as goal

pub returns : goal.returns
returns g c = stamps_rise
