use Rattle.og_drain.proofs.Bounds as bounds
use Rattle.og_drain.proofs.measure_is_bounded.Goals as goal

pub returns : goal.returns
returns c = bounds.measure_is_bounded
