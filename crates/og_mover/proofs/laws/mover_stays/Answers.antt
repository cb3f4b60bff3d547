use Rattle.og_mover.proofs.Stays.{stays_laws}
use Rattle.og_mover.proofs.laws.mover_stays.Goals as goal

pub returns : goal.returns
returns c = stays_laws
