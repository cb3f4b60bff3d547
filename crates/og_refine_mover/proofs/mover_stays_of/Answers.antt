use Rattle.og_refine_mover.proofs.Sizes.{stays_of}
use Rattle.og_refine_mover.proofs.mover_stays_of.Goals as goal

pub returns : goal.returns
returns c = stays_of
