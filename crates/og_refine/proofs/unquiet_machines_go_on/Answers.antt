use Rattle.og_refine.proofs.Lawful.{goes_on}
use Rattle.og_refine.proofs.unquiet_machines_go_on.Goals as goal

pub returns : goal.returns
returns c = goes_on
