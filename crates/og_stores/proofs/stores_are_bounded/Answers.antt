use Rattle.og_stores.proofs.Machines as machines
use Rattle.og_stores.proofs.stores_are_bounded.Goals as goal

pub returns : goal.returns
returns c = machines.stores_are_bounded
