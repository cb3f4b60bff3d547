use Rattle.og_drain.proofs.Homes as homes
use Rattle.og_drain.proofs.sharers_are_few.Goals as goal

pub returns : goal.returns
returns c = homes.sharers_few
