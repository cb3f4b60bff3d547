use Rattle.og_drain.proofs.Homes as homes
use Rattle.og_drain.proofs.homes_pay.Goals as goal

pub returns : goal.returns
returns c = homes.homes_pay
