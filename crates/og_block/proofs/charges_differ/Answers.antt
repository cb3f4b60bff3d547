use Rattle.og_block.proofs.Run.{reached}
use Rattle.og_block.specs.Access.{flat_end}
use Rattle.og_block.proofs.Charges.{distinct_charges}
use Rattle.og_block.proofs.charges_differ.Goals as goal

pub returns : goal.returns
returns g c = λ n k memory rows b run. distinct_charges n (flat_end memory rows) b (reached n k memory rows b run)
