use Rattle.og_block.proofs.Run.{reached}
use Rattle.og_block.specs.Access.{flat_end}
use Rattle.og_block.proofs.Held.{held_line}
use Rattle.og_block.proofs.held_is_flat.Goals as goal

pub returns : goal.returns
returns g c = λ n k memory rows b run. held_line n (flat_end memory rows) b (reached n k memory rows b run)
