use Rattle.og_block.proofs.Run.{flat_run, starts}
use Rattle.og_block.specs.State.{start}
use Rattle.og_block.proofs.accesses_are_flat.Goals as goal

pub returns : goal.returns
returns g c = λ n k memory rows b run. flat_run n memory rows (start k memory) b (starts n k memory) run
