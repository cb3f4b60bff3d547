use Rattle.og_block.proofs.Run.{reached, starts}
use Rattle.og_block.proofs.Races.{races, handed_run, handed_start}
use Rattle.og_block.specs.Access.{flat_end}
use Rattle.og_block.specs.State.{start}
use Rattle.og_block.proofs.races_stand.Goals as goal

pub returns : goal.returns
returns g c = λ n k memory rows b run. races n (flat_end memory rows) b (reached n k memory rows b run) (handed_run n memory rows (start k memory) b (starts n k memory) (λ q lt. handed_start k memory q) run)
