use Rattle.og_block.proofs.Run.{reached, starts}
use Rattle.og_block.proofs.Roles.{roles_run, roles_start, plays_runs}
use Rattle.og_block.proofs.Meets.{served}
use Rattle.og_block.specs.Access.{flat_end}
use Rattle.og_block.specs.State.{start}
use Rattle.og_block.proofs.messages_are_served.Goals as goal

pub returns : goal.returns
returns g c = λ n m k memory rows b lt own run. served n (flat_end memory rows) m b (reached n k memory rows b (plays_runs n m rows (start k memory) b run)) (roles_run n memory m rows (start k memory) b lt (starts n k memory) (roles_start n m k memory own) run) lt
