use Rattle.og_block.proofs.Run.{reached, one_writer}
use Rattle.og_block.specs.Access.{flat_end}
use Rattle.og_block.proofs.writer_is_alone.Goals as goal

pub returns : goal.returns
returns g c = λ n k memory rows b run. one_writer n (flat_end memory rows) b (reached n k memory rows b run)
