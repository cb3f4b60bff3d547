use Rattle.og_block.proofs.Run.{reached}
use Rattle.og_block.specs.Access.{flat_end}
use Rattle.og_block.proofs.Moves.{moves}
use Rattle.og_block.proofs.something_moves.Goals as goal

pub returns : goal.returns
returns g c = λ n sharing memory rows b run q lt. moves n (flat_end memory rows) b (reached n sharing memory rows b run) q lt
