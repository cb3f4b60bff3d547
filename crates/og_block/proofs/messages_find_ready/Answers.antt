use Rattle.og_block.proofs.Run.{reached}
use Rattle.og_block.specs.Access.{flat_end}
use Rattle.og_block.proofs.Balance.{finds_ready}
use Rattle.og_block.proofs.messages_find_ready.Goals as goal

pub returns : goal.returns
returns g c = λ n k memory rows b run q lt. finds_ready n (flat_end memory rows) b q (reached n k memory rows b run) lt
