use Rattle.og_block.proofs.Run.{reached}
use Rattle.og_block.specs.Access.{flat_end}
use Rattle.og_block.proofs.Balance.{balanced}
use Rattle.og_block.proofs.messages_balance.Goals as goal

pub returns : goal.returns
returns g c = λ n k memory rows b run q lt. balanced n (flat_end memory rows) b q ((reached n k memory rows b run).each q lt)
