use Rattle.og_sharers.proofs.Words.{members_of-zero}
use Rattle.og_sharers.proofs.nodes.Nodes.none.Goals as goal

pub returns : goal.returns
returns c = members_of-zero 128
