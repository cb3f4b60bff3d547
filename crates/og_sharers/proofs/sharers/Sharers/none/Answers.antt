use Rattle.og_sharers.proofs.Words.{members_of-zero}
use Rattle.og_sharers.proofs.sharers.Sharers.none.Goals as goal

pub returns : goal.returns
returns c = members_of-zero 64
