use Rattle.og_pager.proofs.Seen.{settle_laws}
use Rattle.og_pager.proofs.laws.settle_is_seen.Goals as goal

pub returns : goal.returns
returns c = settle_laws
