use Rattle.og_pager.proofs.Seen.{begin_laws}
use Rattle.og_pager.proofs.laws.begin_is_seen.Goals as goal

pub returns : goal.returns
returns c = begin_laws
