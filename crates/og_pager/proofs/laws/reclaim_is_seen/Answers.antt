use Rattle.og_pager.proofs.Seen.{reclaim_laws}
use Rattle.og_pager.proofs.laws.reclaim_is_seen.Goals as goal

pub returns : goal.returns
returns c = reclaim_laws
