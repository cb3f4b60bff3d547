use Rattle.og_pager.proofs.Seen.{walk_laws}
use Rattle.og_pager.proofs.laws.walk_is_seen.Goals as goal

pub returns : goal.returns
returns c = walk_laws
