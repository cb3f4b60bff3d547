use Rattle.og_pager.proofs.Seen.{first_laws}
use Rattle.og_pager.proofs.laws.first_is_seen.Goals as goal

pub returns : goal.returns
returns c = first_laws
