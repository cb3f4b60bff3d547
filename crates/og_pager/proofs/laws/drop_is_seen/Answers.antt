use Rattle.og_pager.proofs.Seen.{drop_laws}
use Rattle.og_pager.proofs.laws.drop_is_seen.Goals as goal

pub returns : goal.returns
returns c = drop_laws
