use Rattle.og_pager.proofs.Seen.{page_laws}
use Rattle.og_pager.proofs.laws.pages_are_seen.Goals as goal

pub returns : goal.returns
returns c = page_laws
