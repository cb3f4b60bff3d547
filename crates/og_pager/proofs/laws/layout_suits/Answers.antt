use Rattle.og_pager.proofs.Seen.{layout_laws}
use Rattle.og_pager.proofs.laws.layout_suits.Goals as goal

pub returns : goal.returns
returns c = layout_laws
