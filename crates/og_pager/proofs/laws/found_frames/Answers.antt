use Rattle.og_pager.proofs.Seen.{found_laws}
use Rattle.og_pager.proofs.laws.found_frames.Goals as goal

pub returns : goal.returns
returns c = found_laws
