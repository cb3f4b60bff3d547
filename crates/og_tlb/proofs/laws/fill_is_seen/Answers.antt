use Rattle.og_tlb.proofs.Seen.{fill_laws}
use Rattle.og_tlb.proofs.laws.fill_is_seen.Goals as goal

pub returns : goal.returns
returns c = fill_laws
