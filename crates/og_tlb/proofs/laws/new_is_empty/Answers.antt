use Rattle.og_tlb.proofs.Seen.{new_laws}
use Rattle.og_tlb.proofs.laws.new_is_empty.Goals as goal

pub returns : goal.returns
returns c = new_laws
