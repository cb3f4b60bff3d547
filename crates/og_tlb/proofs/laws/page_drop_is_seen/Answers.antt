use Rattle.og_tlb.proofs.Seen.{page_drop_laws}
use Rattle.og_tlb.proofs.laws.page_drop_is_seen.Goals as goal

pub returns : goal.returns
returns c = page_drop_laws
