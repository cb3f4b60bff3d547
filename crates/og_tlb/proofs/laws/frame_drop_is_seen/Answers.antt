use Rattle.og_tlb.proofs.Seen.{frame_drop_laws}
use Rattle.og_tlb.proofs.laws.frame_drop_is_seen.Goals as goal

pub returns : goal.returns
returns c = frame_drop_laws
