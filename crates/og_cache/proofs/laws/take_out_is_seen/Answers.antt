use Rattle.og_cache.proofs.Seen.{take_out_laws}
use Rattle.og_cache.proofs.laws.take_out_is_seen.Goals as goal

pub returns : goal.returns
returns c = take_out_laws
