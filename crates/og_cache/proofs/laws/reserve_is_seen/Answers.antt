use Rattle.og_cache.proofs.Seen.{reserve_laws}
use Rattle.og_cache.proofs.laws.reserve_is_seen.Goals as goal

pub returns : goal.returns
returns c = reserve_laws
