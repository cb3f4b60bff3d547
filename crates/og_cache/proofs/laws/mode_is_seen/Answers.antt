use Rattle.og_cache.proofs.Seen.{mode_laws}
use Rattle.og_cache.proofs.laws.mode_is_seen.Goals as goal

pub returns : goal.returns
returns c = mode_laws
