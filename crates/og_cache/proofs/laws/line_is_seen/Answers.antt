use Rattle.og_cache.proofs.Seen.{line_laws}
use Rattle.og_cache.proofs.laws.line_is_seen.Goals as goal

pub returns : goal.returns
returns c = line_laws
