use Rattle.og_pager.proofs.Seen.{quarantine_laws}
use Rattle.og_pager.proofs.laws.quarantine_is_seen.Goals as goal

pub returns : goal.returns
returns c = quarantine_laws
