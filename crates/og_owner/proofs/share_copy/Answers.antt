use Rattle.std.proofs.Common.{sym}
use Rattle.og_line.specs.declared.Mode.TheVariants.{Shared}
use Rattle.og_cache.proofs.Seen.{mode_laws}
use Rattle.og_owner.proofs.share_copy.Goals as goal

pub returns-in-None : goal.returns-in-None
returns-in-None c = sym (mode_laws.absent c.args.cache.now c.args.block Shared (c.look.ensures.absent.0 c.in-None.is))
