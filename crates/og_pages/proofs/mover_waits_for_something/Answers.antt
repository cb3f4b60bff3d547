use Rattle.og_pages.proofs.Runs.{reached}
use Rattle.og_pages.proofs.Safe.{waits}
use Rattle.og_pages.proofs.mover_waits_for_something.Goals as goal

pub returns : goal.returns
returns g c = record { waits = λ pages blocks s r. waits pages blocks s (reached pages blocks s r) }
