use Rattle.og_pages.proofs.Runs.{reached}
use Rattle.og_pages.proofs.Safe.{served}
use Rattle.og_pages.proofs.messages_meet_rows.Goals as goal

pub returns : goal.returns
returns g c = record { served = λ pages blocks s r. served pages blocks s (reached pages blocks s r) }
