use Rattle.og_pages.proofs.Safe.{served}
use Rattle.og_whole.proofs.Runs.{reached}
use Rattle.og_whole.proofs.Served.{poison_served}
use Rattle.og_whole.proofs.Meets.{blocks_served}
use Rattle.og_whole.proofs.messages_meet_rows.Goals as goal

pub returns-clause-served : goal.returns-clause-served
returns-clause-served g c = λ actors mover pages blocks w r. served pages blocks w.pages (reached actors mover pages blocks w r).of_pages

pub returns-clause-poison : goal.returns-clause-poison
returns-clause-poison g c = λ actors mover pages blocks w r. poison_served actors mover pages blocks w r.inside (reached actors mover pages blocks w r)

pub returns-clause-blocks : goal.returns-clause-blocks
returns-clause-blocks g c = λ actors mover pages blocks w r. blocks_served actors mover pages blocks w r.inside (reached actors mover pages blocks w r)
