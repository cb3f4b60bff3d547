use Rattle.og_drain.proofs.Machines as machines
use Rattle.og_drain.proofs.stopped_machines_pay.Goals as goal

pub returns : goal.returns
returns c = machines.stopped_machines_pay
