use Rattle.og_drain.proofs.Processors as processors
use Rattle.og_drain.proofs.processors_pay.Goals as goal

pub returns : goal.returns
returns c = processors.processors_pay
