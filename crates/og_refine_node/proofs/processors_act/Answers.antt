use Rattle.og_refine_node.proofs.Acts.{processor_acts}
use Rattle.og_refine_node.proofs.processors_act.Goals as goal

pub returns : goal.returns
returns c = processor_acts
