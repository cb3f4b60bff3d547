use Rattle.og_refine_node.proofs.Takes.{processor_takes}
use Rattle.og_refine_node.proofs.processors_take.Goals as goal

pub returns : goal.returns
returns c = processor_takes
