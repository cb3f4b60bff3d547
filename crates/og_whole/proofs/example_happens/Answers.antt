use Rattle.og_whole.proofs.Story.{happens}
use Rattle.og_whole.proofs.example_happens.Goals as goal

pub returns : goal.returns
returns c = record { happens = happens }
