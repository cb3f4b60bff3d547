use Rattle.og_refine.proofs.Lawful.{lone_writers}
use Rattle.og_refine.proofs.one_writer.Goals as goal

pub returns : goal.returns
returns c = lone_writers
