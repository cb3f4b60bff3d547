use Rattle.og_tools.proofs.Programs.{texts_assemble}
use Rattle.og_tools.proofs.laws.texts_assemble.Goals as goal

pub returns : goal.returns
returns c = texts_assemble
