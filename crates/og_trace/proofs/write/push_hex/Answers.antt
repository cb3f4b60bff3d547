use Rattle.std.proofs.lemmas.Grind.{common_steps}
use Rattle.std.proofs.Common.{arith}
use Rattle.og_trace.specs.Text.{hex}
use Rattle.og_trace.proofs.write.push_hex.Goals as goal

pub returns : goal.returns
unfolding hex
returns c = grind (arith, common_steps)
