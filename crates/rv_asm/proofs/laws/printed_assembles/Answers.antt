use Rattle.rv_asm.proofs.Roundtrip.{roundtrip}
use Rattle.rv_asm.proofs.laws.printed_assembles.Goals as goal

pub returns : goal.returns
returns c = roundtrip
