use Rattle.rv_decode.proofs.Reassembly.{decoded_registers}
use Rattle.rv_decode.proofs.decode.Goals as goal

pub returns-clause-registers : goal.returns-clause-registers
returns-clause-registers c = decoded_registers c.args.word c.by_opcode.result c.by_opcode.ensures
