-- The word is that of the instruction's definition, which gives back what was decoded.
use Rattle.std.proofs.Common.{◌≡◌, ◌∙◌, rules}
use Rattle.rv_decode.specs.Words.{encode_of}
use Rattle.rv_decode.proofs.Reassembly.{encode_back}
use Rattle.rv_decode.proofs.encode.Goals as goal

pub returns-clause-back : goal.returns-clause-back
returns-clause-back c word below decoded =
    let value : c.assemble.result ≡ encode_of c.args.instr.now = search rules in
    value ∙ encode_back word c.args.instr.now below decoded
