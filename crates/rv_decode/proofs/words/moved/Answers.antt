-- The moved bits fit the word, so that none is lost.
use Rattle.std.proofs.Common.{◌^◌, ◌<◌, arith}
use Rattle.std.proofs.lemmas.Nat.{mod_below, pow_pos, shl_whole}
use Rattle.rv_decode.specs.Fields.{bits_of}
use Rattle.rv_decode.proofs.words.moved.Goals as goal

pub returns : goal.returns
returns c =
    let fits : bits_of c.args.imm c.args.from c.args.count < 2 ^ c.args.count = mod_below _ _ (pow_pos c.args.count) in
    rw c.bits.ensures (shl_whole _ c.args.count c.args.low 32 fits (omega arith))
