-- The register's bits fit the word, so that none is lost.
use Rattle.std.proofs.Common.{◌%◌, ◌^◌, ◌<◌, arith}
use Rattle.std.proofs.lemmas.Nat.{shl_whole}
use Rattle.rv_decode.proofs.words.register_bits.Goals as goal

pub returns : goal.returns
returns c =
    let fits : c.args.register % 32 < 2 ^ 5 = omega arith in
    rw c.from.ensures (shl_whole (c.args.register % 32) 5 c.args.low 32 fits (omega arith))
