use Rattle.std.proofs.Common.{◌<◌, ap}
use Rattle.std.specs.Prelude.{count_ones}
use Rattle.og_choices.proofs.Bits.{low_bits}
use Rattle.og_choices.proofs.marks.ones_below.Goals as goal

pub returns-clause-ones : goal.returns-clause-ones
returns-clause-ones c =
    let below : c.args.count < 64 = c.if-count-ge64.false in
    ap count_ones (low_bits c.args.half c.args.count 64 below)
