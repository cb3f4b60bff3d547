use Rattle.std.proofs.Common.{◌∙◌, ◌+◌, ◌%◌, ◌≤◌, sym, ap, arith}
use Rattle.std.specs.Prelude.{count_ones}
use Rattle.og_choices.proofs.Bits.{lower_half, both_halves}
use Rattle.og_choices.proofs.marks.count_below.Goals as goal

pub returns-then-actor-le64-clause-count : goal.returns-then-actor-le64-clause-count
returns-then-actor-le64-clause-count c = c.ones_below.ensures.ones ∙ sym (lower_half c.args.marks c.args.actor c.if-actor-le64.true)

pub returns-clause-count : goal.returns-clause-count
returns-clause-count c =
    let more : 64 ≤ c.args.actor = omega arith in
    ap (λ n. count_ones (c.args.marks % 18446744073709551616) + n) c.ones_below-2.ensures.ones ∙ sym (both_halves c.args.marks c.args.actor more)
