use Rattle.std.proofs.Common.{arith}
use Rattle.std.proofs.Math.Path.{◌∙◌}
use Rattle.rv_asm.proofs.Numbers.{next_digit}
use Rattle.rv_asm.proofs.number.digits_from.Goals as goal

pub loop-digit-preserved : goal.loop-digit-preserved
loop-digit-preserved c = record {
  capped = omega arith;
  value = next_digit c.args.base c.loop-digit.number c.loop-digit.digit-index c.args.digits.now c.digit_of.result c.min-number.result c.requires.some c.loop-digit-test.true c.digit_of.ensures.value c.min-number.ensures ∙ c.loop-digit.invariant.value;
}
