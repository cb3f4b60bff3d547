use Rattle.std.proofs.Common.{arith, ◌++◌, ◌∷◌, [], ap, ℕ}
use Rattle.std.proofs.Math.Path.{◌∙◌}
use Rattle.og_trace.proofs.Digits.{split_digit}
use Rattle.og_trace.proofs.write.push_digits.Goals as goal

pub loop-left-preserved : goal.loop-left-preserved
loop-left-preserved c = record {
  within = omega arith;
  split = split_digit c.loop-left.left c.args.number c.loop-left.text.items _ _ (omega arith) c.loop-left.invariant.split (c.in_ok-push.ensures.items ∙ ap (λ (d : ℕ). c.loop-left.text.items ++ d ∷ []) c.hex_digit_of.ensures);
}
