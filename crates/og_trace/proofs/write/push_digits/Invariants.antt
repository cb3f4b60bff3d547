-- What is written and the digits that are left make up the number.
use Rattle.std.proofs.Common.{◌≡◌, ◌≤◌, ◌++◌}
use Rattle.og_trace.specs.Text.{hex_digits}
use Rattle.og_trace.proofs.write.push_digits.Given as goal

abbrev pub invariant-loop-left : goal.invariant-loop-left
invariant-loop-left l = record {
  within : l.left ≤ 16;
  split : l.text.items ++ hex_digits l.left l.number ≡ l.initial.text.items ++ hex_digits l.count l.number;
}

abbrev pub decreases-loop-left : goal.decreases-loop-left
decreases-loop-left l = l.left
