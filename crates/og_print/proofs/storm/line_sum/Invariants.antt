use Rattle.std.proofs.Common.{◌≡◌, ◌%◌, ◌^◌}
use Rattle.og_print.specs.Storm.{line_sum}
use Rattle.og_print.proofs.storm.line_sum.Given as goal

abbrev pub invariant-loop-at : goal.invariant-loop-at
invariant-loop-at l = l.sum ≡ line_sum l.at l.line % 2 ^ 64
