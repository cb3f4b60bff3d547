-- no line feed stands in what was passed
use Rattle.std.proofs.Common.{◌≡◌, ◌≤◌, ◌-◌, ◌++◌, length, take, drop}
use Rattle.rv_asm.specs.Source.{line_at, from_feed}
use Rattle.rv_asm.proofs.text.split_feed.Given as goal

abbrev pub invariant-loop-end : goal.invariant-loop-end
invariant-loop-end l = record {
  within : l.end ≤ length l.text;
  before : line_at l.text ≡ take l.end l.text ++ line_at (drop l.end l.text);
  from : from_feed l.text ≡ from_feed (drop l.end l.text);
}

abbrev pub decreases-loop-end : goal.decreases-loop-end
decreases-loop-end l = length l.text - l.end
