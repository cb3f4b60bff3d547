use Rattle.std.proofs.Common.{◌≡◌, ◌≤◌, ◌-◌, ◌++◌, length, take, drop}
use Rattle.og_trace.specs.Reader.{before, from}
use Rattle.og_trace.proofs.word.split.Given as goal

-- no such byte stands before this place
abbrev pub invariant-loop-end : goal.invariant-loop-end
invariant-loop-end l = record {
  within : l.end ≤ length l.text;
  before : before l.at l.text ≡ take l.end l.text ++ before l.at (drop l.end l.text);
  from : from l.at l.text ≡ from l.at (drop l.end l.text);
}

abbrev pub decreases-loop-end : goal.decreases-loop-end
decreases-loop-end l = length l.text - l.end
