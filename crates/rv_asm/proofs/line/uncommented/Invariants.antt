-- no comment begins in what was passed
use Rattle.std.proofs.Common.{◌≡◌, ◌≤◌, ◌-◌, ◌++◌, length, take, drop}
use Rattle.rv_asm.specs.Syntax.{uncommented}
use Rattle.rv_asm.proofs.line.uncommented.Given as goal

abbrev pub invariant-loop-end : goal.invariant-loop-end
invariant-loop-end l = record {
  within : l.end ≤ length l.text;
  before : uncommented l.text ≡ take l.end l.text ++ uncommented (drop l.end l.text);
}

abbrev pub decreases-loop-end : goal.decreases-loop-end
decreases-loop-end l = length l.text - l.end
