-- what was passed is the beginning of the word, and its rest is that of what is left
use Rattle.std.proofs.Common.{◌≡◌, ◌≤◌, ◌-◌, ◌++◌, length, take, drop}
use Rattle.rv_asm.specs.Syntax.{word_at}
use Rattle.rv_asm.proofs.token.word_length.Given as goal

abbrev pub invariant-loop-end : goal.invariant-loop-end
invariant-loop-end l = record {
  within : l.end ≤ length l.text;
  word : word_at l.text ≡ take l.end l.text ++ word_at (drop l.end l.text);
}

abbrev pub decreases-loop-end : goal.decreases-loop-end
decreases-loop-end l = length l.text - l.end
