-- what is written and the words that are left make up the whole
use Rattle.std.proofs.Common.{◌≡◌, ◌++◌, drop}
use Rattle.rv_asm.specs.Printed.{printed}
use Rattle.rv_asm.proofs.printer.print.Given as goal

abbrev pub invariant-loop-word : goal.invariant-loop-word
invariant-loop-word l = l.text.items ++ printed (drop l.word-index l.words) ≡ printed l.words
