-- the words so far, and then what the lines that are left give, are what all lines give
use Rattle.std.proofs.Common.{◌≡◌, ◌≤◌, ◌+◌, length}
use Rattle.rv_asm.specs.Source.{lines_of, assembled_from}
use Rattle.rv_asm.specs.Found.{places_in}
use Rattle.rv_asm.proofs.Assembly.{words_before}
use Rattle.rv_asm.proofs.source.assemble.Given as goal

abbrev pub invariant-loop-rest : goal.invariant-loop-rest
invariant-loop-rest l = record {
  room : l.number + length l.rest ≤ length l.fn.text;
  few : length l.words.items ≤ 245760;
  whole : words_before l.words.items (assembled_from (places_in l.labels) (l.number + 1) (length l.words.items) (lines_of l.rest)) ≡ assembled_from (places_in l.labels) 1 0 (lines_of l.fn.text);
}

abbrev pub decreases-loop-rest : goal.decreases-loop-rest
decreases-loop-rest l = length l.rest
