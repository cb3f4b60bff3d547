-- the labels so far, and then those of the lines that are left, are those of the text
use Rattle.std.proofs.Common.{◌≡◌, ◌≤◌, ◌+◌, ℕ, List, length}
use Rattle.std.specs.Map.{lookup}
use Rattle.std.specs.Option.{option_or}
use Rattle.std.specs.Str.{bytes_eq}
use Rattle.rv_asm.specs.Source.{lines_of, places_of, labels_from}
use Rattle.rv_asm.specs.Found.{places_in}
use Rattle.rv_asm.proofs.labels.find_labels.Given as goal

abbrev pub invariant-loop-rest : goal.invariant-loop-rest
invariant-loop-rest l = record {
  room : l.number + length l.rest ≤ length l.fn.text;
  few : l.index ≤ l.number;
  found : (q : List ℕ) → option_or (places_in l.labels q) (lookup (bytes_eq q) (labels_from (l.number + 1) l.index (lines_of l.rest))) ≡ places_of l.fn.text q;
}

abbrev pub decreases-loop-rest : goal.decreases-loop-rest
decreases-loop-rest l = length l.rest
