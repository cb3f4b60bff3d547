use Rattle.std.proofs.Common.{◌≡◌, ◌≤◌, ◌<◌, ◌-◌, true, false, map, length, take}
use Rattle.og_elf.specs.Segment.{are_apart}
use Rattle.og_elf.specs.Elf.{span_of_header}
use Rattle.og_elf.proofs.overlap.first_overlap.Given as goal

-- so many headers are apart, and so many aren't
abbrev pub invariant-loop-too_many : goal.invariant-loop-too_many
invariant-loop-too_many l = record {
  order : l.apart < l.too_many;
  top : l.too_many ≤ length l.loads;
  spans : l.spans.items ≡ map span_of_header l.loads;
  apart : are_apart (take l.apart (map span_of_header l.loads)) ≡ true;
  overlap : are_apart (take l.too_many (map span_of_header l.loads)) ≡ false;
}

abbrev pub decreases-loop-too_many : goal.decreases-loop-too_many
decreases-loop-too_many l = l.too_many - l.apart
