use Rattle.std.proofs.Common.{◌≡◌, ◌<◌, false}
use Rattle.std.specs.List.{AllAdjacentBelow}
use Rattle.og_elf.specs.Segment.{overlaps}
use Rattle.og_elf.proofs.overlap.neighbours_are_apart.Given as goal

-- no two neighbours before this span overlap
abbrev pub invariant-loop-i : goal.invariant-loop-i
invariant-loop-i l = (0 < l.i) × AllAdjacentBelow (λ s t. overlaps s t ≡ false) l.spans l.i
