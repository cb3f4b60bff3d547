use Rattle.std.proofs.Common.{◌≡◌, ◌/◌, ◌%◌, map}
use Rattle.og_base.specs.Numbers.{below}
use Rattle.og_home.specs.Start.{first_line}
use Rattle.og_home.proofs.first_lines.Given as goal

abbrev pub invariant-loop-j : goal.invariant-loop-j
invariant-loop-j l = l.lines.items ≡ map (λ j. first_line l.image l.layout l.node (j / 32) (j % 32)) (below l.j)
