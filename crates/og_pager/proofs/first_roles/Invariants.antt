use Rattle.std.proofs.Common.{◌≡◌, map}
use Rattle.og_base.specs.Numbers.{below}
use Rattle.og_pager.specs.PageTable.{first_role}
use Rattle.og_pager.proofs.first_roles.Given as goal

abbrev pub invariant-loop-frame : goal.invariant-loop-frame
invariant-loop-frame l = l.roles.items ≡ map (first_role l.fn.nodes l.fn.frames l.fn.pages) (below l.frame)
