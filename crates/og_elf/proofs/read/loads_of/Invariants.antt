use Rattle.std.proofs.Common.{◌≡◌, ◌+◌, ◌*◌, ◌-◌, ◌++◌}
use Rattle.std.specs.List.{filter}
use Rattle.og_elf.specs.Elf.{headers_from, is_loadable}
use Rattle.og_elf.proofs.read.loads_of.Given as goal

-- what was found and what is left make up the whole
abbrev pub invariant-loop-i : goal.invariant-loop-i
invariant-loop-i l = l.loads.items ++ filter is_loadable (headers_from l.bytes (l.first + 56 * l.i) (l.count - l.i)) ≡ filter is_loadable (headers_from l.bytes l.first l.count)
