use Rattle.std.proofs.Common.{◌≡◌, ◌≤◌, drop}
use Rattle.og_elf.specs.Elf.{passing}
use Rattle.og_elf.proofs.read.first_passing.Given as goal

-- the memory so far is within the limit, and what is said of the rest is said of the whole
abbrev pub invariant-loop-header : goal.invariant-loop-header
invariant-loop-header l = (l.total ≤ 16777216) × (passing l.total (drop l.header-index l.loads) ≡ passing 0 l.loads)
