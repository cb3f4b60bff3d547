use Rattle.std.proofs.Common.{◌≡◌, map, take}
use Rattle.og_elf.specs.Elf.{segment_of}
use Rattle.og_elf.proofs.read.elf_of.Given as goal

-- the segments of the headers so far
abbrev pub invariant-loop-header : goal.invariant-loop-header
invariant-loop-header l = l.segments.items ≡ map (segment_of l.bytes) (take l.header-index l.loads)
