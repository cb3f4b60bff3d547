-- Spans that lie where programs may.
use Rattle.std.specs.Prelude.{◌<◌, ◌≤◌, ◌+◌}
use Rattle.og_elf.specs.declared.segment.Span.{Span}

-- it has a byte, and ends below the stacks
pub record IsWithin (s : Span) : Type 0 where
  pub sized : 0 < s.size
  pub below : s.addr + s.size ≤ 0x70000000
