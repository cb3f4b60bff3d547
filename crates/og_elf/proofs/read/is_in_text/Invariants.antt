use Rattle.std.proofs.Common.{◌≡◌, drop}
use Rattle.std.specs.List.{list_any}
use Rattle.og_elf.specs.Elf.{is_text_header}
use Rattle.og_elf.proofs.read.is_in_text.Given as goal

-- no header before this one has the bytes
abbrev pub invariant-loop-header : goal.invariant-loop-header
invariant-loop-header l = list_any (is_text_header l.addr) (drop l.header-index l.loads) ≡ list_any (is_text_header l.addr) l.loads
