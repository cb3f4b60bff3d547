use Rattle.std.proofs.Common.{◌≡◌, take}
use Rattle.og_image.specs.Image.{start_byte}
use Rattle.og_flat.proofs.Lines.{all_lines}
use Rattle.og_flat.proofs.machine.all_lines.Given as goal

-- the lines of the pages so far
abbrev pub invariant-loop-page : goal.invariant-loop-page
invariant-loop-page l = l.lines.items ≡ all_lines (start_byte l.image) (take l.page-index l.pages)
