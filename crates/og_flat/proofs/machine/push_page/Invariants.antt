use Rattle.std.proofs.Common.{◌≡◌, ◌*◌, ◌++◌}
use Rattle.og_image.specs.Image.{start_byte}
use Rattle.og_flat.specs.Flat.{start_lines}
use Rattle.og_flat.proofs.machine.push_page.Given as goal

-- so many lines of the page stand behind those that were there
abbrev pub invariant-loop-number : goal.invariant-loop-number
invariant-loop-number l =
    l.lines.items ≡ l.initial.lines.items ++ start_lines (start_byte l.image) (32 * l.page) l.number
