use Rattle.std.proofs.Common.{◌≡◌, map}
use Rattle.og_base.specs.Numbers.{below}
use Rattle.og_image.specs.Layout.{frame_at}
use Rattle.og_pager.proofs.first_frames.Given as goal

abbrev pub invariant-loop-number : goal.invariant-loop-number
invariant-loop-number l = l.table.items ≡ map (frame_at l.fn.nodes) (below l.number)
