use Rattle.std.proofs.Common.{◌≡◌, ◌++◌, map}
use Rattle.og_image.specs.Image.{stack_page}
use Rattle.og_base.specs.Numbers.{below}
use Rattle.og_image.specs.Layout.{data_pages}
use Rattle.og_image.proofs.layout.all_pages.Given as goal

abbrev pub invariant-loop-hart : goal.invariant-loop-hart
invariant-loop-hart l = l.pages.items ≡ data_pages l.image ++ map stack_page (below l.hart)
