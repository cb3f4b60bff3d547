use Rattle.std.proofs.Common.{◌≡◌, ◌++◌, ℕ, map, arith, subst}
use Rattle.std.proofs.lemmas.Grind.{common_steps}
use Rattle.std.proofs.lemmas.List.{append-nil, append_assoc}
use Rattle.og_image.specs.Image.{stack_page}
use Rattle.og_base.specs.Numbers.{below}
use Rattle.og_image.specs.Layout.{data_pages, pages_of, stack_pages}
use Rattle.og_image.proofs.Pages.{map_below_more}
use Rattle.og_image.proofs.layout.all_pages.Goals as goal

pub loop-hart-init : goal.loop-hart-init
unfolding below
loop-hart-init c = rw append-nil c.in_ok-pages.ensures

pub loop-hart-preserved : goal.loop-hart-preserved
loop-hart-preserved c = rw (map_below_more stack_page c.loop-hart.hart) (grind (arith, common_steps, append_assoc))

pub returns : goal.returns
unfolding pages_of stack_pages
returns c =
    let last : c.loop-hart.hart ≡ c.args.image.now.nodes = omega arith in
    subst (λ (n : ℕ). c.loop-hart.pages.items ≡ data_pages c.args.image.now ++ map stack_page (below n)) last c.loop-hart.invariant
