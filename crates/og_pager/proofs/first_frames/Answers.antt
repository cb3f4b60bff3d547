use Rattle.std.proofs.Common.{◌≡◌, map, arith, subst, ℕ}
use Rattle.std.proofs.lemmas.Grind.{common_steps}
use Rattle.og_base.specs.Numbers.{below}
use Rattle.og_image.specs.Layout.{frame_at}
use Rattle.og_image.proofs.Pages.{map_below_more}
use Rattle.og_pager.proofs.first_frames.Goals as goal

pub loop-number-init : goal.loop-number-init
unfolding below
loop-number-init c = grind (arith, common_steps)

pub loop-number-preserved : goal.loop-number-preserved
loop-number-preserved c = rw (map_below_more (frame_at c.args.nodes) c.loop-number.number) (grind (arith, common_steps))

pub returns : goal.returns
returns c =
    let last : c.loop-number.number ≡ c.args.pages = omega arith in
    subst (λ (n : ℕ). c.loop-number.table.items ≡ map (frame_at c.args.nodes) (below n)) last c.loop-number.invariant
