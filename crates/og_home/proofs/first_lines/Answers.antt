use Rattle.std.proofs.Common.{◌/◌, ◌%◌, arith}
use Rattle.std.proofs.lemmas.Grind.{common_steps}
use Rattle.og_base.specs.Numbers.{below}
use Rattle.og_image.proofs.Pages.{map_below_more}
use Rattle.og_home.specs.Start.{first_line}
use Rattle.og_home.proofs.first_lines.Goals as goal

pub loop-j-init : goal.loop-j-init
unfolding below
loop-j-init c = grind (arith, common_steps)

pub loop-j-preserved : goal.loop-j-preserved
loop-j-preserved c = rw (map_below_more (λ j. first_line c.args.image.now c.args.layout.now c.args.node (j / 32) (j % 32)) c.loop-j.j) (grind (arith, common_steps))
