use Rattle.std.proofs.Common.{arith}
use Rattle.std.proofs.lemmas.Grind.{common_steps}
use Rattle.og_base.specs.Numbers.{below}
use Rattle.og_image.proofs.Pages.{map_below_more}
use Rattle.og_pager.specs.PageTable.{first_role}
use Rattle.og_pager.proofs.first_roles.Goals as goal

pub loop-frame-init : goal.loop-frame-init
unfolding below
loop-frame-init c = grind (arith, common_steps)

pub loop-frame-preserved : goal.loop-frame-preserved
loop-frame-preserved c = rw (map_below_more (first_role c.args.nodes c.args.frames c.args.pages) c.loop-frame.frame) (grind (arith, common_steps))
