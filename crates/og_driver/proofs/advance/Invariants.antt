use Rattle.og_driver.proofs.Drawing.{Going}
use Rattle.og_driver.proofs.advance.Given as goal

abbrev pub invariant-loop-made : goal.invariant-loop-made
invariant-loop-made l = Going l.image l.initial.machine l.machine l.number l.most l.made l.events.items l.draws
