use Rattle.og_finish.proofs.Drawing.{Drawing}
use Rattle.og_finish.proofs.draw.Given as goal

abbrev pub invariant-loop-drawn : goal.invariant-loop-drawn
invariant-loop-drawn l = Drawing l.image l.initial.machine l.machine l.most l.drawn l.initial.events.items l.events.items l.draws
