use Rattle.og_finish.proofs.Begun.{Begun}
use Rattle.og_finish.proofs.begin.Given as goal

abbrev pub invariant-loop-at : goal.invariant-loop-at
invariant-loop-at l = Begun l.image l.initial.machine l.machine l.merged l.at l.events.items
