use Rattle.og_finish.proofs.Draining.{Draining}
use Rattle.og_finish.proofs.drain.Given as goal

abbrev pub invariant-loop-drained : goal.invariant-loop-drained
invariant-loop-drained l = Draining l.image l.initial.machine l.machine l.most l.drained l.initial.events.items l.events.items
