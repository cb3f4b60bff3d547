use Rattle.og_driver.proofs.Counting.{Counting}
use Rattle.og_driver.proofs.survey.Given as goal

abbrev pub invariant-loop-events : goal.invariant-loop-events
invariant-loop-events l = Counting l.image l.initial.machine l.machine l.number l.most l.events l.moves l.draws
