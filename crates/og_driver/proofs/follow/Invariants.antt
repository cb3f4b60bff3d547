use Rattle.og_driver.proofs.Following.{Followed}
use Rattle.og_driver.proofs.follow.Given as goal

abbrev pub invariant-loop-at : goal.invariant-loop-at
invariant-loop-at l = Followed l.image l.initial.machine l.machine l.choices l.at l.events.items
