use Rattle.std.proofs.Common.{◌≡◌}
use Rattle.og_home.specs.Home.{are_poisoned}
use Rattle.og_home.specs.Kept.{home_of}
use Rattle.og_home.proofs.Home.is_poisoned.Given as goal

abbrev pub invariant-loop-number : goal.invariant-loop-number
invariant-loop-number l = l.poisoned ≡ are_poisoned ((home_of l.self).entry l.index) l.number
