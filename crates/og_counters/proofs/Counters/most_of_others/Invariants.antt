use Rattle.std.proofs.Common.{◌≡◌}
use Rattle.og_counters.specs.Kept.{counters_of}
use Rattle.og_counters.specs.Counts.{most_of_others}
use Rattle.og_counters.proofs.Counters.most_of_others.Given as goal

abbrev pub invariant-loop-other : goal.invariant-loop-other
invariant-loop-other l = l.most ≡ most_of_others l.other (counters_of l.self).rules.home l.node ((counters_of l.self).frame l.index).count
