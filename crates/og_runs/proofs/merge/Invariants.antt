use Rattle.std.proofs.Common.{◌≡◌, ◌++◌, drop}
use Rattle.og_runs.specs.Runs.{joined}
use Rattle.og_runs.specs.World.{events_of}
use Rattle.og_runs.proofs.merge.Given as goal

abbrev pub invariant-loop-log : goal.invariant-loop-log
invariant-loop-log g l = record {
  all : l.all.items ++ joined (events_of (drop l.log-index l.logs)) ≡ joined (events_of l.logs);
}
