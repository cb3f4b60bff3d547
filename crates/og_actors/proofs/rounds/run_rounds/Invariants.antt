use Rattle.std.proofs.Common.{◌≤◌}
use Rattle.og_actors.specs.Rounds.{GoOn, all_seen}
use Rattle.og_actors.proofs.rounds.run_rounds.Given as goal

abbrev pub invariant-loop : goal.invariant-loop
invariant-loop g l = GoOn g.S.Scheme.rules g.S.Scheme.stopped l.turns l.counter (all_seen g.S.Scheme.state l.initial.actors) (all_seen g.S.Scheme.state l.actors) × (l.counter ≤ l.rounds)
