use Rattle.std.proofs.Common.{◌≡◌, ◌≤◌, ◌+◌}
use Rattle.og_actors.specs.Actors.{MakesTurns, seen}
use Rattle.og_actors.proofs.actor.Actor.turns.Given as goal

abbrev pub invariant-loop : goal.invariant-loop
invariant-loop g l = record {
  turns : MakesTurns g.S.Scheme.rules l.counter (seen g.S.Scheme.state l.initial.self) (seen g.S.Scheme.state l.self);
  table : l.self.table ≡ l.initial.self.table;
  count : l.self.made + l.self.idle ≡ l.initial.self.made + l.initial.self.idle + l.counter;
  within : l.counter ≤ l.turns;
}
