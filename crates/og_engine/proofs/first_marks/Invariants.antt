use Rattle.std.proofs.Common.{◌≡◌}
use Rattle.og_engine.proofs.Bits.{MarkedTo}
use Rattle.og_engine.proofs.first_marks.Given as goal

abbrev pub invariant-loop-at : goal.invariant-loop-at
invariant-loop-at l = record {
  marked : MarkedTo l.image l.nodes l.at l.choices.ready l.running;
  same : l.choices ≡ record l.initial.choices { ready = l.choices.ready };
}
