use Rattle.std.proofs.Common.{◌≡◌, ◌≤◌, not, drop, length}
use Rattle.std.specs.List.{filter}
use Rattle.og_flight.specs.Flight.{first_sent}
use Rattle.og_machine.specs.Choices.{is_poison_read}
use Rattle.og_engine.proofs.drain.first_answer.Given as goal

abbrev pub invariant-loop-k : goal.invariant-loop-k
invariant-loop-k l = record {
  within : l.k ≤ length l.flight.messages;
  so_far : l.least ≡ first_sent (filter (λ m. not (is_poison_read m.kind)) (drop l.k l.flight.messages));
}

abbrev pub decreases-loop-k : goal.decreases-loop-k
decreases-loop-k l = l.k
