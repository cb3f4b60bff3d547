use Rattle.std.proofs.Common.{◌≡◌, drop}
use Rattle.og_machine.specs.Held.{first_of, carried}
use Rattle.og_engine.proofs.Machine.first_carried.Given as goal

abbrev pub invariant-loop-at : goal.invariant-loop-at
invariant-loop-at l = first_of (λ m. carried l.block m.kind) (drop l.at l.self.flight.messages) ≡ first_of (λ m. carried l.block m.kind) l.self.flight.messages
