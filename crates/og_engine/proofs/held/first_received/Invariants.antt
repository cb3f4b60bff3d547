use Rattle.std.proofs.Common.{◌≡◌, drop}
use Rattle.og_machine.specs.Held.{first_of, received}
use Rattle.og_engine.specs.Kept.{node_seat}
use Rattle.og_engine.proofs.held.first_received.Given as goal

abbrev pub invariant-loop-at : goal.invariant-loop-at
invariant-loop-at l = first_of (λ x. received l.block (node_seat x).local) (drop l.at l.nodes) ≡ first_of (λ x. received l.block (node_seat x).local) l.nodes
