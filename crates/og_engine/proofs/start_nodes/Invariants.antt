use Rattle.std.proofs.Common.{◌≡◌, map, length}
use Rattle.og_base.specs.Numbers.{below}
use Rattle.og_machine.specs.Machine.{new_seat, start_node}
use Rattle.og_engine.specs.Kept.{node_seat}
use Rattle.og_engine.proofs.start_nodes.Given as goal

abbrev pub invariant-loop-number : goal.invariant-loop-number
invariant-loop-number l = record {
  count : length l.seats.items ≡ l.number;
  seats : map node_seat l.seats.items ≡ map (λ number. new_seat (start_node (record { image = l.image; layout = l.layout; settings = l.settings }) number)) (below l.number);
}
