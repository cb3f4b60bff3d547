use Rattle.std.proofs.Common.{◌≡◌, ◌∙◌, ◌+◌, List, ◌++◌, ◌∷◌, [], length, map, length-append, arith, ap}
use Rattle.og_base.specs.Numbers.{below}
use Rattle.og_runs.specs.declared.Seat.{Seat}
use Rattle.og_node.specs.Kept.{KeptNode}
use Rattle.og_machine.specs.Machine.{Setup, new_seat, start_node}
use Rattle.og_engine.specs.Kept.{node_seat}
use Rattle.og_engine.proofs.Starts.{one_node_more, new_node_seat}
use Rattle.og_engine.proofs.start_nodes.Goals as goal

pub loop-number-init : goal.loop-number-init
unfolding below
loop-number-init c = let items : c.in_ok-seats.seats.items ≡ [] = c.in_ok-seats.ensures.items in record {
  count = ap (λ (xs : List (Seat KeptNode)). length xs) items;
  seats = ap (λ (xs : List (Seat KeptNode)). map node_seat xs) items;
}

pub loop-number-preserved : goal.loop-number-preserved
loop-number-preserved c =
    let setup : Setup = record { image = c.args.image.now; layout = c.args.layout.now; settings = c.args.settings.now } in
    let x : Seat KeptNode = record { local = c.in_ok-make.field-0; clock = 0; next = 0 } in
    let items : c.push.new.self.items ≡ c.loop-number.seats.items ++ x ∷ [] = c.in_ok-push.ensures.items in
    let is : node_seat x ≡ new_seat (start_node setup c.loop-number.number) = new_node_seat setup c.loop-number.number c.in_ok-make.field-0 c.in_ok-make.ensures in
    let count : length c.loop-number.seats.items ≡ c.loop-number.number = c.loop-number.invariant.count in
    let longer : length (c.loop-number.seats.items ++ x ∷ []) ≡ length c.loop-number.seats.items + 1 = length-append c.loop-number.seats.items (x ∷ []) in
    record {
      count = ap (λ (xs : List (Seat KeptNode)). length xs) items ∙ (omega arith);
      seats = ap (λ (xs : List (Seat KeptNode)). map node_seat xs) items ∙ one_node_more setup c.loop-number.number c.loop-number.seats.items x c.loop-number.invariant.seats is;
    }
