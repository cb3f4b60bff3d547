use Rattle.std.proofs.Common.{◌∙◌, ◌+◌, ap, length, Some}
use Rattle.og_node.specs.Kept.{node_of}
use Rattle.og_node.specs.Node.{NodeState, take_of as node_take}
use Rattle.og_machine.specs.Machine.{Node, by_node}
use Rattle.og_engine.specs.Kept.{node_seat}
use Rattle.og_engine.proofs.Moved.{moved, only_these}
use Rattle.og_engine.proofs.step.take_of_node.Goals as goal

pub returns : goal.returns
returns c = record {
  moves =
      moved c.args.message.now.to (Some c.args.message.now) (by_node (node_take c.args.image.now (node_of c.args.seat.now.local) c.args.message.now)) (node_seat c.args.seat.now) (node_seat c.end_event.new.seat) c.args.choices.now.flight c.end_event.new.choices.flight c.take_stamp-stamp.result c.take-note.new.out c.take-note.result
      c.take_stamp-stamp.ensures
      (ap node_seat c.end_event.ensures.seat ∙ ap (λ (z : NodeState). record { local = Node z; clock = c.take_stamp-stamp.result.clock; next = c.args.seat.now.next + length c.take-note.new.out }) c.take-note.ensures.state)
      (only_these c.clear.new.self c.take-note.new.out _ c.clear.ensures c.take-note.ensures.letters)
      c.end_event.ensures.flight c.take-note.ensures.note c.end_event.ensures.few;
  same = c.end_event.ensures.same;
}
