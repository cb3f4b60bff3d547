use Rattle.std.proofs.Common.{◌∙◌, ◌+◌, ap, length, None}
use Rattle.og_node.specs.Kept.{node_of}
use Rattle.og_node.specs.Node.{NodeState, act_of as node_act}
use Rattle.og_machine.specs.Machine.{Node, by_node}
use Rattle.og_engine.specs.Kept.{node_seat}
use Rattle.og_engine.proofs.Moved.{moved, only_these}
use Rattle.og_engine.proofs.step.act_of_node.Goals as goal

pub returns : goal.returns
returns c = record {
  moves =
      moved c.args.actor None (by_node (node_act c.args.image.now (node_of c.args.seat.now.local))) (node_seat c.args.seat.now) (node_seat c.end_event.new.seat) c.args.choices.now.flight c.end_event.new.choices.flight c.act_stamp-stamp.result c.act-note.new.out c.act-note.result
      c.act_stamp-stamp.ensures
      (ap node_seat c.end_event.ensures.seat ∙ ap (λ (z : NodeState). record { local = Node z; clock = c.act_stamp-stamp.result.clock; next = c.args.seat.now.next + length c.act-note.new.out }) c.act-note.ensures.state)
      (only_these c.clear.new.self c.act-note.new.out _ c.clear.ensures c.act-note.ensures.letters)
      c.end_event.ensures.flight c.act-note.ensures.note c.end_event.ensures.few;
  same = c.end_event.ensures.same;
}
