use Rattle.std.proofs.Common.{◌∙◌, ◌+◌, ap, length, None}
use Rattle.og_mover.specs.Table.{MoverState, act_of as mover_act}
use Rattle.og_machine.specs.Machine.{Mover, by_mover}
use Rattle.og_engine.specs.Kept.{mover_seat}
use Rattle.og_engine.proofs.Moved.{moved}
use Rattle.og_engine.proofs.step.act_of_mover.Goals as goal

pub returns : goal.returns
returns c = record {
  moves =
      moved c.args.actor None (by_mover (mover_act c.args.seat.now.local)) (mover_seat c.args.seat.now) (mover_seat c.end_event.new.seat) c.args.choices.now.flight c.end_event.new.choices.flight c.act_stamp-stamp.result c.act-note.new.out c.act-note.result
      c.act_stamp-stamp.ensures
      (ap mover_seat c.end_event.ensures.seat ∙ ap (λ (z : MoverState). record { local = Mover z; clock = c.act_stamp-stamp.result.clock; next = c.args.seat.now.next + length c.act-note.new.out }) c.act-note.ensures.mover)
      (c.act-note.ensures.letters)
      c.end_event.ensures.flight c.act-note.ensures.note c.end_event.ensures.few;
  same = c.end_event.ensures.same;
}
