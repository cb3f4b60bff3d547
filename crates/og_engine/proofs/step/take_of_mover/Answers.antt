use Rattle.std.proofs.Common.{◌∙◌, ◌+◌, ap, length, Some}
use Rattle.og_mover.specs.Table.{MoverState, take_of as mover_take}
use Rattle.og_machine.specs.Machine.{Mover, by_mover}
use Rattle.og_engine.specs.Kept.{mover_seat}
use Rattle.og_engine.proofs.Moved.{moved}
use Rattle.og_engine.proofs.step.take_of_mover.Goals as goal

pub returns : goal.returns
returns c = record {
  moves =
      moved c.args.message.now.to (Some c.args.message.now) (by_mover (mover_take c.args.seat.now.local c.args.message.now)) (mover_seat c.args.seat.now) (mover_seat c.end_event.new.seat) c.args.choices.now.flight c.end_event.new.choices.flight c.take_stamp-stamp.result c.take-note.new.out c.take-note.result
      c.take_stamp-stamp.ensures
      (ap mover_seat c.end_event.ensures.seat ∙ ap (λ (z : MoverState). record { local = Mover z; clock = c.take_stamp-stamp.result.clock; next = c.args.seat.now.next + length c.take-note.new.out }) c.take-note.ensures.mover)
      (c.take-note.ensures.letters)
      c.end_event.ensures.flight c.take-note.ensures.note c.end_event.ensures.few;
  same = c.end_event.ensures.same;
}
