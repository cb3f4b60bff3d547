use Rattle.std.proofs.Common.{◌≡◌, ◌∙◌, ◌+◌, ◌<◌, ◌^◌, List, true, arith, sym, subst}
use Rattle.og_runs.specs.declared.Event.{Event}
use Rattle.og_msg.specs.declared.Note.{Note}
use Rattle.og_engine.specs.Kept.{KeptMachine, machine_of}
use Rattle.og_machine.specs.Machine.{is_quiet}
use Rattle.og_driver.proofs.Drawing.{Going, going_start, going_next, going_quiet, going_end}
use Rattle.og_driver.proofs.advance.Goals as goal

pub loop-made-init : goal.loop-made-init
loop-made-init c =
    subst (λ (l : List (Event Note)). Going c.args.image.now c.args.machine.now c.args.machine.now c.args.number c.args.most 0 l c.of_number-draws.result) (sym c.new-events.ensures.items)
    (going_start c.args.image.now c.args.machine.now c.args.number c.args.most c.of_number-draws.result c.requires.start c.of_number-draws.ensures)

pub next_event-requires : goal.next_event-requires
next_event-requires c =
    let count : c.loop-made.machine.events ≡ c.loop-made.made = c.loop-made.invariant.count in
    let more : c.loop-made.made < c.args.most = c.loop-made-test.true in
    let fits : c.args.most < 2 ^ 32 = c.ranges.most.fits in
    record {
      made = c.loop-made.invariant.made;
      young = omega arith;
      drawing = (c.args.number, c.loop-made.made, c.loop-made.invariant.words);
    }

pub returns-in-None : goal.returns-in-None
returns-in-None c =
    let end = c.next_event.ensures.ended c.in-None.is in
    let g : Going c.args.image.now c.args.machine.now c.next_event.new.machine c.args.number c.args.most c.loop-made.made c.loop-made.events.items c.loop-made.draws =
    subst (λ (m : KeptMachine). Going c.args.image.now c.args.machine.now m c.args.number c.args.most c.loop-made.made c.loop-made.events.items c.loop-made.draws) (sym end.1) c.loop-made.invariant in
    record {
      drawn = going_quiet c.args.image.now c.args.machine.now c.next_event.new.machine c.args.number c.args.most c.loop-made.made c.loop-made.events.items c.loop-made.draws g (subst (λ (m : KeptMachine). is_quiet (machine_of m) ≡ true) (sym end.1) end.0);
      settings = g.settings;
      made = g.made;
    }

pub returns-in_err-push-in-Some-clause-settings : goal.returns-in_err-push-in-Some-clause-settings
returns-in_err-push-in-Some-clause-settings c = (c.next_event.ensures.made c.in-Some.event c.in-Some.is).settings ∙ c.loop-made.invariant.settings

pub returns-in_err-push-in-Some-clause-made : goal.returns-in_err-push-in-Some-clause-made
returns-in_err-push-in-Some-clause-made c = (c.next_event.ensures.made c.in-Some.event c.in-Some.is).made

pub loop-made-preserved : goal.loop-made-preserved
loop-made-preserved c =
    subst (λ (l : List (Event Note)). Going c.args.image.now c.args.machine.now c.next_event.new.machine c.args.number c.args.most (c.loop-made.made + 1) l c.next_event.new.draws) (sym c.in_ok-push-in-Some.ensures.items)
    (going_next c.args.image.now c.args.machine.now c.loop-made.machine c.next_event.new.machine c.args.number c.args.most c.loop-made.made c.loop-made.events.items c.loop-made.draws c.next_event.new.draws c.in-Some.event
    c.loop-made-test.true c.loop-made.invariant (c.next_event.ensures.made c.in-Some.event c.in-Some.is))

pub returns : goal.returns
returns c = record {
  drawn = going_end c.args.image.now c.args.machine.now c.loop-made.machine c.args.number c.args.most c.loop-made.made c.loop-made.events.items c.loop-made.draws c.loop-made.invariant (omega arith);
  settings = c.loop-made.invariant.settings;
  made = c.loop-made.invariant.made;
}
