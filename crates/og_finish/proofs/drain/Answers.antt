use Rattle.std.proofs.Common.{◌∙◌, arith, sym}
use Rattle.og_engine.specs.Kept.{setup_in}
use Rattle.og_finish.proofs.Draining.{draining_start, draining_free, draining_next, draining_none, draining_end, draining_quiet}
use Rattle.og_finish.proofs.drain.Goals as goal

pub loop-drained-init : goal.loop-drained-init
loop-drained-init c = draining_start c.args.image.now c.args.machine.now c.drain_bound-most.result c.args.events.now.items c.requires.made c.requires.stopped c.drain_bound-most.ensures.bound

pub make-requires-clause-free : goal.make-requires-clause-free
make-requires-clause-free c =
    draining_free c.args.image.now c.args.machine.now c.loop-drained.machine c.drain_bound-most.result c.loop-drained.drained c.args.events.now.items c.loop-drained.events.items c.in-Some.choice c.loop-drained.invariant
    (sym (c.drain_next.ensures (setup_in c.args.image.now c.loop-drained.machine)) ∙ c.in-Some.is)

pub loop-drained-preserved : goal.loop-drained-preserved
loop-drained-preserved c =
    draining_next c.args.image.now c.args.machine.now c.loop-drained.machine c.make.new.machine c.drain_bound-most.result c.loop-drained.drained c.args.events.now.items c.loop-drained.events.items c.make.new.events.items c.in-Some.choice
    c.loop-drained-test.true c.loop-drained.invariant (sym (c.drain_next.ensures (setup_in c.args.image.now c.loop-drained.machine)) ∙ c.in-Some.is)
    c.in_ok-make-in-Some.ensures.makes c.make.ensures.settings c.make.ensures.stays_made

pub returns-in-None-clause-drained : goal.returns-in-None-clause-drained
returns-in-None-clause-drained c =
    draining_none c.args.image.now c.args.machine.now c.loop-drained.machine c.drain_bound-most.result c.loop-drained.drained c.args.events.now.items c.loop-drained.events.items c.drain_bound-most.ensures.bound c.loop-drained.invariant
    (sym (c.drain_next.ensures (setup_in c.args.image.now c.loop-drained.machine)) ∙ c.in-None.is)

pub returns-in-None-clause-quiet : goal.returns-in-None-clause-quiet
returns-in-None-clause-quiet c =
    draining_quiet c.args.image.now c.args.machine.now c.loop-drained.machine c.drain_bound-most.result c.loop-drained.drained c.args.events.now.items c.loop-drained.events.items c.loop-drained.invariant
    (sym (c.drain_next.ensures (setup_in c.args.image.now c.loop-drained.machine)) ∙ c.in-None.is)

pub returns-clause-drained : goal.returns-clause-drained
returns-clause-drained c =
    draining_end c.args.image.now c.args.machine.now c.loop-drained.machine c.drain_bound-most.result c.loop-drained.drained c.args.events.now.items c.loop-drained.events.items c.drain_bound-most.ensures.bound c.loop-drained.invariant (omega arith)
