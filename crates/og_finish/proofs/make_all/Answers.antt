use Rattle.std.proofs.Common.{◌∙◌, arith, sym}
use Rattle.og_finish.proofs.Finished.{all_running, all_stopped}
use Rattle.og_finish.proofs.make_all.Goals as goal

pub returns-then-not-stopped-clause-finished : goal.returns-then-not-stopped-clause-finished
returns-then-not-stopped-clause-finished c =
    all_running c.args.image.now c.args.machine.now c.begin.new.machine c.draw.new.machine c.args.most _ c.args.merged.now c.in_ok-events.events.items c.draw.new.events.items c.in_ok-draw.ensures.drawn (omega arith)
    c.in_ok-events.ensures.same c.in_ok-events.ensures.reached c.begin.ensures.settings (sym c.stopped.ensures ∙ c.if-not-stopped.true)

pub returns-clause-finished : goal.returns-clause-finished
returns-clause-finished c =
    all_stopped c.args.image.now c.args.machine.now c.begin.new.machine c.draw.new.machine c.drain.new.machine c.args.most _ c.args.merged.now c.in_ok-events.events.items c.draw.new.events.items c.drain.new.events.items c.in_ok-draw.ensures.drawn (omega arith)
    c.in_ok-events.ensures.same c.in_ok-events.ensures.reached c.begin.ensures.settings (sym c.stopped.ensures ∙ c.if-not-stopped.false) c.draw.ensures.settings c.in_ok-drain.ensures.drained c.in_ok-drain.ensures.quiet
