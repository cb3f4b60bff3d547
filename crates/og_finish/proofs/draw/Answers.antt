use Rattle.std.proofs.Common.{◌∙◌, ℕ, ◌≤◌, arith, sym, subst}
use Rattle.og_engine.specs.Kept.{machine_of, setup_in}
use Rattle.og_finish.proofs.Drawing.{running_enabled, drawn_named, drawn_free, drawing_next, drawing_stopped, drawing_end}
use Rattle.og_finish.proofs.draw.Goals as goal

pub returns-then-stopped-clause-drawn : goal.returns-then-stopped-clause-drawn
returns-then-stopped-clause-drawn c =
    drawing_stopped c.args.image.now c.args.machine.now c.loop-drawn.machine c.args.most c.loop-drawn.drawn c.args.events.now.items c.loop-drawn.events.items c.loop-drawn.draws c.loop-drawn.invariant (sym c.stopped.ensures ∙ c.if-stopped.true)

pub next_choice-requires : goal.next_choice-requires
next_choice-requires c =
    subst (λ (n : ℕ). 1 ≤ n) (sym c.enabled_count-count.ensures) (running_enabled c.args.image.now c.loop-drawn.machine c.loop-drawn.invariant.made (sym c.stopped.ensures ∙ c.if-stopped.false))

pub make-requires-clause-free : goal.make-requires-clause-free
make-requires-clause-free c =
    drawn_free c.args.image.now c.loop-drawn.machine c.loop-drawn.drawn c.enabled-choice.result c.loop-drawn.invariant.made (sym c.stopped.ensures ∙ c.if-stopped.false)
    (drawn_named (setup_in c.args.image.now c.loop-drawn.machine) c.loop-drawn.drawn c.next_choice.result c.enabled_count-count.result (machine_of c.loop-drawn.machine) c.enabled-choice.result (c.next_choice.ensures.drawn 1 c.loop-drawn.drawn c.loop-drawn.invariant.words_are) c.enabled_count-count.ensures c.enabled-choice.ensures)

pub loop-drawn-preserved : goal.loop-drawn-preserved
loop-drawn-preserved c =
    drawing_next c.args.image.now c.args.machine.now c.loop-drawn.machine c.make.new.machine c.args.most c.loop-drawn.drawn c.args.events.now.items c.loop-drawn.events.items c.make.new.events.items c.loop-drawn.draws c.next_choice.new.self c.enabled-choice.result
    c.loop-drawn-test.true c.loop-drawn.invariant (sym c.stopped.ensures ∙ c.if-stopped.false)
    (drawn_named (setup_in c.args.image.now c.loop-drawn.machine) c.loop-drawn.drawn c.next_choice.result c.enabled_count-count.result (machine_of c.loop-drawn.machine) c.enabled-choice.result (c.next_choice.ensures.drawn 1 c.loop-drawn.drawn c.loop-drawn.invariant.words_are) c.enabled_count-count.ensures c.enabled-choice.ensures)
    c.in_ok-make.ensures.makes c.make.ensures.settings c.make.ensures.stays_made (c.next_choice.ensures.goes_on 1 c.loop-drawn.drawn c.loop-drawn.invariant.words_are)

pub returns-clause-drawn : goal.returns-clause-drawn
returns-clause-drawn c =
    drawing_end c.args.image.now c.args.machine.now c.loop-drawn.machine c.args.most c.loop-drawn.drawn c.args.events.now.items c.loop-drawn.events.items c.loop-drawn.draws c.loop-drawn.invariant (omega arith)
