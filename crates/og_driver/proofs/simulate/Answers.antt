use Rattle.std.proofs.Common.{sym, subst, Bool}
use Rattle.og_headline.specs.Headline.{IsSimulation}
use Rattle.og_engine.specs.Kept.{setup_in}
use Rattle.og_driver.proofs.Drawing.{simulated}
use Rattle.og_driver.proofs.simulate.Goals as goal

pub quiet-requires : goal.quiet-requires
quiet-requires c = record { made = (c.args.image.now, c.advance.ensures.made) }

pub returns-clause-run : goal.returns-clause-run
returns-clause-run c =
    subst (λ (b : Bool). IsSimulation (setup_in c.args.image.now c.args.machine.now) c.args.number c.args.most c.sort_events.new.events.items b) (sym c.quiet.ensures)
    (simulated c.args.image.now c.args.machine.now c.advance.new.machine c.args.number c.args.most c.in_ok-events.events.items c.sort_events.new.events.items c.requires.start.made c.in_ok-events.ensures.drawn c.sort_events.ensures.permutation
    (record { ordered = c.in_ok-sort_events.ensures.ordered; stable = c.sort_events.ensures.stable }))
