use Rattle.std.proofs.Common.{sym, subst, Bool}
use Rattle.og_headline.specs.Headline.{IsReplay}
use Rattle.og_engine.specs.Kept.{setup_in}
use Rattle.og_driver.proofs.Following.{replayed}
use Rattle.og_driver.proofs.replay.Goals as goal

pub quiet-requires : goal.quiet-requires
quiet-requires c = record { made = (c.args.image.now, c.follow.ensures.made) }

pub returns-clause-run : goal.returns-clause-run
returns-clause-run c =
    subst (λ (b : Bool). IsReplay (setup_in c.args.image.now c.args.machine.now) c.args.choices.now c.sort_events.new.events.items b) (sym c.quiet.ensures)
    (replayed c.args.image.now c.args.machine.now c.follow.new.machine c.args.choices.now c.in_ok-events.events.items c.sort_events.new.events.items c.requires.start.made c.in_ok-events.ensures.run (record { ordered = c.in_ok-sort_events.ensures.ordered; stable = c.sort_events.ensures.stable }))
