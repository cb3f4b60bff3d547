use Rattle.std.proofs.Common.{Bool, sym, subst}
use Rattle.og_engine.specs.Kept.{machine_of, setup_in}
use Rattle.og_finish.specs.Finish.{IsThreadRun}
use Rattle.og_finish.proofs.Finished.{thread_run}
use Rattle.og_finish.proofs.finish_run.Goals as goal

pub returns-clause-run : goal.returns-clause-run
returns-clause-run c =
    subst (λ (b : Bool). IsThreadRun (setup_in c.args.image.now c.args.machine.now) c.args.most c.args.merged.now c.sort_events.new.events.items b) (sym c.quiet.ensures)
    (thread_run (setup_in c.args.image.now c.args.machine.now) c.args.most c.args.merged.now (machine_of c.make_all.new.machine) c.in_ok-events.events.items c.sort_events.new.events.items c.requires.start.made.2.runnable c.requires.few c.in_ok-events.ensures.finished c.sort_events.ensures.permutation
    (record { ordered = c.in_ok-sort_events.ensures.ordered; stable = c.sort_events.ensures.stable }))
