use Rattle.std.proofs.Common.{None, get_or}
use Rattle.std.proofs.lemmas.Option.{slice_get-get_or}
use Rattle.og_runs.specs.declared.Choice.TheVariants.{Act}
use Rattle.og_runs.specs.declared.Event.{Event}
use Rattle.og_msg.specs.declared.Note.{Note}
use Rattle.og_finish.proofs.Begun.{begun_free, begun_next}
use Rattle.og_finish.proofs.begin.Goals as goal

-- what stands past the end of a list of events
abbrev past_end : Event Note
past_end = record { choice = Act 0; stamp = record { clock = 0; actor = 0 }; note = None }

pub make-requires-clause-free : goal.make-requires-clause-free
make-requires-clause-free c =
    begun_free c.args.image.now c.args.machine.now c.loop-at.machine c.args.merged.now c.loop-at.at c.loop-at.events.items (get_or c.args.merged.now c.loop-at.at past_end) c.loop-at.invariant
    (slice_get-get_or c.args.merged.now c.loop-at.at past_end c.loop-at-test.true)

pub loop-at-preserved : goal.loop-at-preserved
loop-at-preserved c =
    begun_next c.args.image.now c.args.machine.now c.loop-at.machine c.make.new.machine c.args.merged.now c.loop-at.at c.loop-at.events.items c.make.new.events.items (get_or c.args.merged.now c.loop-at.at past_end) c.loop-at.invariant
    (slice_get-get_or c.args.merged.now c.loop-at.at past_end c.loop-at-test.true) c.in_ok-make.ensures.makes c.make.ensures.settings c.make.ensures.stays_made
