use Rattle.std.proofs.Common.{◌+◌, List, subst, sym}
use Rattle.std.proofs.lemmas.Option.{slice_get-get_or}
use Rattle.og_runs.specs.declared.Event.{Event}
use Rattle.og_msg.specs.declared.Note.{Note}
use Rattle.og_driver.proofs.Following.{Followed, followed_next}
use Rattle.og_driver.proofs.follow.Goals as goal

pub loop-at-preserved : goal.loop-at-preserved
loop-at-preserved c =
    subst (λ (l : List (Event Note)). Followed c.args.image.now c.args.machine.now c.step.new.self c.args.choices.now (c.loop-at.at + 1) l) (sym c.in_ok-keep-in-Ok.ensures)
    (followed_next c.args.image.now c.args.machine.now c.loop-at.machine c.step.new.self c.args.choices.now c.loop-at.at c.loop-at.events.items _ c.in-Ok.event c.loop-at.invariant
    (slice_get-get_or c.args.choices.now c.loop-at.at _ c.loop-at-test.true) c.in-Ok.ensures.made c.in-Ok.ensures.settings c.in-Ok.ensures.stays_made c.in-Ok.ensures.counted)
