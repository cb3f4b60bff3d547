use Rattle.std.proofs.Common.{◌≡◌, ◌∙◌, None, List, length, ap, subst}
use Rattle.og_runs.specs.declared.Event.{Event}
use Rattle.og_msg.specs.declared.Note.{Note}
use Rattle.og_image.specs.Image.{ImageState}
use Rattle.og_machine.specs.Machine.{Setup, setup_of}
use Rattle.og_headline.specs.Headline.{drawn}
use Rattle.og_refine.specs.Machines.{IsRunnable}
use Rattle.og_engine.specs.Kept.{machine_of}
use Rattle.og_driver.specs.Tallied.{moves_of}
use Rattle.og_print.specs.Runs.{frames_fault}
use Rattle.og_print.specs.Storm.{storm_setup}
use Rattle.og_print.proofs.Stormed.{storm_ends}
use Rattle.og_print.proofs.storm.print_storm.Goals as goal

pub returns : goal.returns
returns g c =
    let setup : _ ≡ storm_setup c.args.number c.args.loops c.args.settings.now = c.in_ok-machine.ensures.setup ∙ ap (λ (i : ImageState). setup_of i c.args.settings.now) c.in_ok-image.ensures in
    let events : List (Event Note) = (drawn (storm_setup c.args.number c.args.loops c.args.settings.now) c.args.number c.args.most).1 in
    let run : (machine_of c.survey-tally.new.machine, events) ≡ drawn (storm_setup c.args.number c.args.loops c.args.settings.now) c.args.number c.args.most =
    ap (λ w. (w, events)) (c.survey-tally.ensures.end ∙ ap (λ (s : Setup). (drawn s c.args.number c.args.most).0) setup) in
    storm_ends c.args.number c.args.loops c.args.settings.now c.args.most (g.K.Sink.seen c.args.out.now) (g.K.Sink.seen c.write_storm.new.out) _ c.write_storm.result
    (subst (λ (i : ImageState). frames_fault i c.args.settings.now ≡ None) c.in_ok-image.ensures c.in_ok-machine.ensures.frames)
    (subst (λ (s : Setup). IsRunnable s) setup c.in_ok-machine.ensures.start.made.2.runnable) run
    (c.write_storm.ensures events
    (c.survey-tally.ensures.events ∙ ap (λ (s : Setup). length (drawn s c.args.number c.args.most).1) setup)
    (c.survey-tally.ensures.moves ∙ ap (λ (s : Setup). moves_of (drawn s c.args.number c.args.most).1) setup))
