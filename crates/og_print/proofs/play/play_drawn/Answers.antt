use Rattle.std.proofs.Common.{refl, subst}
use Rattle.og_machine.specs.Machine.{Setup}
use Rattle.og_headline.specs.Headline.{IsSimulation}
use Rattle.og_print.specs.Runs.{by_draws}
use Rattle.og_print.proofs.Played.{text_plays}
use Rattle.og_print.proofs.play.play_drawn.Goals as goal

pub returns : goal.returns
returns g c =
    text_plays c.args.image.now c.args.settings.now (by_draws c.args.number c.args.most) _ _ (g.K.Sink.seen c.args.out.now) (g.K.Sink.seen c.print_run.new.out) c.print_run.result c.in_ok-machine.ensures.frames
    (record { events = _; run = subst (λ (s : Setup). IsSimulation s c.args.number c.args.most c.in_ok-made.made.events.items c.in_ok-made.made.quiet) c.in_ok-machine.ensures.setup c.in_ok-made.ensures.run; text_is = refl }) c.print_run.ensures
