use Rattle.std.proofs.Common.{◌≡◌, ◌+◌, ◌*◌, ℕ, List, refl, subst}
use Rattle.og_runs.specs.declared.Event.{Event}
use Rattle.og_msg.specs.declared.Note.{Note}
use Rattle.og_machine.specs.Machine.{Setup, setup_of}
use Rattle.og_engine.specs.Kept.{setup_in}
use Rattle.og_finish.specs.Finish.{IsThreadRun}
use Rattle.og_print.proofs.Played.{text_plays}
use Rattle.og_run.specs.Threaded.{IsThreaded, by_threads}
use Rattle.og_run.proofs.file.play_threads.Goals as goal

pub returns : goal.returns
returns g c =
    let setup : setup_in c.args.image.now c.in_ok-machine.machine ≡ setup_of c.args.image.now c.args.settings.now = c.in_ok-machine.ensures.setup in
    let finished : IsThreadRun (setup_of c.args.image.now c.args.settings.now) (c.args.rounds * c.args.turns * (c.args.settings.now.nodes + 1)) c.in_ok-begun.begun.events.items c.in_ok-run.run'.events.items c.in_ok-run.run'.quiet =
    subst (λ (s : Setup). IsThreadRun s (c.args.rounds * c.args.turns * (c.args.settings.now.nodes + 1)) c.in_ok-begun.begun.events.items c.in_ok-run.run'.events.items c.in_ok-run.run'.quiet) setup
    (subst (λ (n : ℕ). IsThreadRun (setup_in c.args.image.now c.in_ok-machine.machine) (c.args.rounds * c.args.turns * (n + 1)) c.in_ok-begun.begun.events.items c.in_ok-run.run'.events.items c.in_ok-run.run'.quiet) c.from.ensures
    (subst (λ (es : List (Event Note)). IsThreadRun (setup_in c.args.image.now c.in_ok-machine.machine) (c.args.rounds * c.args.turns * (c.from.result + 1)) es c.in_ok-run.run'.events.items c.in_ok-run.run'.quiet) c.deref.ensures.value c.in_ok-run.ensures.run)) in
    let threaded : IsThreaded (setup_of c.args.image.now c.args.settings.now) c.args.rounds c.args.turns c.in_ok-run.run'.events.items c.in_ok-run.run'.quiet = record {
      logs = c.in_ok-begun.begun.logs.items;
      left = c.in_ok-begun.begun.left.items;
      are_logs = c.in_ok-begun.ensures.logs;
      merged = c.in_ok-begun.begun.events.items;
      are_merged = c.in_ok-begun.ensures.merged;
      ended = c.in_ok-begun.begun.rounds;
      run = c.in_ok-begun.ensures.run;
      counted = c.in_ok-begun.ensures.counted;
      finished = finished;
    } in
    text_plays c.args.image.now c.args.settings.now (by_threads c.args.rounds c.args.turns) _ _ (g.K.Sink.seen c.args.out.now) (g.K.Sink.seen c.print_run.new.out) c.print_run.result c.in_ok-machine.ensures.frames
    (record { events = _; run = threaded; text_is = refl }) c.print_run.ensures
