use Rattle.std.proofs.Common.{ℕ, ap, length}
use Rattle.og_trace.specs.declared.item.End.{End}
use Rattle.og_trace.specs.Text.{head_of}
use Rattle.og_trace.proofs.Written.{all_written}
use Rattle.og_trace.proofs.write.write_text.Goals as goal

pub returns : goal.returns
returns c =
    all_written (head_of c.args.settings.now) c.args.events.now c.args.quiet _ c.loop-event.event-index c.loop-event.text.items c.push_line-2.new.text.items c.loop-event.invariant c.loop-event-test.false
    (ap (λ (n : ℕ). let e : End = record { quiet = c.args.quiet; events = length c.args.events.now; accesses = n } in e) c.count_accesses.ensures) c.in_ok-push_line-2.ensures
