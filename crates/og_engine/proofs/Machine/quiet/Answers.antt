use Rattle.std.proofs.Common.{◌∙◌, ap, sym, length}
use Rattle.og_flight.specs.Flight.{Flying}
use Rattle.og_msg.specs.declared.Kind.{Kind}
use Rattle.og_engine.specs.Kept.{KeptMachine}
use Rattle.og_engine.proofs.Counts.{quiet_when_rests, not_quiet_in_flight, not_quiet_running}
use Rattle.og_engine.proofs.Machine.quiet.Goals as goal

pub returns-then-len-eq0 : goal.returns-then-len-eq0
returns-then-len-eq0 c = quiet_when_rests c.args.self.now c.rests.result c.len.result (sym c.stopped.ensures ∙ c.if-stopped.true) (c.len.ensures.value ∙ ap (λ (f : Flying Kind). length f.messages) c.flight.ensures ∙ ap (λ (m : KeptMachine). length m.flight.messages) c.self.view_is) c.if-len-eq0.true c.rests.ensures

pub returns-else-len-eq0 : goal.returns-else-len-eq0
returns-else-len-eq0 c = not_quiet_in_flight c.args.self.now c.len.result (sym c.stopped.ensures ∙ c.if-stopped.true) (c.len.ensures.value ∙ ap (λ (f : Flying Kind). length f.messages) c.flight.ensures ∙ ap (λ (m : KeptMachine). length m.flight.messages) c.self.view_is) c.if-len-eq0.false

pub returns-else-stopped : goal.returns-else-stopped
returns-else-stopped c = not_quiet_running c.args.self.now c.stopped.result c.stopped.ensures c.if-stopped.false
