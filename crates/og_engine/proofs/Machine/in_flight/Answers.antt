use Rattle.std.proofs.Common.{◌∙◌, ap, length}
use Rattle.og_flight.specs.Flight.{Flying}
use Rattle.og_msg.specs.declared.Kind.{Kind}
use Rattle.og_engine.specs.Kept.{KeptMachine, machine_of}
use Rattle.og_engine.proofs.Machine.in_flight.Goals as goal

pub returns : goal.returns
unfolding machine_of
returns c = c.len.ensures.value ∙ ap (λ (f : Flying Kind). length f.messages) c.flight.ensures ∙ ap (λ (m : KeptMachine). length m.flight.messages) c.self.view_is
