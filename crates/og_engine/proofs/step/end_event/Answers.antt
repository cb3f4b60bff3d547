use Rattle.std.proofs.Common.{◌∙◌, List, ap, sym}
use Rattle.og_runs.specs.declared.Letter.{Letter}
use Rattle.og_flight.specs.Flight.{Flying}
use Rattle.og_msg.specs.declared.Kind.{Kind}
use Rattle.og_choices.specs.Choices.{Offer}
use Rattle.og_engine.specs.Kept.{with_letters}
use Rattle.og_engine.proofs.step.end_event.Goals as goal

pub returns-clause-flight : goal.returns-clause-flight
returns-clause-flight g c = ap (λ (o : Offer Kind). o.flight) c.post.ensures ∙ ap (λ (ls : List (Letter Kind)). with_letters c.args.stamp.actor c.args.stamp.clock c.args.seat.now.next ls c.args.choices.now.flight) c.letters-letters.ensures.letters

pub returns-clause-same : goal.returns-clause-same
returns-clause-same g c = c.post.ensures ∙ ap (λ (f : Flying Kind). record c.args.choices.now { flight = f }) (sym (ap (λ (o : Offer Kind). o.flight) c.post.ensures))
