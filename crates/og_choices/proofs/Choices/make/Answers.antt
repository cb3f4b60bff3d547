use Rattle.std.proofs.Common.{◌≡◌, ◌≤◌, ◌+◌, ap, arith}
use Rattle.std.specs.Prelude.{vec_capacity}
use Rattle.og_flight.specs.Flight.{Flying}
use Rattle.og_choices.proofs.Changes.{no_turns}
use Rattle.og_choices.proofs.Choices.make.Goals as goal

pub invariant_of-result : goal.invariant_of-result
invariant_of-result g c =
    let same : c.in_ok-flight.flight.room ≡ c.args.room = ap (λ (f : Flying _). f.room) c.in_ok-flight.ensures in
    let enough : c.args.room + 129 ≤ vec_capacity c.in_ok-turns.turns = c.in_ok-turns.ensures.capacity in
    record {
      turns = no_turns c.in_ok-flight.flight c.args.nodes c.in_ok-turns.turns.items (ap (λ (f : Flying _). f.messages) c.in_ok-flight.ensures) c.in_ok-turns.ensures.items;
      few = c.requires.few;
      room = omega arith;
    }
