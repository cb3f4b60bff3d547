use Rattle.std.proofs.Common.{◌≡◌, ◌+◌, ◌≤◌, arith, length}
use Rattle.og_choices.specs.Choices.{Offer, count_of}
use Rattle.og_choices.proofs.Changes.{count_few}
use Rattle.og_choices.proofs.Choices.count.Goals as goal

pub returns-clause-few : goal.returns-clause-few
returns-clause-few g c =
    let o : Offer _ = record { flight = c.self.inside.flight; nodes = c.self.inside.nodes; ready = c.self.inside.ready; last = c.self.inside.last } in
    let all : length c.self.inside.turns.items ≡ count_of o = c.self.invariant.turns.all in
    let few : count_of o ≤ length c.self.inside.flight.messages + 129 = count_few o c.self.invariant.few in
    let within : length c.self.inside.flight.messages ≤ c.self.inside.flight.room = c.stays_sound.ensures.within in
    omega (arith, c.self.inside.turns.ok.0, c.stays_sound.ensures.small)
