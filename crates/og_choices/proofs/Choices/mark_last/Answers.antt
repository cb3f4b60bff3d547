use Rattle.std.proofs.Common.{◌≡◌, ◌∙◌, ◌+◌, ◌≤◌, ℕ, arith, ap, length, refl}
use Rattle.std.specs.Prelude.{vec_capacity}
use Rattle.og_flight.specs.Flight.{messages_below}
use Rattle.og_choices.specs.Marks.{marks_below}
use Rattle.og_choices.specs.Choices.{Offer, count_of}
use Rattle.og_choices.proofs.Counts.{below_few}
use Rattle.og_choices.proofs.Changes.{Turning, count_few, turns_few, differs, last_turning}
use Rattle.og_choices.proofs.Choices.mark_last.Goals as goal

pub overflow_add-at : goal.overflow_add-at
overflow_add-at g c =
    let few : length (messages_below c.from.result c.self.inside.flight.messages) ≤ length c.self.inside.flight.messages = below_few c.from.result c.self.inside.flight.messages in
    let within : length c.self.inside.flight.messages ≤ length c.self.inside.turns.items = turns_few (record { flight = c.self.inside.flight; nodes = c.self.inside.nodes; ready = c.self.inside.ready; last = c.self.inside.last }) c.self.inside.turns.items c.self.invariant.turns in
    let marks : c.count_below.result ≤ 128 = c.count_below.ensures.few in
    omega (arith, c.self.inside.turns.ok.0)

turning : (g : _) (c : goal.After-turn-arg-1 g) → Turning (record { flight = c.self.inside.flight; nodes = c.self.inside.nodes; ready = c.self.inside.ready; last = c.args.on }) c.self.inside.turns.items c.self.inside.nodes (c.below.result + c.count_below.result) c.args.on
turning g c =
    let o : Offer _ = record { flight = c.self.inside.flight; nodes = c.self.inside.nodes; ready = c.self.inside.ready; last = c.self.inside.last } in
    let below : c.below.result ≡ length (messages_below c.self.inside.nodes c.self.inside.flight.messages) = c.below.ensures ∙ ap (λ (a : ℕ). length (messages_below a c.self.inside.flight.messages)) c.from.ensures in
    let marks : c.count_below.result ≡ marks_below c.self.inside.ready c.self.inside.nodes = c.count_below.ensures.count in
    last_turning o c.self.inside.turns.items (c.below.result + c.count_below.result) c.args.on c.self.invariant.turns (differs c.self.inside.last c.self.inside.last c.args.on refl c.if-self-on.false) (omega arith)

pub turn-requires-clause-inside : goal.turn-requires-clause-inside
turn-requires-clause-inside g c = (turning g c).inside

pub turn-requires-clause-there : goal.turn-requires-clause-there
turn-requires-clause-there g c = (turning g c).there

pub turn-requires-clause-room : goal.turn-requires-clause-room
turn-requires-clause-room g c = λ on.
    let more : length c.self.inside.turns.items + 1 ≡ count_of (record { flight = c.self.inside.flight; nodes = c.self.inside.nodes; ready = c.self.inside.ready; last = c.args.on }) = (turning g c).more on in
    let few : count_of (record { flight = c.self.inside.flight; nodes = c.self.inside.nodes; ready = c.self.inside.ready; last = c.args.on }) ≤ length c.self.inside.flight.messages + 129 = count_few (record { flight = c.self.inside.flight; nodes = c.self.inside.nodes; ready = c.self.inside.ready; last = c.args.on }) c.self.invariant.few in
    let within : length c.self.inside.flight.messages ≤ c.self.inside.flight.room = c.stays_sound.ensures.within in
    let enough : c.self.inside.flight.room + 129 ≤ vec_capacity c.self.inside.turns = c.self.invariant.room in
    omega arith

pub invariant_of-self : goal.invariant_of-self
invariant_of-self g c =
    let kept : vec_capacity c.turn.new.turns ≡ vec_capacity c.self.inside.turns = c.turn.ensures.capacity in
    let enough : c.self.inside.flight.room + 129 ≤ vec_capacity c.self.inside.turns = c.self.invariant.room in
    record {
      turns = (turned).are c.turn.new.turns.items c.turn.ensures.put c.turn.ensures.removed;
      few = c.self.invariant.few;
      room = omega arith;
    }
  where
    turned : Turning (record { flight = c.self.inside.flight; nodes = c.self.inside.nodes; ready = c.self.inside.ready; last = c.args.on }) c.self.inside.turns.items c.self.inside.nodes (c.below.result + c.count_below.result) c.args.on
    turned =
        let o : Offer _ = record { flight = c.self.inside.flight; nodes = c.self.inside.nodes; ready = c.self.inside.ready; last = c.self.inside.last } in
        let below : c.below.result ≡ length (messages_below c.self.inside.nodes c.self.inside.flight.messages) = c.below.ensures ∙ ap (λ (a : ℕ). length (messages_below a c.self.inside.flight.messages)) c.from.ensures in
        let marks : c.count_below.result ≡ marks_below c.self.inside.ready c.self.inside.nodes = c.count_below.ensures.count in
        last_turning o c.self.inside.turns.items (c.below.result + c.count_below.result) c.args.on c.self.invariant.turns (differs c.self.inside.last c.self.inside.last c.args.on refl c.if-self-on.false) (omega arith)
