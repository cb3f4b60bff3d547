use Rattle.std.proofs.Common.{◌≡◌, ◌+◌, ◌<◌, ◌≤◌, arith, ap, sym, subst, length}
use Rattle.std.specs.Prelude.{vec_capacity}
use Rattle.og_flight.specs.Flight.{Flying}
use Rattle.og_runs.proofs.Shown.{slice_get_below}
use Rattle.og_choices.specs.Choices.{Offer, count_of}
use Rattle.og_choices.proofs.Changes.{acts_counted, sending, count_few}
use Rattle.og_choices.proofs.Choices.send.Goals as goal

pub overflow_add-k : goal.overflow_add-k
overflow_add-k g c =
    let inside : c.send-k.result < length c.send-k.new.self.messages = slice_get_below c.send-k.new.self.messages c.send-k.result c.args.message c.send-k.ensures.place in
    let few : c.acts_below-acts.result ≤ 129 = c.acts_below-acts.ensures.few in
    let within : length c.send-k.new.self.messages ≤ c.send-k.new.self.room = c.stays_sound.ensures.within in
    omega arith

pub put-requires-clause-within : goal.put-requires-clause-within
put-requires-clause-within g c =
    let o : Offer _ = record { flight = c.self.inside.flight; nodes = c.self.inside.nodes; ready = c.self.inside.ready; last = c.self.inside.last } in
    (sending o c.self.inside.turns.items c.args.message c.send-k.result c.acts_below-acts.result c.send-k.new.self c.self.invariant.turns c.send-k.ensures.sent c.stays_sound.ensures.order c.send-k.ensures.place (acts_counted o (c.from.result + 1) c.args.message.to c.acts_below-acts.result c.acts_below-acts.ensures.acts (omega arith))).inside

pub put-requires-clause-room : goal.put-requires-clause-room
put-requires-clause-room g c =
    let o : Offer _ = record { flight = c.self.inside.flight; nodes = c.self.inside.nodes; ready = c.self.inside.ready; last = c.self.inside.last } in
    let all : length c.self.inside.turns.items ≡ count_of o = c.self.invariant.turns.all in
    let few : count_of o ≤ length c.self.inside.flight.messages + 129 = count_few o c.self.invariant.few in
    let room : length c.self.inside.flight.messages < c.self.inside.flight.room = subst (λ (p : Offer _). length p.flight.messages < p.flight.room) (sym c.self.view_is) c.requires.room in
    let enough : c.self.inside.flight.room + 129 ≤ vec_capacity c.self.inside.turns = c.self.invariant.room in
    omega arith

pub invariant_of-self : goal.invariant_of-self
invariant_of-self g c =
    let o : Offer _ = record { flight = c.self.inside.flight; nodes = c.self.inside.nodes; ready = c.self.inside.ready; last = c.self.inside.last } in
    record {
      turns = (sending o c.self.inside.turns.items c.args.message c.send-k.result c.acts_below-acts.result c.send-k.new.self c.self.invariant.turns c.send-k.ensures.sent c.stays_sound.ensures.order c.send-k.ensures.place (acts_counted o (c.from.result + 1) c.args.message.to c.acts_below-acts.result c.acts_below-acts.ensures.acts (omega arith))).are c.put.new.items.items c.put.ensures.items;
      few = c.self.invariant.few;
      room = (let same : c.send-k.new.self.room ≡ c.self.inside.flight.room = ap (λ (f : Flying _). f.room) c.send-k.ensures.sent in let kept : vec_capacity c.put.new.items ≡ vec_capacity c.self.inside.turns = c.put.ensures.capacity in let enough : c.self.inside.flight.room + 129 ≤ vec_capacity c.self.inside.turns = c.self.invariant.room in omega arith);
    }
