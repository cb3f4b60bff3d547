use Rattle.std.proofs.Common.{◌≡◌, ◌+◌, ◌<◌, ◌≤◌, arith, ap, refl, sym, subst, length}
use Rattle.std.specs.Prelude.{vec_capacity}
use Rattle.og_runs.specs.World.{without}
use Rattle.og_runs.proofs.Shown.{slice_get_some}
use Rattle.og_flight.specs.Flight.{Flying}
use Rattle.og_choices.specs.Choices.{Offer}
use Rattle.og_choices.proofs.Changes.{acts_counted, taking}
use Rattle.og_choices.proofs.Choices.take_at.Goals as goal

pub remove-turn-requires : goal.remove-turn-requires
remove-turn-requires g c =
    let o : Offer _ = record { flight = c.self.inside.flight; nodes = c.self.inside.nodes; ready = c.self.inside.ready; last = c.self.inside.last } in
    let lt : c.args.k < length c.self.inside.flight.messages = subst (λ (o : Offer _). c.args.k < length o.flight.messages) (sym c.self.view_is) c.requires in
    let x = slice_get_some c.self.inside.flight.messages c.args.k lt in
    let taken = taking o c.self.inside.turns.items x.0 c.args.k c.acts_below-acts.result c.receiver-receiver.result (record { messages = without x.0.id c.self.inside.flight.messages; room = c.self.inside.flight.room }) c.self.invariant.turns c.stays_sound.ensures.order c.stays_sound.ensures.distinct x.1
    (sym (c.receiver-receiver.ensures x.0 x.1)) (acts_counted o (c.from.result + 1) c.receiver-receiver.result c.acts_below-acts.result c.acts_below-acts.ensures.acts (omega arith)) refl in
    let inside : c.args.k + c.acts_below-acts.result < length c.self.inside.turns.items = taken.inside in
    omega (arith, c.self.inside.turns.ok.0)

pub invariant_of-self : goal.invariant_of-self
invariant_of-self g c =
    let o : Offer _ = record { flight = c.self.inside.flight; nodes = c.self.inside.nodes; ready = c.self.inside.ready; last = c.self.inside.last } in
    record {
      turns = (taking o c.self.inside.turns.items c.take_at.result c.args.k c.acts_below-acts.result c.receiver-receiver.result c.take_at.new.self c.self.invariant.turns c.stays_sound.ensures.order c.stays_sound.ensures.distinct c.take_at.ensures.taken (sym (c.receiver-receiver.ensures c.take_at.result c.take_at.ensures.taken))
          (acts_counted o (c.from.result + 1) c.receiver-receiver.result c.acts_below-acts.result c.acts_below-acts.ensures.acts (omega arith)) c.take_at.ensures.left).are c.remove-turn.new.self.items c.remove-turn.ensures.items;
      few = c.self.invariant.few;
      room = (let same : c.take_at.new.self.room ≡ c.self.inside.flight.room = ap (λ (f : Flying _). f.room) c.take_at.ensures.left in let kept : vec_capacity c.remove-turn.new.self ≡ vec_capacity c.self.inside.turns = c.remove-turn.ensures.capacity in let enough : c.self.inside.flight.room + 129 ≤ vec_capacity c.self.inside.turns = c.self.invariant.room in omega arith);
    }
