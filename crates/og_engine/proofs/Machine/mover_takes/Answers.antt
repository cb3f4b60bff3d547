use Rattle.std.proofs.Common.{◌+◌, ◌≡◌, ◌≤◌, ◌∙◌, length, arith, sym, ap, subst}
use Rattle.og_flight.specs.Flight.{Flying}
use Rattle.og_msg.specs.declared.Kind.{Kind}
use Rattle.og_mover.specs.Table.{take_of as mover_take}
use Rattle.og_runs.specs.declared.Choice.TheVariants.{Take}
use Rattle.og_choices.specs.Choices.{Offer}
use Rattle.og_engine.specs.Kept.{KeptMachine, HaveRoom}
use Rattle.og_engine.proofs.Moved.{Stepped}
use Rattle.og_engine.proofs.Takes.{mover_may_take, mover_took_as, not_found, inside_flight, found_at}
use Rattle.og_engine.proofs.Machine.mover_takes.Goals as goal

pub returns-in_default-clause-refused : goal.returns-in_default-clause-refused
returns-in_default-clause-refused c =
    let k : KeptMachine = record { settings = c.self.inside.settings; nodes = c.self.inside.nodes.items; mover = c.self.inside.mover; flight = c.self.inside.choices.flight; events = c.self.inside.events; ready = c.self.inside.choices.ready; mover_ready = c.self.inside.choices.last; running = c.self.inside.running } in
    let le : c.args.actor ≤ length c.args.self.now.nodes = let at : c.args.actor ≡ length c.args.self.now.nodes = c.requires.mover in omega arith in
    not_found c.args.image.now k c.args.self.now c.args.actor c.args.id c.flight.result.now c.self.view_is le c.flight.ensures (c.place.ensures.missing c.in_default.is)

pub take_at-message-requires : goal.take_at-message-requires
take_at-message-requires c = inside_flight c.flight.result.now c.self.inside.choices.flight c.in-Some.k c.flight.ensures (c.place.ensures.within c.in-Some.k c.in-Some.is)

pub take_of_mover-event-requires-clause-row : goal.take_of_mover-event-requires-clause-row
take_of_mover-event-requires-clause-row c =
    let k : KeptMachine = record { settings = c.self.inside.settings; nodes = c.self.inside.nodes.items; mover = c.self.inside.mover; flight = c.self.inside.choices.flight; events = c.self.inside.events; ready = c.self.inside.choices.ready; mover_ready = c.self.inside.choices.last; running = c.self.inside.running } in
    (mover_may_take c.args.image.now k c.args.self.now c.args.actor c.args.id c.take_at-message.result c.self.view_is c.requires.made c.requires.young c.requires.mover (found_at c.args.actor c.args.id c.flight.result.now c.self.inside.choices.flight c.in-Some.k c.take_at-message.result c.flight.ensures (c.place.ensures.there c.in-Some.k c.in-Some.is) c.take_at-message.ensures.taken)).row

pub take_of_mover-event-requires-clause-young : goal.take_of_mover-event-requires-clause-young
take_of_mover-event-requires-clause-young c =
    let k : KeptMachine = record { settings = c.self.inside.settings; nodes = c.self.inside.nodes.items; mover = c.self.inside.mover; flight = c.self.inside.choices.flight; events = c.self.inside.events; ready = c.self.inside.choices.ready; mover_ready = c.self.inside.choices.last; running = c.self.inside.running } in
    (mover_may_take c.args.image.now k c.args.self.now c.args.actor c.args.id c.take_at-message.result c.self.view_is c.requires.made c.requires.young c.requires.mover (found_at c.args.actor c.args.id c.flight.result.now c.self.inside.choices.flight c.in-Some.k c.take_at-message.result c.flight.ensures (c.place.ensures.there c.in-Some.k c.in-Some.is) c.take_at-message.ensures.taken)).young

pub take_of_mover-event-requires-clause-room : goal.take_of_mover-event-requires-clause-room
take_of_mover-event-requires-clause-room c =
    let k : KeptMachine = record { settings = c.self.inside.settings; nodes = c.self.inside.nodes.items; mover = c.self.inside.mover; flight = c.self.inside.choices.flight; events = c.self.inside.events; ready = c.self.inside.choices.ready; mover_ready = c.self.inside.choices.last; running = c.self.inside.running } in
    subst (λ (f : Flying Kind). HaveRoom c.take_at-message.result.to c.self.inside.mover.next (mover_take c.self.inside.mover.local c.take_at-message.result).letters f) (sym (ap (λ (o : Offer Kind). o.flight) c.take_at-message.ensures.left)) (mover_may_take c.args.image.now k c.args.self.now c.args.actor c.args.id c.take_at-message.result c.self.view_is c.requires.made c.requires.young c.requires.mover (found_at c.args.actor c.args.id c.flight.result.now c.self.inside.choices.flight c.in-Some.k c.take_at-message.result c.flight.ensures (c.place.ensures.there c.in-Some.k c.in-Some.is) c.take_at-message.ensures.taken)).room

stepped : (c : goal.After-self-1) → Stepped c.args.image.now c.args.self.now (Take c.args.actor c.args.id)
    (record { settings = c.self.inside.settings; nodes = c.self.inside.nodes.items; mover = c.take_of_mover-event.new.seat; flight = c.mark_last.new.self.flight; events = c.self.inside.events + 1; ready = c.mark_last.new.self.ready; mover_ready = c.mark_last.new.self.last; running = c.self.inside.running }) c.take_of_mover-event.result
stepped c =
    let k : KeptMachine = record { settings = c.self.inside.settings; nodes = c.self.inside.nodes.items; mover = c.self.inside.mover; flight = c.self.inside.choices.flight; events = c.self.inside.events; ready = c.self.inside.choices.ready; mover_ready = c.self.inside.choices.last; running = c.self.inside.running } in
    mover_took_as c.args.image.now k c.args.self.now c.args.actor c.args.id c.take_at-message.result c.take_of_mover-event.new.seat c.take_at-message.new.self.flight c.take_of_mover-event.new.choices c.mark_last.new.self c.take_of_mover-event.result c.can_act.result c.self.view_is c.requires.made c.requires.mover (found_at c.args.actor c.args.id c.flight.result.now c.self.inside.choices.flight c.in-Some.k c.take_at-message.result c.flight.ensures (c.place.ensures.there c.in-Some.k c.in-Some.is) c.take_at-message.ensures.taken)
    (ap (λ (o : Offer Kind). o.flight) c.take_at-message.ensures.left) c.take_of_mover-event.ensures.moves
    (ap (λ (o : Offer Kind). o.ready) c.take_of_mover-event.ensures.same ∙ ap (λ (o : Offer Kind). o.ready) c.take_at-message.ensures.left) c.mark_last.ensures c.can_act.ensures

pub returns-clause-refused : goal.returns-clause-refused
returns-clause-refused c = sym (stepped c).free

pub returns-clause-made : goal.returns-clause-made
returns-clause-made c = (stepped c).step

pub returns-clause-stays_made : goal.returns-clause-stays_made
returns-clause-stays_made c = (stepped c).made

pub invariant_of-self : goal.invariant_of-self
invariant_of-self c = ap (λ (o : Offer Kind). o.nodes) c.mark_last.ensures ∙ ap (λ (o : Offer Kind). o.nodes) c.take_of_mover-event.ensures.same ∙ ap (λ (o : Offer Kind). o.nodes) c.take_at-message.ensures.left ∙ c.self.invariant
