use Rattle.std.proofs.Common.{◌+◌, ◌∙◌, ◌≤◌, ◌<◌, length, arith, sym, ap, subst}
use Rattle.std.specs.Prelude.{slice_set}
use Rattle.og_flight.specs.Flight.{Flying}
use Rattle.og_msg.specs.declared.Kind.{Kind}
use Rattle.og_node.specs.Kept.{node_of}
use Rattle.og_node.specs.Node.{take_of as node_take}
use Rattle.og_runs.specs.declared.Choice.TheVariants.{Take}
use Rattle.og_choices.specs.Choices.{Offer}
use Rattle.og_engine.specs.Kept.{KeptMachine, HaveRoom}
use Rattle.og_engine.proofs.Moved.{Stepped}
use Rattle.og_engine.proofs.Acts.{marked_back}
use Rattle.og_engine.proofs.Counts.{few_seats, node_inside}
use Rattle.og_engine.proofs.Takes.{node_may_take, node_took_as, not_found, inside_flight, found_at}
use Rattle.og_engine.proofs.Machine.node_takes.Goals as goal

pub returns-in_default-clause-refused : goal.returns-in_default-clause-refused
returns-in_default-clause-refused c =
    let k : KeptMachine = record { settings = c.self.inside.settings; nodes = c.self.inside.nodes.items; mover = c.self.inside.mover; flight = c.self.inside.choices.flight; events = c.self.inside.events; ready = c.self.inside.choices.ready; mover_ready = c.self.inside.choices.last; running = c.self.inside.running } in
    let le : c.args.actor ≤ length c.args.self.now.nodes = let at : c.args.actor < length c.args.self.now.nodes = c.requires.node in omega arith in
    not_found c.args.image.now k c.args.self.now c.args.actor c.args.id c.flight.result.now c.self.view_is le c.flight.ensures (c.place.ensures.missing c.in_default.is)

pub take_at-message-requires : goal.take_at-message-requires
take_at-message-requires c = inside_flight c.flight.result.now c.self.inside.choices.flight c.in-Some.k c.flight.ensures (c.place.ensures.within c.in-Some.k c.in-Some.is)

pub take_of_node-event-requires-clause-row : goal.take_of_node-event-requires-clause-row
take_of_node-event-requires-clause-row c =
    let k : KeptMachine = record { settings = c.self.inside.settings; nodes = c.self.inside.nodes.items; mover = c.self.inside.mover; flight = c.self.inside.choices.flight; events = c.self.inside.events; ready = c.self.inside.choices.ready; mover_ready = c.self.inside.choices.last; running = c.self.inside.running } in
    (node_may_take c.args.image.now k c.args.self.now c.from-at.result c.args.actor c.args.id c.take_at-message.result c.index_mut.result.now c.self.view_is c.requires.made c.requires.young c.from-at.ensures c.requires.node (found_at c.args.actor c.args.id c.flight.result.now c.self.inside.choices.flight c.in-Some.k c.take_at-message.result c.flight.ensures (c.place.ensures.there c.in-Some.k c.in-Some.is) c.take_at-message.ensures.taken) c.index_mut.ensures.value).row

pub take_of_node-event-requires-clause-sound : goal.take_of_node-event-requires-clause-sound
take_of_node-event-requires-clause-sound c =
    let k : KeptMachine = record { settings = c.self.inside.settings; nodes = c.self.inside.nodes.items; mover = c.self.inside.mover; flight = c.self.inside.choices.flight; events = c.self.inside.events; ready = c.self.inside.choices.ready; mover_ready = c.self.inside.choices.last; running = c.self.inside.running } in
    (node_may_take c.args.image.now k c.args.self.now c.from-at.result c.args.actor c.args.id c.take_at-message.result c.index_mut.result.now c.self.view_is c.requires.made c.requires.young c.from-at.ensures c.requires.node (found_at c.args.actor c.args.id c.flight.result.now c.self.inside.choices.flight c.in-Some.k c.take_at-message.result c.flight.ensures (c.place.ensures.there c.in-Some.k c.in-Some.is) c.take_at-message.ensures.taken) c.index_mut.ensures.value).sound

pub take_of_node-event-requires-clause-low : goal.take_of_node-event-requires-clause-low
take_of_node-event-requires-clause-low c =
    let k : KeptMachine = record { settings = c.self.inside.settings; nodes = c.self.inside.nodes.items; mover = c.self.inside.mover; flight = c.self.inside.choices.flight; events = c.self.inside.events; ready = c.self.inside.choices.ready; mover_ready = c.self.inside.choices.last; running = c.self.inside.running } in
    (node_may_take c.args.image.now k c.args.self.now c.from-at.result c.args.actor c.args.id c.take_at-message.result c.index_mut.result.now c.self.view_is c.requires.made c.requires.young c.from-at.ensures c.requires.node (found_at c.args.actor c.args.id c.flight.result.now c.self.inside.choices.flight c.in-Some.k c.take_at-message.result c.flight.ensures (c.place.ensures.there c.in-Some.k c.in-Some.is) c.take_at-message.ensures.taken) c.index_mut.ensures.value).low

pub take_of_node-event-requires-clause-low_message : goal.take_of_node-event-requires-clause-low_message
take_of_node-event-requires-clause-low_message c =
    let k : KeptMachine = record { settings = c.self.inside.settings; nodes = c.self.inside.nodes.items; mover = c.self.inside.mover; flight = c.self.inside.choices.flight; events = c.self.inside.events; ready = c.self.inside.choices.ready; mover_ready = c.self.inside.choices.last; running = c.self.inside.running } in
    (node_may_take c.args.image.now k c.args.self.now c.from-at.result c.args.actor c.args.id c.take_at-message.result c.index_mut.result.now c.self.view_is c.requires.made c.requires.young c.from-at.ensures c.requires.node (found_at c.args.actor c.args.id c.flight.result.now c.self.inside.choices.flight c.in-Some.k c.take_at-message.result c.flight.ensures (c.place.ensures.there c.in-Some.k c.in-Some.is) c.take_at-message.ensures.taken) c.index_mut.ensures.value).low_message

pub take_of_node-event-requires-clause-nodes : goal.take_of_node-event-requires-clause-nodes
take_of_node-event-requires-clause-nodes c =
    let k : KeptMachine = record { settings = c.self.inside.settings; nodes = c.self.inside.nodes.items; mover = c.self.inside.mover; flight = c.self.inside.choices.flight; events = c.self.inside.events; ready = c.self.inside.choices.ready; mover_ready = c.self.inside.choices.last; running = c.self.inside.running } in
    (node_may_take c.args.image.now k c.args.self.now c.from-at.result c.args.actor c.args.id c.take_at-message.result c.index_mut.result.now c.self.view_is c.requires.made c.requires.young c.from-at.ensures c.requires.node (found_at c.args.actor c.args.id c.flight.result.now c.self.inside.choices.flight c.in-Some.k c.take_at-message.result c.flight.ensures (c.place.ensures.there c.in-Some.k c.in-Some.is) c.take_at-message.ensures.taken) c.index_mut.ensures.value).few

pub take_of_node-event-requires-clause-young : goal.take_of_node-event-requires-clause-young
take_of_node-event-requires-clause-young c =
    let k : KeptMachine = record { settings = c.self.inside.settings; nodes = c.self.inside.nodes.items; mover = c.self.inside.mover; flight = c.self.inside.choices.flight; events = c.self.inside.events; ready = c.self.inside.choices.ready; mover_ready = c.self.inside.choices.last; running = c.self.inside.running } in
    (node_may_take c.args.image.now k c.args.self.now c.from-at.result c.args.actor c.args.id c.take_at-message.result c.index_mut.result.now c.self.view_is c.requires.made c.requires.young c.from-at.ensures c.requires.node (found_at c.args.actor c.args.id c.flight.result.now c.self.inside.choices.flight c.in-Some.k c.take_at-message.result c.flight.ensures (c.place.ensures.there c.in-Some.k c.in-Some.is) c.take_at-message.ensures.taken) c.index_mut.ensures.value).young

pub take_of_node-event-requires-clause-room : goal.take_of_node-event-requires-clause-room
take_of_node-event-requires-clause-room c =
    let k : KeptMachine = record { settings = c.self.inside.settings; nodes = c.self.inside.nodes.items; mover = c.self.inside.mover; flight = c.self.inside.choices.flight; events = c.self.inside.events; ready = c.self.inside.choices.ready; mover_ready = c.self.inside.choices.last; running = c.self.inside.running } in
    subst (λ (f : Flying Kind). HaveRoom c.take_at-message.result.to c.index_mut.result.now.next (node_take c.args.image.now (node_of c.index_mut.result.now.local) c.take_at-message.result).letters f) (sym (ap (λ (o : Offer Kind). o.flight) c.take_at-message.ensures.left)) (node_may_take c.args.image.now k c.args.self.now c.from-at.result c.args.actor c.args.id c.take_at-message.result c.index_mut.result.now c.self.view_is c.requires.made c.requires.young c.from-at.ensures c.requires.node (found_at c.args.actor c.args.id c.flight.result.now c.self.inside.choices.flight c.in-Some.k c.take_at-message.result c.flight.ensures (c.place.ensures.there c.in-Some.k c.in-Some.is) c.take_at-message.ensures.taken) c.index_mut.ensures.value).room

pub mark_node-self-inside-requires-clause-node : goal.mark_node-self-inside-requires-clause-node
mark_node-self-inside-requires-clause-node c =
    let k : KeptMachine = record { settings = c.self.inside.settings; nodes = c.self.inside.nodes.items; mover = c.self.inside.mover; flight = c.self.inside.choices.flight; events = c.self.inside.events; ready = c.self.inside.choices.ready; mover_ready = c.self.inside.choices.last; running = c.self.inside.running } in
    node_inside c.args.image.now k c.args.self.now c.args.actor c.take_of_node-event.new.choices.nodes c.self.view_is c.requires.made c.requires.node (ap (λ (o : Offer Kind). o.nodes) c.take_of_node-event.ensures.same ∙ ap (λ (o : Offer Kind). o.nodes) c.take_at-message.ensures.left ∙ c.self.invariant)

pub mark_node-self-inside-requires-clause-few : goal.mark_node-self-inside-requires-clause-few
mark_node-self-inside-requires-clause-few c =
    let k : KeptMachine = record { settings = c.self.inside.settings; nodes = c.self.inside.nodes.items; mover = c.self.inside.mover; flight = c.self.inside.choices.flight; events = c.self.inside.events; ready = c.self.inside.choices.ready; mover_ready = c.self.inside.choices.last; running = c.self.inside.running } in
    few_seats c.args.image.now k c.args.self.now c.args.actor c.self.view_is c.requires.made c.requires.node

stepped : (c : goal.After-self-3-1) → Stepped c.args.image.now c.args.self.now (Take c.args.actor c.args.id)
    (record { settings = c.self.inside.settings; nodes = slice_set c.self.inside.nodes.items c.from-at.result c.take_of_node-event.new.seat; mover = c.self.inside.mover; flight = c.mark_node-self-inside.new.choices.flight; events = c.self.inside.events + 1; ready = c.mark_node-self-inside.new.choices.ready; mover_ready = c.mark_node-self-inside.new.choices.last; running = c.mark_node-self-inside.result }) c.take_of_node-event.result
stepped c =
    let k : KeptMachine = record { settings = c.self.inside.settings; nodes = c.self.inside.nodes.items; mover = c.self.inside.mover; flight = c.self.inside.choices.flight; events = c.self.inside.events; ready = c.self.inside.choices.ready; mover_ready = c.self.inside.choices.last; running = c.self.inside.running } in
    node_took_as c.args.image.now k c.args.self.now c.from-at.result c.args.actor c.args.id c.take_at-message.result c.index_mut.result.now c.take_of_node-event.new.seat c.take_at-message.new.self.flight c.take_of_node-event.new.choices c.mark_node-self-inside.new.choices c.take_of_node-event.result c.mark_node-self-inside.result
    c.self.view_is c.requires.made c.from-at.ensures c.requires.node (found_at c.args.actor c.args.id c.flight.result.now c.self.inside.choices.flight c.in-Some.k c.take_at-message.result c.flight.ensures (c.place.ensures.there c.in-Some.k c.in-Some.is) c.take_at-message.ensures.taken) (ap (λ (o : Offer Kind). o.flight) c.take_at-message.ensures.left) c.index_mut.ensures.value c.take_of_node-event.ensures.moves
    (ap (λ (o : Offer Kind). o.last) c.take_of_node-event.ensures.same ∙ ap (λ (o : Offer Kind). o.last) c.take_at-message.ensures.left) c.mark_node-self-inside.ensures.same
    (marked_back c.args.image.now k c.args.self.now c.from-at.result c.args.actor c.take_of_node-event.new.seat c.index.result.now c.can_act-may.result c.take_of_node-event.new.choices.ready c.mark_node-self-inside.new.choices.ready c.mark_node-self-inside.result
    c.self.view_is c.requires.made c.from-at.ensures c.requires.node c.index.ensures c.can_act-may.ensures
    (ap (λ (o : Offer Kind). o.ready) c.take_of_node-event.ensures.same ∙ ap (λ (o : Offer Kind). o.ready) c.take_at-message.ensures.left) c.mark_node-self-inside.ensures.ready c.mark_node-self-inside.ensures.running)

pub returns-clause-refused : goal.returns-clause-refused
returns-clause-refused c = sym (stepped c).free

pub returns-clause-made : goal.returns-clause-made
returns-clause-made c = (stepped c).step

pub returns-clause-stays_made : goal.returns-clause-stays_made
returns-clause-stays_made c = (stepped c).made

pub invariant_of-self : goal.invariant_of-self
invariant_of-self c = ap (λ (o : Offer Kind). o.nodes) c.mark_node-self-inside.ensures.same ∙ ap (λ (o : Offer Kind). o.nodes) c.take_of_node-event.ensures.same ∙ ap (λ (o : Offer Kind). o.nodes) c.take_at-message.ensures.left ∙ c.self.invariant
