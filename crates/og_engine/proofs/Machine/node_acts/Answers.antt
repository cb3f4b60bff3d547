use Rattle.std.proofs.Common.{◌+◌, ◌∙◌, sym, ap}
use Rattle.std.specs.Prelude.{slice_set}
use Rattle.og_runs.specs.declared.Choice.TheVariants.{Act}
use Rattle.og_msg.specs.declared.Kind.{Kind}
use Rattle.og_choices.specs.Choices.{Offer}
use Rattle.og_choices.specs.Marks.{is_marked}
use Rattle.og_engine.specs.Kept.{KeptMachine}
use Rattle.og_engine.proofs.Moved.{Stepped}
use Rattle.og_engine.proofs.Acts.{node_may, node_acted_as, node_refused_as, node_marked_as, both_marked, marked_back, handed_on}
use Rattle.og_engine.proofs.Counts.{few_seats, node_inside}
use Rattle.og_engine.proofs.Machine.node_acts.Goals as goal

pub may_act_by-requires : goal.may_act_by-requires
may_act_by-requires c =
    let k : KeptMachine = record { settings = c.self.inside.settings; nodes = c.self.inside.nodes.items; mover = c.self.inside.mover; flight = c.self.inside.choices.flight; events = c.self.inside.events; ready = c.self.inside.choices.ready; mover_ready = c.self.inside.choices.last; running = c.self.inside.running } in
    node_marked_as c.args.image.now k c.args.self.now c.from-at.result c.args.actor c.index.result.now c.may_act.result c.self.view_is c.requires.made c.from-at.ensures c.requires.node c.index.ensures c.may_act.ensures

pub returns-in_err-may_act_by-clause-refused : goal.returns-in_err-may_act_by-clause-refused
returns-in_err-may_act_by-clause-refused c =
    let k : KeptMachine = record { settings = c.self.inside.settings; nodes = c.self.inside.nodes.items; mover = c.self.inside.mover; flight = c.self.inside.choices.flight; events = c.self.inside.events; ready = c.self.inside.choices.ready; mover_ready = c.self.inside.choices.last; running = c.self.inside.running } in
    handed_on c.from_residual.result c.in_err-may_act_by.field-0.0 _ c.from_residual.ensures.1 (λ e h. h) ∙ node_refused_as c.args.image.now k c.args.self.now c.from-at.result c.args.actor c.index.result.now c.may_act_by.result c.in_err-may_act_by.field-0.0 c.self.view_is c.from-at.ensures c.requires.node c.index.ensures c.may_act_by.ensures c.in_err-may_act_by.was

pub act_of_node-event-requires-clause-low : goal.act_of_node-event-requires-clause-low
act_of_node-event-requires-clause-low c =
    let k : KeptMachine = record { settings = c.self.inside.settings; nodes = c.self.inside.nodes.items; mover = c.self.inside.mover; flight = c.self.inside.choices.flight; events = c.self.inside.events; ready = c.self.inside.choices.ready; mover_ready = c.self.inside.choices.last; running = c.self.inside.running } in
    (node_may c.args.image.now k c.args.self.now c.from-at.result c.args.actor c.index.result.now c.index_mut.result.now c.may_act_by.result c.self.view_is c.requires.made c.requires.young c.from-at.ensures c.requires.node c.index.ensures c.may_act_by.ensures c.in_ok-may_act_by.was c.index_mut.ensures.value).low

pub act_of_node-event-requires-clause-young : goal.act_of_node-event-requires-clause-young
act_of_node-event-requires-clause-young c =
    let k : KeptMachine = record { settings = c.self.inside.settings; nodes = c.self.inside.nodes.items; mover = c.self.inside.mover; flight = c.self.inside.choices.flight; events = c.self.inside.events; ready = c.self.inside.choices.ready; mover_ready = c.self.inside.choices.last; running = c.self.inside.running } in
    (node_may c.args.image.now k c.args.self.now c.from-at.result c.args.actor c.index.result.now c.index_mut.result.now c.may_act_by.result c.self.view_is c.requires.made c.requires.young c.from-at.ensures c.requires.node c.index.ensures c.may_act_by.ensures c.in_ok-may_act_by.was c.index_mut.ensures.value).young

pub act_of_node-event-requires-clause-room : goal.act_of_node-event-requires-clause-room
act_of_node-event-requires-clause-room c =
    let k : KeptMachine = record { settings = c.self.inside.settings; nodes = c.self.inside.nodes.items; mover = c.self.inside.mover; flight = c.self.inside.choices.flight; events = c.self.inside.events; ready = c.self.inside.choices.ready; mover_ready = c.self.inside.choices.last; running = c.self.inside.running } in
    (node_may c.args.image.now k c.args.self.now c.from-at.result c.args.actor c.index.result.now c.index_mut.result.now c.may_act_by.result c.self.view_is c.requires.made c.requires.young c.from-at.ensures c.requires.node c.index.ensures c.may_act_by.ensures c.in_ok-may_act_by.was c.index_mut.ensures.value).room

pub mark_after_act-self-inside-requires-clause-node : goal.mark_after_act-self-inside-requires-clause-node
mark_after_act-self-inside-requires-clause-node c =
    let k : KeptMachine = record { settings = c.self.inside.settings; nodes = c.self.inside.nodes.items; mover = c.self.inside.mover; flight = c.self.inside.choices.flight; events = c.self.inside.events; ready = c.self.inside.choices.ready; mover_ready = c.self.inside.choices.last; running = c.self.inside.running } in
    node_inside c.args.image.now k c.args.self.now c.args.actor c.act_of_node-event.new.choices.nodes c.self.view_is c.requires.made c.requires.node (ap (λ (o : Offer Kind). o.nodes) c.act_of_node-event.ensures.same ∙ c.self.invariant)

pub mark_after_act-self-inside-requires-clause-few : goal.mark_after_act-self-inside-requires-clause-few
mark_after_act-self-inside-requires-clause-few c =
    let k : KeptMachine = record { settings = c.self.inside.settings; nodes = c.self.inside.nodes.items; mover = c.self.inside.mover; flight = c.self.inside.choices.flight; events = c.self.inside.events; ready = c.self.inside.choices.ready; mover_ready = c.self.inside.choices.last; running = c.self.inside.running } in
    few_seats c.args.image.now k c.args.self.now c.args.actor c.self.view_is c.requires.made c.requires.node

pub mark_after_act-self-inside-requires-clause-was_ready : goal.mark_after_act-self-inside-requires-clause-was_ready
mark_after_act-self-inside-requires-clause-was_ready c =
    let k : KeptMachine = record { settings = c.self.inside.settings; nodes = c.self.inside.nodes.items; mover = c.self.inside.mover; flight = c.self.inside.choices.flight; events = c.self.inside.events; ready = c.self.inside.choices.ready; mover_ready = c.self.inside.choices.last; running = c.self.inside.running } in
    ap (λ (o : Offer Kind). is_marked o.ready c.args.actor) c.act_of_node-event.ensures.same ∙ (both_marked c.args.image.now k c.args.self.now c.from-at.result c.args.actor c.index.result.now c.may_act_by.result c.self.view_is c.requires.made c.from-at.ensures c.requires.node c.index.ensures c.may_act_by.ensures c.in_ok-may_act_by.was).0

pub mark_after_act-self-inside-requires-clause-was_running : goal.mark_after_act-self-inside-requires-clause-was_running
mark_after_act-self-inside-requires-clause-was_running c =
    let k : KeptMachine = record { settings = c.self.inside.settings; nodes = c.self.inside.nodes.items; mover = c.self.inside.mover; flight = c.self.inside.choices.flight; events = c.self.inside.events; ready = c.self.inside.choices.ready; mover_ready = c.self.inside.choices.last; running = c.self.inside.running } in
    (both_marked c.args.image.now k c.args.self.now c.from-at.result c.args.actor c.index.result.now c.may_act_by.result c.self.view_is c.requires.made c.from-at.ensures c.requires.node c.index.ensures c.may_act_by.ensures c.in_ok-may_act_by.was).1

stepped : (c : goal.After-self-3-1) → Stepped c.args.image.now c.args.self.now (Act c.args.actor)
    (record { settings = c.self.inside.settings; nodes = slice_set c.self.inside.nodes.items c.from-at.result c.act_of_node-event.new.seat; mover = c.self.inside.mover; flight = c.mark_after_act-self-inside.new.choices.flight; events = c.self.inside.events + 1; ready = c.mark_after_act-self-inside.new.choices.ready; mover_ready = c.mark_after_act-self-inside.new.choices.last; running = c.mark_after_act-self-inside.result }) c.act_of_node-event.result
stepped c =
    let k : KeptMachine = record { settings = c.self.inside.settings; nodes = c.self.inside.nodes.items; mover = c.self.inside.mover; flight = c.self.inside.choices.flight; events = c.self.inside.events; ready = c.self.inside.choices.ready; mover_ready = c.self.inside.choices.last; running = c.self.inside.running } in
    node_acted_as c.args.image.now k c.args.self.now c.from-at.result c.args.actor c.index.result.now c.index_mut.result.now c.act_of_node-event.new.seat c.may_act_by.result c.act_of_node-event.new.choices c.mark_after_act-self-inside.new.choices c.act_of_node-event.result c.mark_after_act-self-inside.result
    c.self.view_is c.requires.made c.from-at.ensures c.requires.node c.index.ensures c.may_act_by.ensures c.in_ok-may_act_by.was c.index_mut.ensures.value c.act_of_node-event.ensures.moves
    (ap (λ (o : Offer Kind). o.last) c.act_of_node-event.ensures.same) c.mark_after_act-self-inside.ensures.same
    (marked_back c.args.image.now k c.args.self.now c.from-at.result c.args.actor c.act_of_node-event.new.seat c.index-2.result.now c.can_act-may.result c.act_of_node-event.new.choices.ready c.mark_after_act-self-inside.new.choices.ready c.mark_after_act-self-inside.result
    c.self.view_is c.requires.made c.from-at.ensures c.requires.node c.index-2.ensures c.can_act-may.ensures (ap (λ (o : Offer Kind). o.ready) c.act_of_node-event.ensures.same) c.mark_after_act-self-inside.ensures.ready c.mark_after_act-self-inside.ensures.running)

pub returns-clause-refused : goal.returns-clause-refused
returns-clause-refused c = sym (stepped c).free

pub returns-clause-made : goal.returns-clause-made
returns-clause-made c = (stepped c).step

pub returns-clause-stays_made : goal.returns-clause-stays_made
returns-clause-stays_made c = (stepped c).made

pub invariant_of-self : goal.invariant_of-self
invariant_of-self c = ap (λ (o : Offer Kind). o.nodes) c.mark_after_act-self-inside.ensures.same ∙ ap (λ (o : Offer Kind). o.nodes) c.act_of_node-event.ensures.same ∙ c.self.invariant
