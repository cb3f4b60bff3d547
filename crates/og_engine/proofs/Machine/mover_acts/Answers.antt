use Rattle.std.proofs.Common.{◌+◌, ◌≡◌, ◌∙◌, true, sym, ap}
use Rattle.og_mover.specs.Table.{has_act}
use Rattle.og_runs.specs.declared.Choice.TheVariants.{Act}
use Rattle.og_msg.specs.declared.Kind.{Kind}
use Rattle.og_choices.specs.Choices.{Offer}
use Rattle.og_engine.specs.Kept.{KeptMachine}
use Rattle.og_engine.proofs.Moved.{Stepped}
use Rattle.og_engine.proofs.Acts.{mover_may_as, mover_acted_as, mover_refused_as}
use Rattle.og_engine.proofs.Machine.mover_acts.Goals as goal

pub returns-then-not-can_act-clause-refused : goal.returns-then-not-can_act-clause-refused
returns-then-not-can_act-clause-refused c =
    let k : KeptMachine = record { settings = c.self.inside.settings; nodes = c.self.inside.nodes.items; mover = c.self.inside.mover; flight = c.self.inside.choices.flight; events = c.self.inside.events; ready = c.self.inside.choices.ready; mover_ready = c.self.inside.choices.last; running = c.self.inside.running } in
    mover_refused_as c.args.image.now k c.args.self.now c.args.actor c.self.view_is c.requires.mover (sym c.can_act.ensures ∙ c.if-not-can_act.true)

pub act_of_mover-event-requires-clause-young : goal.act_of_mover-event-requires-clause-young
act_of_mover-event-requires-clause-young c =
    let k : KeptMachine = record { settings = c.self.inside.settings; nodes = c.self.inside.nodes.items; mover = c.self.inside.mover; flight = c.self.inside.choices.flight; events = c.self.inside.events; ready = c.self.inside.choices.ready; mover_ready = c.self.inside.choices.last; running = c.self.inside.running } in
    let can : has_act c.self.inside.mover.local.job ≡ true = sym c.can_act.ensures ∙ c.if-not-can_act.false in
    (mover_may_as c.args.image.now k c.args.self.now c.args.actor c.self.view_is c.requires.made c.requires.young c.requires.mover can).young

pub act_of_mover-event-requires-clause-room : goal.act_of_mover-event-requires-clause-room
act_of_mover-event-requires-clause-room c =
    let k : KeptMachine = record { settings = c.self.inside.settings; nodes = c.self.inside.nodes.items; mover = c.self.inside.mover; flight = c.self.inside.choices.flight; events = c.self.inside.events; ready = c.self.inside.choices.ready; mover_ready = c.self.inside.choices.last; running = c.self.inside.running } in
    let can : has_act c.self.inside.mover.local.job ≡ true = sym c.can_act.ensures ∙ c.if-not-can_act.false in
    (mover_may_as c.args.image.now k c.args.self.now c.args.actor c.self.view_is c.requires.made c.requires.young c.requires.mover can).room

stepped : (c : goal.After-self-1) → Stepped c.args.image.now c.args.self.now (Act c.args.actor)
    (record { settings = c.self.inside.settings; nodes = c.self.inside.nodes.items; mover = c.act_of_mover-event.new.seat; flight = c.mark_last.new.self.flight; events = c.self.inside.events + 1; ready = c.mark_last.new.self.ready; mover_ready = c.mark_last.new.self.last; running = c.self.inside.running }) c.act_of_mover-event.result
stepped c =
    let k : KeptMachine = record { settings = c.self.inside.settings; nodes = c.self.inside.nodes.items; mover = c.self.inside.mover; flight = c.self.inside.choices.flight; events = c.self.inside.events; ready = c.self.inside.choices.ready; mover_ready = c.self.inside.choices.last; running = c.self.inside.running } in
    let can : has_act c.self.inside.mover.local.job ≡ true = sym c.can_act.ensures ∙ c.if-not-can_act.false in
    mover_acted_as c.args.image.now k c.args.self.now c.args.actor c.act_of_mover-event.new.seat c.act_of_mover-event.new.choices c.mark_last.new.self c.act_of_mover-event.result c.can_act-2.result c.self.view_is c.requires.made c.requires.mover can c.act_of_mover-event.ensures.moves
    (ap (λ (o : Offer Kind). o.ready) c.act_of_mover-event.ensures.same) c.mark_last.ensures c.can_act-2.ensures

pub returns-clause-refused : goal.returns-clause-refused
returns-clause-refused c = sym (stepped c).free

pub returns-clause-made : goal.returns-clause-made
returns-clause-made c = (stepped c).step

pub returns-clause-stays_made : goal.returns-clause-stays_made
returns-clause-stays_made c = (stepped c).made

pub invariant_of-self : goal.invariant_of-self
invariant_of-self c = ap (λ (o : Offer Kind). o.nodes) c.mark_last.ensures ∙ ap (λ (o : Offer Kind). o.nodes) c.act_of_mover-event.ensures.same ∙ c.self.invariant
