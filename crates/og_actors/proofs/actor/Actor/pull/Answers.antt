use Rattle.std.proofs.Common.{rules, None, Some, ap, ◌+◌}
use Rattle.og_actors.specs.Actors.{seen}
use Rattle.og_actors.proofs.Playing.{fits_after, made_event, out_with, goes_on, is_met}
use Rattle.og_actors.proofs.Events.{event_is, event_from}
use Rattle.og_actors.proofs.actor.Actor.pull.Goals as goal

pub take-requires-clause-going : goal.take-requires-clause-going
take-requires-clause-going g c = goes_on g.S.Scheme.rules g.S.Scheme.start g.S.Scheme.actors g.S.Scheme.most _ _ _ _ _ _ _ c.self.invariant (search rules)

pub take-note-requires-clause-met : goal.take-note-requires-clause-met
take-note-requires-clause-met g c = is_met g.S.Scheme.rules g.S.Scheme.start g.S.Scheme.actors g.S.Scheme.most _ c.self.inside.seat.side _ _ _ _ c.self.inside.made (Some c.in-Mine.message) c.self.invariant (search rules) c.in-Mine.ensures.took.3

pub send_all-requires-clause-fits : goal.send_all-requires-clause-fits
send_all-requires-clause-fits g c =
    fits_after g.S.Scheme.rules g.S.Scheme.start g.S.Scheme.actors g.S.Scheme.most _ _ c.self.inside.seat.side c.take.new.seat.side _ _ _ _ c.self.inside.made (c.later-clock.result + 1) (Some c.in-Mine.message) c.letters.result.now c.take-note.result c.self.invariant (search rules)
    (out_with _ _ _ c.letters.result.now c.take-note.result c.take-note.ensures.outcome c.letters.ensures) c.in-Mine.ensures.took.1 (ap (λ n. n + 1) c.later-clock.ensures)

pub invariant_of-self : goal.invariant_of-self
invariant_of-self g c =
    made_event g.S.Scheme.rules g.S.Scheme.start g.S.Scheme.actors g.S.Scheme.most _ _ c.self.inside.seat.side c.take.new.seat.side c.send_all.new.seat.side c.self.inside.log.events.items _ c.self.inside.whole _ c.self.inside.clock _ c.self.inside.made (c.later-clock.result + 1) (Some c.in-Mine.message) c.letters.result.now c.take-note.result c.self.invariant (search rules)
    (out_with _ _ _ c.letters.result.now c.take-note.result c.take-note.ensures.outcome c.letters.ensures) (search rules) c.in-Mine.ensures.took.1 (ap (λ n. n + 1) c.later-clock.ensures) c.send_all.ensures.sent c.add-self-inside.ensures

pub returns-in-Mine-clause-part : goal.returns-in-Mine-clause-part
returns-in-Mine-clause-part g c = event_from g.S.Scheme.rules _ _ _ (ap (λ p. seen g.S.Scheme.state p) c.self.view_is)
    (event_is g.S.Scheme.rules _ _ _ _ c.self.inside.seat.side c.take.new.seat.side c.send_all.new.seat.side c.self.inside.log.events.items _ c.self.inside.whole _ c.self.inside.clock _ c.self.inside.made c.self.inside.idle (c.later-clock.result + 1) (Some c.in-Mine.message) c.letters.result.now c.take-note.result
    (search rules) c.self.invariant.actor (search rules) (out_with _ _ _ c.letters.result.now c.take-note.result c.take-note.ensures.outcome c.letters.ensures) c.in-Mine.ensures.took.1 (ap (λ n. n + 1) c.later-clock.ensures) c.send_all.ensures.sent c.add-self-inside.ensures)

pub returns-in-Other-clause-met : goal.returns-in-Other-clause-met
returns-in-Other-clause-met g c = λ no. is_met g.S.Scheme.rules g.S.Scheme.start g.S.Scheme.actors g.S.Scheme.most _ c.self.inside.seat.side _ _ _ _ c.self.inside.made None c.self.invariant (search rules) c.in-Other.ensures.took.3

pub returns-in-Nothing-clause-met : goal.returns-in-Nothing-clause-met
returns-in-Nothing-clause-met g c = λ no. is_met g.S.Scheme.rules g.S.Scheme.start g.S.Scheme.actors g.S.Scheme.most _ c.self.inside.seat.side _ _ _ _ c.self.inside.made None c.self.invariant (search rules) c.in-Nothing.ensures.took.2
