use Rattle.std.proofs.Common.{rules, None, refl, ◌+◌, sym, subst, ap}
use Rattle.og_fabric.specs.Scheme.{IsMet}
use Rattle.og_actors.specs.Actors.{seen}
use Rattle.og_actors.proofs.Playing.{fits_after, made_event, out_with}
use Rattle.og_actors.proofs.Events.{event_is, event_from}
use Rattle.og_actors.proofs.actor.Actor.act.Goals as goal

pub act-note-requires-clause-met : goal.act-note-requires-clause-met
act-note-requires-clause-met g c = subst (λ p. IsMet g.S.Scheme.rules g.S.Scheme.start g.S.Scheme.actors g.S.Scheme.most p.actor (g.S.Scheme.state p.past.local) None) (sym c.self.view_is) c.requires.met

pub send_all-requires-clause-fits : goal.send_all-requires-clause-fits
send_all-requires-clause-fits g c =
    fits_after g.S.Scheme.rules g.S.Scheme.start g.S.Scheme.actors g.S.Scheme.most _ _ c.self.inside.seat.side c.self.inside.seat.side _ _ _ _ c.self.inside.made (c.self.inside.clock + 1) None c.letters.result.now c.act-note.result c.self.invariant (search rules)
    (out_with _ _ _ c.letters.result.now c.act-note.result c.act-note.ensures.outcome c.letters.ensures) refl refl

pub invariant_of-self : goal.invariant_of-self
invariant_of-self g c =
    made_event g.S.Scheme.rules g.S.Scheme.start g.S.Scheme.actors g.S.Scheme.most _ _ c.self.inside.seat.side c.self.inside.seat.side c.send_all.new.seat.side c.self.inside.log.events.items _ c.self.inside.whole _ c.self.inside.clock _ c.self.inside.made (c.self.inside.clock + 1) None c.letters.result.now c.act-note.result c.self.invariant tt
    (out_with _ _ _ c.letters.result.now c.act-note.result c.act-note.ensures.outcome c.letters.ensures) (search rules) refl refl c.send_all.ensures.sent c.add-self-inside.ensures

pub returns : goal.returns
returns g c = event_from g.S.Scheme.rules _ _ _ (ap (λ p. seen g.S.Scheme.state p) c.self.view_is)
    (event_is g.S.Scheme.rules _ _ _ _ c.self.inside.seat.side c.self.inside.seat.side c.send_all.new.seat.side c.self.inside.log.events.items _ c.self.inside.whole _ c.self.inside.clock _ c.self.inside.made c.self.inside.idle (c.self.inside.clock + 1) None c.letters.result.now c.act-note.result
    (search rules) c.self.invariant.actor tt (out_with _ _ _ c.letters.result.now c.act-note.result c.act-note.ensures.outcome c.letters.ensures) refl refl c.send_all.ensures.sent c.add-self-inside.ensures)
