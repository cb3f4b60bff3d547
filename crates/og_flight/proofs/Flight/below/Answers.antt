use Rattle.std.proofs.Common.{sym, ap, subst, length, List}
use Rattle.std.proofs.Math.Path.{◌∙◌}
use Rattle.og_flight.specs.declared.IndexEntry.{IndexEntry}
use Rattle.og_flight.specs.Flight.{Flying, IsRanked, rank_of, messages_below}
use Rattle.og_flight.proofs.Slots.{is_ranked, rank_same}
use Rattle.og_flight.proofs.Receivers.{below_is}
use Rattle.og_flight.proofs.Flight.below.Goals as goal

pub bisect-requires : goal.bisect-requires
bisect-requires g c = subst (λ (es : List IndexEntry). IsRanked c.args.actor 0 0 es) (sym c.deref.ensures.value) (is_ranked c.args.actor 0 0 _ _ c.self.invariant.all_of c.self.invariant.in_place)

pub returns : goal.returns
returns g c =
    let a = c.bisect.ensures.rank ∙ ap (λ (es : List IndexEntry). rank_of c.args.actor 0 0 es) c.deref.ensures.value in
    let b = sym (rank_same c.args.actor 0 0 c.self.inside.slab.items c.self.inside.entries.items c.self.invariant.all_of) in
    a ∙ (b ∙ (sym (below_is c.args.actor _ c.self.invariant.in_place) ∙ ap (λ (w : Flying _). length (messages_below c.args.actor w.messages)) c.self.view_is))
