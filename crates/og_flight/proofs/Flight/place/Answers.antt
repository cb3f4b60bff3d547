use Rattle.std.proofs.Common.{◌≡◌, ◌<◌, arith, sym, ap, subst, length, List}
use Rattle.std.proofs.Math.Path.{◌∙◌}
use Rattle.std.specs.Prelude.{slice_get}
use Rattle.og_runs.proofs.Shown.{slice_get_below}
use Rattle.og_flight.specs.declared.IndexEntry.{IndexEntry}
use Rattle.og_flight.specs.Flight.{Flying, place_of, found_for, messages_of, IsRanked}
use Rattle.og_flight.proofs.Slots.{is_ranked}
use Rattle.og_flight.proofs.Kept.{stands, missing}
use Rattle.og_flight.proofs.Flight.place.Goals as goal

pub seek-requires : goal.seek-requires
seek-requires g c = subst (λ (es : List IndexEntry). IsRanked c.args.to c.args.id.sender c.args.id.seq es) (sym c.deref.ensures.value) (is_ranked c.args.to c.args.id.sender c.args.id.seq _ _ c.self.invariant.all_of c.self.invariant.in_place)

pub returns : goal.returns
returns g c = record {
  missing = λ none.
      let x = missing _ _ _ _ _ _ c.args.to c.args.id c.self.invariant (ap (λ (es : List IndexEntry). place_of c.args.to c.args.id es) (sym c.deref.ensures.value) ∙ (sym c.seek.ensures ∙ none)) in
      sym (ap (λ (w : Flying _). found_for c.args.to c.args.id w.messages) c.self.view_is) ∙ x;
  there = λ k is.
      let x = stands _ _ _ _ _ _ c.args.to c.args.id k c.self.invariant (ap (λ (es : List IndexEntry). place_of c.args.to c.args.id es) (sym c.deref.ensures.value) ∙ (sym c.seek.ensures ∙ is)) in
      sym (ap (λ (w : Flying _). slice_get w.messages k) c.self.view_is) ∙ (x.stands ∙ (sym x.found_for ∙ ap (λ (w : Flying _). found_for c.args.to c.args.id w.messages) c.self.view_is));
  within = λ k is.
      let x = stands _ _ _ _ _ _ c.args.to c.args.id k c.self.invariant (ap (λ (es : List IndexEntry). place_of c.args.to c.args.id es) (sym c.deref.ensures.value) ∙ (sym c.seek.ensures ∙ is)) in
      let lt : k < length (messages_of c.self.inside.slab.items c.self.inside.entries.items) = slice_get_below _ _ _ x.stands in
      let a : length (messages_of c.self.inside.slab.items c.self.inside.entries.items) ≡ length c.args.self.now.messages = ap (λ (w : Flying _). length w.messages) c.self.view_is in
      omega arith;
}
