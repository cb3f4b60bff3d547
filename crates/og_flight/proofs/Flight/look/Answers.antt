use Rattle.std.proofs.Common.{rules, ◌≡◌, ◌<◌, arith, sym, ap, subst, length, List, Some, get_or}
use Rattle.std.proofs.Math.Path.{◌∙◌}
use Rattle.std.specs.Prelude.{vec_len}
use Rattle.std.proofs.lemmas.Option.{get_or_from_slice_get}
use Rattle.og_runs.proofs.Shown.{slice_get_below}
use Rattle.og_flight.specs.declared.IndexEntry.{IndexEntry}
use Rattle.og_flight.specs.Flight.{Flying, place_of, found_for, IsRanked}
use Rattle.og_flight.proofs.Slots.{is_ranked}
use Rattle.og_flight.proofs.Kept.{stands, missing}
use Rattle.og_flight.proofs.Flight.look.Goals as goal

pub seek-requires : goal.seek-requires
seek-requires g c = subst (λ (es : List IndexEntry). IsRanked c.args.to c.args.id.sender c.args.id.seq es) (sym c.deref.ensures.value) (is_ranked c.args.to c.args.id.sender c.args.id.seq _ _ c.self.invariant.all_of c.self.invariant.in_place)

pub index-requires : goal.index-requires
index-requires g c =
    let n : vec_len c.self.inside.entries ≡ length c.self.inside.entries.items = search rules in
    let x = stands _ _ _ _ _ _ c.args.to c.args.id c.in-Some.at c.self.invariant (ap (λ (es : List IndexEntry). place_of c.args.to c.args.id es) (sym c.deref.ensures.value) ∙ (sym c.seek.ensures ∙ c.in-Some.is)) in
    let lt : c.in-Some.at < length c.self.inside.entries.items = slice_get_below _ _ _ x.at in omega arith

pub index-requires-in-Some : goal.index-requires-in-Some
index-requires-in-Some g c =
    let n : vec_len c.self.inside.slab ≡ length c.self.inside.slab.items = search rules in
    let x = stands _ _ _ _ _ _ c.args.to c.args.id c.in-Some.at c.self.invariant (ap (λ (es : List IndexEntry). place_of c.args.to c.args.id es) (sym c.deref.ensures.value) ∙ (sym c.seek.ensures ∙ c.in-Some.is)) in
    let e : c.index.result.now ≡ x.entry = c.index.ensures ∙ get_or_from_slice_get c.self.inside.entries.items c.in-Some.at x.entry c.index.result.now x.at in
    let lt : x.entry.slot < length c.self.inside.slab.items = slice_get_below _ _ _ x.kept in
    subst (λ (z : IndexEntry). z.slot < vec_len c.self.inside.slab) (sym e) (omega arith)

pub returns-in-Some : goal.returns-in-Some
returns-in-Some g c =
    let x = stands _ _ _ _ _ _ c.args.to c.args.id c.in-Some.at c.self.invariant (ap (λ (es : List IndexEntry). place_of c.args.to c.args.id es) (sym c.deref.ensures.value) ∙ (sym c.seek.ensures ∙ c.in-Some.is)) in
    let e : c.index.result.now ≡ x.entry = c.index.ensures ∙ get_or_from_slice_get c.self.inside.entries.items c.in-Some.at x.entry c.index.result.now x.at in
    let m : c.index-in-Some.result.now ≡ x.message = c.index-in-Some.ensures ∙ (ap (λ (z : IndexEntry). get_or c.self.inside.slab.items z.slot c.index-in-Some.result.now) e ∙ get_or_from_slice_get c.self.inside.slab.items x.entry.slot x.message c.index-in-Some.result.now x.kept) in
    ap (λ z. Some z) m ∙ (sym x.found_for ∙ ap (λ (w : Flying _). found_for c.args.to c.args.id w.messages) c.self.view_is)

pub returns-in-None : goal.returns-in-None
returns-in-None g c =
    let x = missing _ _ _ _ _ _ c.args.to c.args.id c.self.invariant (ap (λ (es : List IndexEntry). place_of c.args.to c.args.id es) (sym c.deref.ensures.value) ∙ (sym c.seek.ensures ∙ c.in-None.is)) in
    sym x ∙ ap (λ (w : Flying _). found_for c.args.to c.args.id w.messages) c.self.view_is
