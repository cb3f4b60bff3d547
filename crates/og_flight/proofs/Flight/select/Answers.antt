use Rattle.std.proofs.Common.{rules, ◌≡◌, ◌<◌, arith, sym, ap, subst, length, Some, slice_get, get_or}
use Rattle.std.proofs.Math.Path.{◌∙◌}
use Rattle.std.specs.Prelude.{vec_len}
use Rattle.std.proofs.lemmas.Option.{get_or_from_slice_get}
use Rattle.og_runs.proofs.Shown.{slice_get_below}
use Rattle.og_flight.specs.declared.IndexEntry.{IndexEntry}
use Rattle.og_flight.specs.Flight.{Flying, messages_of}
use Rattle.og_flight.proofs.Slots.{messages_length}
use Rattle.og_flight.proofs.Kept.{picked}
use Rattle.og_flight.proofs.Flight.select.Goals as goal

pub index-requires : goal.index-requires
index-requires g c =
    let n : vec_len c.self.inside.entries ≡ length c.self.inside.entries.items = search rules in
    let m = messages_length _ _ c.self.invariant.all_of in
    let a : length (messages_of c.self.inside.slab.items c.self.inside.entries.items) ≡ length c.args.self.now.messages = ap (λ (w : Flying _). length w.messages) c.self.view_is in
    let lt = c.requires in omega arith

pub index-requires-2 : goal.index-requires-2
index-requires-2 g c =
    let n : vec_len c.self.inside.slab ≡ length c.self.inside.slab.items = search rules in
    let a : length (messages_of c.self.inside.slab.items c.self.inside.entries.items) ≡ length c.args.self.now.messages = ap (λ (w : Flying _). length w.messages) c.self.view_is in
    let lt = c.requires in
    let x = picked c.self.inside.entries.items c.self.inside.slab.items c.args.k c.self.invariant.all_of (omega arith) in
    let e : c.index.result.now ≡ x.entry = c.index.ensures ∙ get_or_from_slice_get c.self.inside.entries.items c.args.k x.entry c.index.result.now x.at in
    let l : x.entry.slot < length c.self.inside.slab.items = slice_get_below _ _ _ x.kept in
    subst (λ (z : IndexEntry). z.slot < vec_len c.self.inside.slab) (sym e) (omega arith)

pub returns : goal.returns
returns g c =
    let a : length (messages_of c.self.inside.slab.items c.self.inside.entries.items) ≡ length c.args.self.now.messages = ap (λ (w : Flying _). length w.messages) c.self.view_is in
    let lt = c.requires in
    let x = picked c.self.inside.entries.items c.self.inside.slab.items c.args.k c.self.invariant.all_of (omega arith) in
    let e : c.index.result.now ≡ x.entry = c.index.ensures ∙ get_or_from_slice_get c.self.inside.entries.items c.args.k x.entry c.index.result.now x.at in
    let m : c.index-2.result.now ≡ x.message = c.index-2.ensures ∙ (ap (λ (z : IndexEntry). get_or c.self.inside.slab.items z.slot c.index-2.result.now) e ∙ get_or_from_slice_get c.self.inside.slab.items x.entry.slot x.message c.index-2.result.now x.kept) in
    sym (ap (λ (w : Flying _). slice_get w.messages c.args.k) c.self.view_is) ∙ (x.stands ∙ ap (λ z. Some z) (sym m))
