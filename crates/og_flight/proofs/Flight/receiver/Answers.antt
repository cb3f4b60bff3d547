use Rattle.std.proofs.Common.{rules, ◌≡◌, arith, sym, ap, length, Some, slice_get}
use Rattle.std.proofs.Math.Path.{◌∙◌}
use Rattle.std.specs.Prelude.{vec_len}
use Rattle.std.proofs.lemmas.Option.{get_or_from_slice_get}
use Rattle.og_runs.specs.declared.Msg.{Msg}
use Rattle.og_flight.specs.declared.IndexEntry.{IndexEntry}
use Rattle.og_flight.specs.Flight.{Flying, messages_of}
use Rattle.og_flight.proofs.Slots.{messages_length}
use Rattle.og_flight.proofs.Kept.{picked}
use Rattle.og_flight.proofs.Flight.receiver.Goals as goal

pub index-requires : goal.index-requires
index-requires g c =
    let n : vec_len c.self.inside.entries ≡ length c.self.inside.entries.items = search rules in
    let m = messages_length _ _ c.self.invariant.all_of in
    let a : length (messages_of c.self.inside.slab.items c.self.inside.entries.items) ≡ length c.args.self.now.messages = ap (λ (w : Flying _). length w.messages) c.self.view_is in
    let lt = c.requires in omega arith

pub returns : goal.returns
returns g c message is =
    let a : length (messages_of c.self.inside.slab.items c.self.inside.entries.items) ≡ length c.args.self.now.messages = ap (λ (w : Flying _). length w.messages) c.self.view_is in
    let lt = c.requires in
    let x = picked c.self.inside.entries.items c.self.inside.slab.items c.args.k c.self.invariant.all_of (omega arith) in
    let e : c.index.result.now ≡ x.entry = c.index.ensures ∙ get_or_from_slice_get c.self.inside.entries.items c.args.k x.entry c.index.result.now x.at in
    let same : Some x.message ≡ Some message = sym x.stands ∙ (ap (λ (w : Flying _). slice_get w.messages c.args.k) c.self.view_is ∙ is) in
    let one : x.message ≡ message = cc in
    ap (λ (z : IndexEntry). z.to) e ∙ (sym x.to ∙ ap (λ (z : Msg _). z.to) one)
