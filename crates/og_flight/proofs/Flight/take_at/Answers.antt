use Rattle.std.proofs.Common.{rules, ◌≡◌, ◌<◌, ◌+◌, arith, sym, ap, ap₂, subst, length, Some, slice_get, get_or}
use Rattle.std.proofs.Math.Path.{◌∙◌}
use Rattle.std.specs.Prelude.{vec_len}
use Rattle.std.proofs.lemmas.Option.{get_or_from_slice_get}
use Rattle.og_runs.proofs.Shown.{slice_get_below}
use Rattle.og_runs.specs.declared.Msg.{Msg}
use Rattle.og_runs.specs.World.{without}
use Rattle.og_flight.specs.declared.IndexEntry.{IndexEntry}
use Rattle.og_flight.specs.Flight.{Flying, messages_of}
use Rattle.og_flight.proofs.Slots.{messages_length}
use Rattle.og_flight.proofs.Kept.{picked, taken_well, taken_messages}
use Rattle.og_flight.proofs.Flight.take_at.Goals as goal

pub remove-slot-requires : goal.remove-slot-requires
remove-slot-requires g c =
    let n : vec_len c.self.inside.entries ≡ length c.self.inside.entries.items = search rules in
    let m = messages_length _ _ c.self.invariant.all_of in
    let a : length (messages_of c.self.inside.slab.items c.self.inside.entries.items) ≡ length c.args.self.now.messages = ap (λ (w : Flying _). length w.messages) c.self.view_is in
    let lt = c.requires in omega arith

pub index-requires : goal.index-requires
index-requires g c =
    let n : vec_len c.self.inside.slab ≡ length c.self.inside.slab.items = search rules in
    let a : length (messages_of c.self.inside.slab.items c.self.inside.entries.items) ≡ length c.args.self.now.messages = ap (λ (w : Flying _). length w.messages) c.self.view_is in
    let lt = c.requires in
    let x = picked c.self.inside.entries.items c.self.inside.slab.items c.args.k c.self.invariant.all_of (omega arith) in
    let e : c.remove-slot.result ≡ x.entry = c.remove-slot.ensures.value ∙ get_or_from_slice_get c.self.inside.entries.items c.args.k x.entry c.remove-slot.result x.at in
    let low : x.entry.slot < length c.self.inside.slab.items = slice_get_below _ _ _ x.kept in
    subst (λ (z : IndexEntry). z.slot < vec_len c.self.inside.slab) (sym e) (omega arith)

pub invariant_of-self : goal.invariant_of-self
invariant_of-self g c =
    let a : length (messages_of c.self.inside.slab.items c.self.inside.entries.items) ≡ length c.args.self.now.messages = ap (λ (w : Flying _). length w.messages) c.self.view_is in
    let lt = c.requires in
    let x = picked c.self.inside.entries.items c.self.inside.slab.items c.args.k c.self.invariant.all_of (omega arith) in
    let e : c.remove-slot.result ≡ x.entry = c.remove-slot.ensures.value ∙ get_or_from_slice_get c.self.inside.entries.items c.args.k x.entry c.remove-slot.result x.at in
    let size : length c.remove-slot.new.self.items + 1 ≡ length c.self.inside.entries.items = search rules in
    let w = taken_well c.self.inside.entries.items c.remove-slot.new.self.items c.self.inside.slab.items c.self.inside.free.items c.push_reserved.new.self.items _ _ _ c.args.k c.remove-slot.result x.message c.self.invariant (x.at ∙ ap (λ (z : IndexEntry). Some z) (sym e)) x.stands c.remove-slot.ensures.items c.push_reserved.ensures.items size in
    rw (c.remove-slot.ensures.capacity, c.push_reserved.ensures.capacity) w

pub returns : goal.returns
returns g c =
    let a : length (messages_of c.self.inside.slab.items c.self.inside.entries.items) ≡ length c.args.self.now.messages = ap (λ (w : Flying _). length w.messages) c.self.view_is in
    let lt = c.requires in
    let x = picked c.self.inside.entries.items c.self.inside.slab.items c.args.k c.self.invariant.all_of (omega arith) in
    let e : c.remove-slot.result ≡ x.entry = c.remove-slot.ensures.value ∙ get_or_from_slice_get c.self.inside.entries.items c.args.k x.entry c.remove-slot.result x.at in
    let m : c.index.result.now ≡ x.message = c.index.ensures ∙ (ap (λ (z : IndexEntry). get_or c.self.inside.slab.items z.slot c.index.result.now) e ∙ get_or_from_slice_get c.self.inside.slab.items x.entry.slot x.message c.index.result.now x.kept) in
    let v = taken_messages c.self.inside.entries.items c.remove-slot.new.self.items c.self.inside.slab.items c.self.inside.free.items _ _ _ c.args.k x.message c.self.invariant x.stands c.remove-slot.ensures.items in
    record {
      taken = sym (ap (λ (w : Flying _). slice_get w.messages c.args.k) c.self.view_is) ∙ (x.stands ∙ ap (λ z. Some z) (sym m));
      left = ap₂ (λ ms n. record { messages = ms; room = n }) v c.remove-slot.ensures.capacity ∙ (ap (λ (w : Flying _). record { messages = without x.message.id w.messages; room = w.room }) c.self.view_is
          ∙ ap (λ (z : Msg _). record { messages = without z.id c.args.self.now.messages; room = c.args.self.now.room }) (sym m));
    }
