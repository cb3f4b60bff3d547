use Rattle.std.proofs.Common.{rules, ◌≡◌, ◌<◌, ◌≤◌, ℕ, arith, sym, ap, ap₂, subst, length, List}
use Rattle.std.proofs.Math.Path.{◌∙◌}
use Rattle.std.specs.Prelude.{slice_get, vec_len, vec_capacity}
use Rattle.og_runs.specs.World.{find, placed}
use Rattle.og_flight.specs.declared.IndexEntry.{IndexEntry}
use Rattle.og_flight.specs.Flight.{Flying, IsRanked, messages_of, rank_of, rank as rank_in}
use Rattle.og_flight.proofs.Ranks.{placed_at}
use Rattle.og_flight.proofs.Slots.{is_ranked, messages_length, rank_same}
use Rattle.og_flight.proofs.Kept.{sent_is, sent_well, sent_messages, all_slots}
use Rattle.og_flight.proofs.Flight.send.Goals as goal

pub bisect-at-requires : goal.bisect-at-requires
bisect-at-requires g c = subst (λ (es : List IndexEntry). IsRanked c.args.message.to c.args.message.id.sender c.args.message.id.seq es) (sym c.deref.ensures.value) (is_ranked c.args.message.to c.args.message.id.sender c.args.message.id.seq _ _ c.self.invariant.all_of c.self.invariant.in_place)

pub keep-slot-requires-clause-slots : goal.keep-slot-requires-clause-slots
keep-slot-requires-clause-slots g c = all_slots _ _ _ _ _ _ c.self.invariant

pub keep-slot-requires-clause-room : goal.keep-slot-requires-clause-room
keep-slot-requires-clause-room g c none =
    let n : vec_len c.self.inside.slab ≡ length c.self.inside.slab.items = search rules in
    let z : length c.self.inside.free.items ≡ 0 = ap (λ (ts : List ℕ). length ts) none in
    let room = c.requires.room in
    let m = messages_length _ _ c.self.invariant.all_of in
    let a : length (messages_of c.self.inside.slab.items c.self.inside.entries.items) ≡ length c.args.self.now.messages = ap (λ (w : Flying _). length w.messages) c.self.view_is in
    let b : vec_capacity c.self.inside.entries ≡ c.args.self.now.room = ap (λ (w : Flying _). w.room) c.self.view_is in
    let t = c.self.invariant.total in
    let s = c.self.invariant.slots_is in omega arith

pub invariant_of-self : goal.invariant_of-self
invariant_of-self g c =
    let room = c.requires.room in
    let m = messages_length _ _ c.self.invariant.all_of in
    let a : length (messages_of c.self.inside.slab.items c.self.inside.entries.items) ≡ length c.args.self.now.messages = ap (λ (w : Flying _). length w.messages) c.self.view_is in
    let b : vec_capacity c.self.inside.entries ≡ c.args.self.now.room = ap (λ (w : Flying _). w.room) c.self.view_is in
    let lt : length c.self.inside.entries.items < vec_capacity c.self.inside.entries = omega arith in
    let x = sent_is c.self.inside.entries.items c.self.inside.slab.items c.keep-slot.new.slab.items c.self.inside.free.items c.keep-slot.new.free.items _ _ _ c.keep-slot.result c.args.message c.self.invariant lt c.keep-slot.ensures.went in
    let rank = c.bisect-at.ensures.rank ∙ ap (λ (es : List IndexEntry). rank_of c.args.message.to c.args.message.id.sender c.args.message.id.seq es) c.deref.ensures.value in
    let none = ap (λ (w : Flying _). find c.args.message.id w.messages) c.self.view_is ∙ c.requires.new in
    let w = sent_well c.self.inside.entries.items c.put.new.items.items c.self.inside.slab.items c.keep-slot.new.slab.items c.self.inside.free.items c.keep-slot.new.free.items _ _ _ c.keep-slot.result c.bisect-at.result c.args.message c.self.invariant x rank c.put.ensures.items none c.put.ensures.length in
    rw (c.put.ensures.capacity, c.keep-slot.ensures.slots_stay, c.keep-slot.ensures.frees_stay) w

pub put-requires : goal.put-requires
put-requires g c =
    let room = c.requires.room in
    let m = messages_length _ _ c.self.invariant.all_of in
    let a : length (messages_of c.self.inside.slab.items c.self.inside.entries.items) ≡ length c.args.self.now.messages = ap (λ (w : Flying _). length w.messages) c.self.view_is in
    let b : vec_capacity c.self.inside.entries ≡ c.args.self.now.room = ap (λ (w : Flying _). w.room) c.self.view_is in
    let within : c.bisect-at.result ≤ length c.deref.result.now = c.bisect-at.ensures.within in
    let same : length c.deref.result.now ≡ length c.self.inside.entries.items = ap (λ (es : List IndexEntry). length es) c.deref.ensures.value in
    record { within = omega arith; room = omega arith }

pub returns-clause-sent : goal.returns-clause-sent
returns-clause-sent g c =
    let room = c.requires.room in
    let m = messages_length _ _ c.self.invariant.all_of in
    let a : length (messages_of c.self.inside.slab.items c.self.inside.entries.items) ≡ length c.args.self.now.messages = ap (λ (w : Flying _). length w.messages) c.self.view_is in
    let b : vec_capacity c.self.inside.entries ≡ c.args.self.now.room = ap (λ (w : Flying _). w.room) c.self.view_is in
    let lt : length c.self.inside.entries.items < vec_capacity c.self.inside.entries = omega arith in
    let x = sent_is c.self.inside.entries.items c.self.inside.slab.items c.keep-slot.new.slab.items c.self.inside.free.items c.keep-slot.new.free.items _ _ _ c.keep-slot.result c.args.message c.self.invariant lt c.keep-slot.ensures.went in
    let rank = c.bisect-at.ensures.rank ∙ ap (λ (es : List IndexEntry). rank_of c.args.message.to c.args.message.id.sender c.args.message.id.seq es) c.deref.ensures.value in
    let v = sent_messages c.self.inside.entries.items c.put.new.items.items c.self.inside.slab.items c.keep-slot.new.slab.items c.self.inside.free.items c.keep-slot.new.free.items _ _ _ c.keep-slot.result c.bisect-at.result c.args.message c.self.invariant x rank c.put.ensures.items in
    ap₂ (λ ms n. record { messages = ms; room = n }) v c.put.ensures.capacity ∙ ap (λ (w : Flying _). record { messages = placed c.args.message w.messages; room = w.room }) c.self.view_is

pub returns-clause-place : goal.returns-clause-place
returns-clause-place g c =
    let sent = returns-clause-sent g c in
    let rank = c.bisect-at.ensures.rank ∙ ap (λ (es : List IndexEntry). rank_of c.args.message.to c.args.message.id.sender c.args.message.id.seq es) c.deref.ensures.value in
    let same = sym (rank_same c.args.message.to c.args.message.id.sender c.args.message.id.seq c.self.inside.slab.items c.self.inside.entries.items c.self.invariant.all_of) in
    let here = ap (λ (w : Flying _). rank_in c.args.message.to c.args.message.id.sender c.args.message.id.seq w.messages) c.self.view_is in
    ap (λ (w : Flying _). slice_get w.messages c.bisect-at.result) sent ∙ (ap (λ (k : ℕ). slice_get (placed c.args.message c.args.self.now.messages) k) (rank ∙ (same ∙ here)) ∙ placed_at c.args.message c.args.self.now.messages)
