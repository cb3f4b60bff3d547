use Rattle.std.proofs.Common.{rules, ◌≡◌, arith, sym, ap, length}
use Rattle.std.proofs.Math.Path.{◌∙◌}
use Rattle.std.specs.Prelude.{vec_len, vec_capacity}
use Rattle.og_flight.specs.Flight.{Flying}
use Rattle.og_flight.proofs.Slots.{messages_length}
use Rattle.og_flight.proofs.Flight.len.Goals as goal

pub returns-clause-value : goal.returns-clause-value
returns-clause-value g c =
    let n : vec_len c.self.inside.entries ≡ length c.self.inside.entries.items = search rules in
    let v = ap (λ (w : Flying _). length w.messages) c.self.view_is in
    c.len.ensures ∙ (n ∙ (sym (messages_length _ _ c.self.invariant.all_of) ∙ v))

pub returns-clause-within : goal.returns-clause-within
returns-clause-within g c =
    let n : vec_len c.self.inside.entries ≡ length c.self.inside.entries.items = search rules in
    let is : c.len.result ≡ length c.self.inside.entries.items = c.len.ensures ∙ n in
    let b : vec_capacity c.self.inside.entries ≡ c.args.self.now.room = ap (λ (w : Flying _). w.room) c.self.view_is in
    let t = c.self.invariant.total in
    let w = c.self.invariant.within in omega arith

pub returns-clause-small : goal.returns-clause-small
returns-clause-small g c =
    let b : vec_capacity c.self.inside.entries ≡ c.args.self.now.room = ap (λ (w : Flying _). w.room) c.self.view_is in
    let s = c.self.invariant.small in omega arith
