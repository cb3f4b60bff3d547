use Rattle.std.proofs.Common.{◌≡◌, ◌<◌, arith, length, vec_len, ap}
use Rattle.og_engine.specs.Kept.{KeptMachine}
use Rattle.og_engine.proofs.Acts.{nobody_as}
use Rattle.og_engine.proofs.Machine.act.Goals as goal

pub returns-then-at-len-2-clause-refused : goal.returns-then-at-len-2-clause-refused
returns-then-at-len-2-clause-refused c =
    let count : length c.self.inside.nodes.items ≡ length c.args.self.now.nodes = ap (λ (m : KeptMachine). length m.nodes) c.self.view_is in
    let here : c.from-at.result ≡ c.args.actor = c.from-at.ensures in
    let len : c.len-2.result ≡ vec_len c.self.inside.nodes = c.len-2.ensures in
    let above : c.len-2.result < c.from-at.result = c.if-at-len-2.true in
    let lt : length c.args.self.now.nodes < c.args.actor = omega (arith, c.self.inside.nodes.ok.0) in
    nobody_as c.args.image.now c.args.self.now c.args.actor lt
