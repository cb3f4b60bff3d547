use Rattle.std.proofs.Common.{◌≡◌, ◌+◌, ℕ, suc, arith, ap, sym, drop, length, Bool, true, false, Some, cond, is_some}
use Rattle.std.proofs.Math.Path.{◌∙◌}
use Rattle.std.proofs.lemmas.Bool.Decides.{nat_tests}
use Rattle.og_runs.specs.Runs.{same_id}
use Rattle.og_runs.specs.World.{find}
use Rattle.og_flight.proofs.Receivers.{find_step}
use Rattle.og_flight.proofs.Flight.holds.Goals as goal

pub returns-then-eq : goal.returns-then-eq
returns-then-eq g c =
    let e = c.eq.ensures in
    let t = c.if-eq.true in
    let same : same_id c.args.id c.select.result.id ≡ true = grind (arith, nat_tests) in
    let s = find_step c.args.id c.args.self.now.messages c.loop-k.k c.select.result c.select.ensures in
    let f = sym c.loop-k.invariant.not_yet ∙ (s ∙ ap (λ (b : Bool). cond b (Some c.select.result) (find c.args.id (drop (suc c.loop-k.k) c.args.self.now.messages))) same) in
    sym (ap (λ o. is_some o) f)

pub loop-k-preserved : goal.loop-k-preserved
loop-k-preserved g c =
    let e = c.eq.ensures in
    let t = c.if-eq.false in
    let lt = c.loop-k-test.true in
    let n : c.len.result ≡ length c.args.self.now.messages = c.len.ensures.value in
    let other : same_id c.args.id c.select.result.id ≡ false = grind (arith, nat_tests) in
    let s = find_step c.args.id c.args.self.now.messages c.loop-k.k c.select.result c.select.ensures in
    let k : suc c.loop-k.k ≡ c.loop-k.k + 1 = omega arith in
    record {
      within = omega arith;
      not_yet = sym (ap (λ (j : ℕ). find c.args.id (drop j c.args.self.now.messages)) k) ∙ (sym (s ∙ ap (λ (b : Bool). cond b (Some c.select.result) (find c.args.id (drop (suc c.loop-k.k) c.args.self.now.messages))) other) ∙ c.loop-k.invariant.not_yet);
    }
