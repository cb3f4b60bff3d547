use Rattle.std.proofs.Common.{◌≡◌, ◌-◌, ℕ, suc, arith, ap, sym, drop}
use Rattle.std.proofs.Math.Path.{◌∙◌}
use Rattle.og_flight.specs.Flight.{first_sent, sooner_of}
use Rattle.og_flight.proofs.Receivers.{first_step, first_none}
use Rattle.og_flight.proofs.Flight.least.Goals as goal

pub loop-k-init : goal.loop-k-init
loop-k-init g c = record { within = let e = c.len-k.ensures.value in omega arith; so_far = sym (first_none c.args.self.now.messages c.len-k.result c.len-k.ensures.value) }

pub loop-k-preserved : goal.loop-k-preserved
loop-k-preserved g c =
    let lt = c.loop-k-test.true in
    let w = c.loop-k.invariant.within in
    let s : suc (c.loop-k.k - 1) ≡ c.loop-k.k = omega arith in
    record {
      within = omega arith;
      so_far = c.sooner-least.ensures ∙ (ap (λ o. sooner_of c.select-message.result o) (c.loop-k.invariant.so_far ∙ ap (λ (n : ℕ). first_sent (drop n c.args.self.now.messages)) (sym s)) ∙ sym (first_step c.args.self.now.messages (c.loop-k.k - 1) c.select-message.result c.select-message.ensures));
    }
