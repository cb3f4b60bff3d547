use Rattle.std.proofs.Common.{◌≡◌, ◌∙◌, ◌-◌, suc, arith, sym}
use Rattle.og_engine.proofs.Drains.{first_end, one_more_answer, no_more_answer}
use Rattle.og_engine.proofs.drain.first_answer.Goals as goal

pub loop-k-init : goal.loop-k-init
loop-k-init c = record { within = let e = c.len-k.ensures.value in omega arith; so_far = sym (first_end c.args.flight.now.messages c.len-k.result c.len-k.ensures.value) }

pub loop-k-preserved-then-is_answer : goal.loop-k-preserved-then-is_answer
loop-k-preserved-then-is_answer c =
    let lt = c.loop-k-test.true in
    let w = c.loop-k.invariant.within in
    let next : suc (c.loop-k.k - 1) ≡ c.loop-k.k = omega arith in
    record {
      within = omega arith;
      so_far = c.sooner-least.ensures ∙ one_more_answer c.args.flight.now.messages c.loop-k.k (c.loop-k.k - 1) c.select-message.result c.loop-k.least next c.select-message.ensures (sym c.is_answer.ensures ∙ c.if-is_answer.true) c.loop-k.invariant.so_far;
    }

pub loop-k-preserved : goal.loop-k-preserved
loop-k-preserved c =
    let lt = c.loop-k-test.true in
    let w = c.loop-k.invariant.within in
    let next : suc (c.loop-k.k - 1) ≡ c.loop-k.k = omega arith in
    record {
      within = omega arith;
      so_far = no_more_answer c.args.flight.now.messages c.loop-k.k (c.loop-k.k - 1) c.select-message.result c.loop-k.least next c.select-message.ensures (sym c.is_answer.ensures ∙ c.if-is_answer.false) c.loop-k.invariant.so_far;
    }
