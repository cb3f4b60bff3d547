use Rattle.std.proofs.Common.{◌≡◌, ◌∙◌, ℕ, ◌+◌, arith, refl, ap}
use Rattle.og_engine.specs.Kept.{machine_of}
use Rattle.og_print.proofs.Stormed.{block_some, block_none, sum_is}
use Rattle.og_print.proofs.storm.storm_sum.Goals as goal
use Rattle.og_print.proofs.storm.storm_sum.Goals.{in-Some, in_default}

pub loop-block-preserved : goal.loop-block-preserved
loop-block-preserved c = elim c.match-line.branch [
  | in-Some w ↦ w.sum-is ∙ block_some (machine_of c.args.machine.now) c.loop-block.block c.loop-block.sum _ _ c.line.result w.in-Some.line w.line_sum-sum.result (ap (λ (q : ℕ). record { 0 = 256 + q }) c.from.ensures) refl c.line.ensures w.in-Some.is c.loop-block.invariant w.line_sum-sum.ensures
  | in_default w ↦ w.sum-is ∙ block_none (machine_of c.args.machine.now) c.loop-block.block c.loop-block.sum _ _ c.line.result (ap (λ (q : ℕ). record { 0 = 256 + q }) c.from.ensures) refl c.line.ensures w.in_default.is c.loop-block.invariant
]

pub returns : goal.returns
returns c = sum_is (machine_of c.args.machine.now) c.loop-block.block c.loop-block.sum (let all : c.loop-block.block ≡ 256 = omega arith in all) c.loop-block.invariant
