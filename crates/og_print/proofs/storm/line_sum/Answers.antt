use Rattle.std.proofs.Common.{◌≡◌, ◌∙◌, ◌%◌, ◌^◌, ℕ, arith, ap}
use Rattle.og_print.specs.Storm.{line_sum}
use Rattle.og_print.proofs.storm.line_sum.Goals as goal

pub returns : goal.returns
returns c =
    let all : c.loop-at.at ≡ 16 = omega arith in
    c.loop-at.invariant ∙ ap (λ (n : ℕ). line_sum n c.args.line.now % 2 ^ 64) all
