use Rattle.std.proofs.Common.{arith}
use Rattle.og_image.specs.Image.{start_byte}
use Rattle.og_flat.proofs.Lines.{line_is}
use Rattle.og_flat.proofs.machine.start_line.Goals as goal

pub returns : goal.returns
returns c =
    line_is (start_byte c.args.image.now) c.args.block c.loop-i.line c.loop-i.invariant.size c.loop-i.invariant.none (λ k lt. c.loop-i.invariant.bytes k (omega arith))
