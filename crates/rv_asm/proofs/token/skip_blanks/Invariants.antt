-- the blanks that were passed add no token
use Rattle.std.proofs.Common.{◌≡◌, length}
use Rattle.rv_asm.specs.Syntax.{tokens_of}
use Rattle.rv_asm.proofs.token.skip_blanks.Given as goal

abbrev pub invariant-loop-rest : goal.invariant-loop-rest
invariant-loop-rest l = tokens_of l.rest ≡ tokens_of l.fn.text

abbrev pub decreases-loop-rest : goal.decreases-loop-rest
decreases-loop-rest l = length l.rest
