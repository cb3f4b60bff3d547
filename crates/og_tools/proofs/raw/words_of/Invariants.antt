use Rattle.std.proofs.Common.{◌≡◌, ◌++◌, length}
use Rattle.og_tools.specs.Images.{words_of}
use Rattle.og_tools.proofs.raw.words_of.Given as goal

-- the words so far, and then those of the rest, are all
abbrev pub invariant-loop-rest : goal.invariant-loop-rest
invariant-loop-rest l = l.words.items ++ words_of l.rest ≡ words_of l.text

abbrev pub decreases-loop-rest : goal.decreases-loop-rest
decreases-loop-rest l = length l.rest
