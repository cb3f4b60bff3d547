use Rattle.std.proofs.Common.{◌≡◌, drop}
use Rattle.og_trace.specs.Reader.{decimal_from}
use Rattle.og_trace.proofs.word.decimal_of.Given as goal

-- the digits that are left, after the number so far, make up the whole
abbrev pub invariant-loop-digit : goal.invariant-loop-digit
invariant-loop-digit l = decimal_from l.number (drop l.digit-index l.word) ≡ decimal_from 0 l.word
