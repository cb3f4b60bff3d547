use Rattle.std.proofs.Common.{◌≡◌, drop}
use Rattle.og_trace.specs.Reader.{hex_from}
use Rattle.og_trace.proofs.word.hex_of.Given as goal

-- the digits that are left, after the number so far, make up the whole
abbrev pub invariant-loop-digit : goal.invariant-loop-digit
invariant-loop-digit l = hex_from l.number (drop l.digit-index l.word) ≡ hex_from 0 l.word
