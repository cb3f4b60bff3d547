-- The bytes are what was read so far.
use Rattle.std.specs.Io.KnownBytes.{Consumes}
use Rattle.og_io.proofs.real.read_within.Given as goal

abbrev pub invariant-loop : goal.invariant-loop
invariant-loop g l = Consumes (g.F.Read.remaining l.initial.reader) (g.F.Read.remaining l.reader) l.bytes.items
