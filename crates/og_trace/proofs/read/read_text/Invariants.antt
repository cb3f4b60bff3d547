use Rattle.std.proofs.Common.{length, ◌≤◌, ◌+◌}
use Rattle.og_trace.proofs.Readings.{IsReading}
use Rattle.og_trace.proofs.read.read_text.Given as goal

-- the lines so far were read, and the rest is left
abbrev pub invariant-loop-rest : goal.invariant-loop-rest
invariant-loop-rest l = record {
  reading : IsReading l.fn.text l.rest l.place l.number l.reading.head l.reading.choices.items l.reading.lines.items l.reading.notes.items;
  room : l.number + length l.rest ≤ length l.fn.text;
}

abbrev pub decreases-loop-rest : goal.decreases-loop-rest
decreases-loop-rest l = length l.rest
