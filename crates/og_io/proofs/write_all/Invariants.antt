-- What was written and what is left make up the text.
use Rattle.std.proofs.Common.{◌≡◌, ℕ, List, ◌++◌, length}
use Rattle.og_io.specs.Outside.{appended}
use Rattle.og_io.proofs.write_all.Given as goal

abbrev pub invariant-loop-rest : goal.invariant-loop-rest
invariant-loop-rest g l = record {
  split : (written : List ℕ) × (l.text ≡ written ++ l.rest) × ((g.K.Sink.seen l.sink).held ≡ appended (g.K.Sink.seen l.initial.sink).held written);
  faults_stay : (g.K.Sink.seen l.sink).faults ≡ (g.K.Sink.seen l.initial.sink).faults;
  wants_stay : (g.K.Sink.seen l.sink).wants ≡ (g.K.Sink.seen l.initial.sink).wants;
}

abbrev pub decreases-loop-rest : goal.decreases-loop-rest
decreases-loop-rest g l = length l.rest
