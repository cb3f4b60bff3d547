-- What was written and the parts that are left make up the text.
use Rattle.std.proofs.Common.{◌≡◌, ℕ, List, ◌++◌, drop}
use Rattle.og_io.specs.Outside.{appended, parts_text}
use Rattle.og_io.proofs.write_parts.Given as goal

abbrev pub invariant-loop-part : goal.invariant-loop-part
invariant-loop-part g l = record {
  split : (written : List ℕ) × (parts_text l.parts ≡ written ++ parts_text (drop l.part-index l.parts)) × ((g.K.Sink.seen l.sink).held ≡ appended (g.K.Sink.seen l.initial.sink).held written);
  faults_stay : (g.K.Sink.seen l.sink).faults ≡ (g.K.Sink.seen l.initial.sink).faults;
  wants_stay : (g.K.Sink.seen l.sink).wants ≡ (g.K.Sink.seen l.initial.sink).wants;
}
