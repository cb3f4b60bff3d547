-- What becomes of a sink to which a text is written.
use Rattle.std.specs.Prelude.{◌≡◌, ℕ, List}
use Rattle.og_io.specs.Outside.{SinkState, appended, AppendsPrefix, Rises}

-- the bytes stand at its end, and its counts are as before
abbrev pub with_appended : SinkState → List ℕ → SinkState
with_appended s bytes = record s { held = appended s.held bytes }

-- some first bytes of the text were appended and the count of faults rose; that of wants is as before
abbrev pub CutByFault : List ℕ → SinkState → SinkState → Type 0
CutByFault text old new = AppendsPrefix text old.held new.held × Rises old.faults new.faults × (new.wants ≡ old.wants)

-- some first bytes of the text were appended and the count of wants rose; that of faults is as before
abbrev pub CutByWant : List ℕ → SinkState → SinkState → Type 0
CutByWant text old new = AppendsPrefix text old.held new.held × Rises old.wants new.wants × (new.faults ≡ old.faults)
