-- What decides a run that began in threads.
use Rattle.std.specs.Prelude.{◌≡◌, ℕ, Bool, List}
use Rattle.og_runs.specs.declared.Event.{Event}
use Rattle.og_msg.specs.declared.Note.{Note}
use Rattle.og_machine.specs.Machine.{Setup}
use Rattle.og_finish.specs.Finish.{IsThreadRun}

-- the merged events, and how many events may be made, decide the whole run
abbrev pub ThreadRunsAreOne : Type 0
ThreadRunsAreOne =
    (setup : Setup) (most : ℕ) (merged events others : List (Event Note)) (quiet other : Bool)
    → IsThreadRun setup most merged events quiet → IsThreadRun setup most merged others other
    → (events ≡ others) × (quiet ≡ other)
