-- What a run's text says is in the ranges of the text's grammar.
use Rattle.std.specs.Prelude.{◌<◌, ◌^◌, Bool, List, length}
use Rattle.og_runs.specs.declared.Choice.{Choice}
use Rattle.og_runs.specs.declared.Event.{Event}
use Rattle.og_msg.specs.declared.Note.{Note}
use Rattle.og_trace.specs.Text.{items_of}
use Rattle.og_trace.specs.Grammar.{AllInRange}
use Rattle.og_machine.specs.Machine.{Setup, Machine}
use Rattle.og_refine.specs.Machines.{IsRunnable}
use Rattle.og_refine.specs.Laws.{RunsTo}
use Rattle.og_ranges.specs.Bytes.{HasBytes}

-- the numbers of each line of the text of a run of fewer than 2^63 events are in their ranges
abbrev pub RunsAreInRange : Type 0
RunsAreInRange =
    (setup : Setup) (choices : List Choice) (w : Machine) (events : List (Event Note)) (quiet : Bool)
    → IsRunnable setup → HasBytes setup.image → RunsTo setup choices w events → length events < 2 ^ 63
    → AllInRange (items_of setup.settings events quiet)
