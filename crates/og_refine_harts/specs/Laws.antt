-- What events do to harts, and what their notes are then.
use Rattle.std.specs.Prelude.{◌≡◌, Ok, List}
use Rattle.og_base.specs.declared.Settings.{Settings}
use Rattle.og_runs.specs.declared.Event.{Event}
use Rattle.og_msg.specs.declared.Kind.{Kind}
use Rattle.og_msg.specs.declared.Note.{Note}
use Rattle.og_image.specs.Image.{ImageState}
use Rattle.og_processor.specs.State.{ProcessorState}
use Rattle.og_processor.specs.Act.{may_act, act_of}
use Rattle.og_processor.specs.Take.{take_of}
use Rattle.og_processor.specs.Sound.{IsSound}
use Rattle.og_machine.specs.FlatRun.{FlatRun, flat_begin, hart_notes}
use Rattle.og_machine.specs.HartRuns.{HartMoves, HartsRun, Answered}

-- an act that may be made, and any take, does to its processor's hart what it notes
pub record HartsMove : Type 0 where
  pub act : (image : ImageState) (x : ProcessorState) → may_act image x ≡ Ok tt → HartMoves image x.hart (act_of image x).note (act_of image x).state.hart
  pub take : (image : ImageState) (x : ProcessorState) (kind : Kind) → IsSound image x → HartMoves image x.hart (take_of image x kind).note (take_of image x kind).state.hart

-- a run of harts whose accesses have the answers of one flat memory is a flat run
abbrev pub HartRunsAreFlat : Type 0
HartRunsAreFlat =
    (image : ImageState) (settings : Settings) (events : List (Event Note))
    → HartsRun image (flat_begin image settings).harts events → Answered (flat_begin image settings).flat events
    → FlatRun image settings (hart_notes events)
