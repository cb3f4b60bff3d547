-- No event leaves an actor with all that it waits for.
use Rattle.std.specs.Prelude.{◌≡◌, ◌≢◌, ℕ, true, false, Ok, Some}
use Rattle.og_base.specs.declared.Frame.{Frame}
use Rattle.og_base.specs.declared.Settings.{Settings}
use Rattle.og_runs.specs.declared.Msg.{Msg}
use Rattle.og_msg.specs.declared.Kind.{Kind}
use Rattle.og_image.specs.Image.{ImageState}
use Rattle.og_image.specs.Layout.{LayoutState}
use Rattle.og_request.specs.declared.Outcome.TheVariants.{Waiting}
use Rattle.og_request.specs.Request.{Requested, outcome_of}
use Rattle.og_processor.specs.State.{ProcessorState, new_processor}
use Rattle.og_processor.specs.Act.{may_act, act_of}
use Rattle.og_processor.specs.Take.{is_occupied, take_of}
use Rattle.og_mover.specs.declared.Reply.{Reply}
use Rattle.og_mover.specs.declared.Received.{Received}
use Rattle.og_mover.specs.declared.Route.{Route}
use Rattle.og_mover.specs.declared.Phase.TheVariants.{Collect}
use Rattle.og_mover.specs.declared.Clearing.TheVariants.{Gather}
use Rattle.og_mover.specs.declared.Job.TheVariants.{Move, Reclaim}
use Rattle.og_mover.specs.Table.{MoverState, first_mover, is_unheld, has_act, act_of as mover_act_of, has_table_row, take_of as mover_take_of}
use Rattle.og_mover.specs.Sound.{IsMover}

-- a processor's request waits for a part, and a request to drop a frame is held only while something is outstanding
pub record IsPatient (x : ProcessorState) : Type 0 where
  pub waits : (request : Requested) → x.request ≡ Some request → outcome_of request ≡ Waiting
  pub drop : (frame : Frame) → x.drop ≡ Some frame → is_occupied x ≡ true

-- at the start, after an act that may be made, and after each message, whether it has a row or not
pub record ProcessorsArePatient : Type 0 where
  pub start : (image : ImageState) (settings : Settings) (p : ℕ) → IsPatient (new_processor image settings p)
  pub act : (image : ImageState) (x : ProcessorState) → IsPatient x → may_act image x ≡ Ok tt → IsPatient (act_of image x).state
  pub take : (image : ImageState) (x : ProcessorState) (kind : Kind) → IsPatient x → IsPatient (take_of image x kind).state

-- a reply that the mover keeps names another number of acknowledgements than came, and a frame that is gathered has a holder
pub record IsPatientMover (m : MoverState) : Type 0 where
  pub replies : (route : Route) (b : ℕ) (received : Received) (reply : Reply) → m.job ≡ Move route (Collect b received) → received.reply ≡ Some reply → received.acks ≢ reply.acks
  pub gathers : (frame : Frame) → m.job ≡ Reclaim frame Gather → is_unheld m.pages frame ≡ false

-- at the start, after each step of its own, and after each message that has a row
pub record MoverIsPatient : Type 0 where
  pub start : (layout : LayoutState) (settings : Settings) → IsPatientMover (first_mover layout settings)
  pub act : (m : MoverState) → has_act m.job ≡ true → IsPatientMover (mover_act_of m).mover
  pub take : (m : MoverState) (message : Msg Kind) → IsMover m → IsPatientMover m → has_table_row m message ≡ true → IsPatientMover (mover_take_of m message).mover
