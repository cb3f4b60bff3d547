-- The mover notes nothing of a hart.
use Rattle.std.proofs.Common.{ℕ, refl, Option, None, Some}
use Rattle.og_base.specs.declared.Frame.{Frame}
use Rattle.og_base.specs.declared.VPage.{VPage}
use Rattle.og_base.specs.declared.Hot.{Hot}
use Rattle.og_base.specs.declared.Reason.{Reason}
use Rattle.og_line.specs.declared.Line.{Line}
use Rattle.og_runs.specs.declared.Msg.{Msg}
use Rattle.og_msg.specs.declared.Kind.{Kind}
use Rattle.og_msg.specs.declared.Kind.TheVariants.{Nak, InvalAck, PoisonReply, CopyDone, FrameClean, Walk, Dropped}
use Rattle.og_msg.specs.declared.Kind.TheVariants as kind
use Rattle.og_pager.specs.PageTable.{page_of, least_free, walk_of}
use Rattle.og_mover.specs.declared.Phase.TheVariants.{Ask, Collect, Hold, Wait, Publish}
use Rattle.og_mover.specs.declared.Clearing.TheVariants.{Tell, Gather, Clean, Cleaning}
use Rattle.og_mover.specs.declared.Job.{Job}
use Rattle.og_mover.specs.declared.Job.TheVariants.{Idle, Move, Reclaim}
use Rattle.og_mover.specs.Table.{MoverState, act_of, act_by, take_of, kind_taken, walk_answered, move_begun, judged, noticed, decided, reply_taken, ack_taken, refusal_taken, copied_taken, dropped_taken, freed_taken}
use Rattle.og_refine.proofs.Steps.{IsQuiet}

pub act_is_quiet : (m : MoverState) → IsQuiet (act_of m).note
unfolding act_of
act_is_quiet m = by m.job
  where
    by : (job : Job) → IsQuiet (act_by m job).note
    by Idle = tt
    by (Move route (Ask b)) = tt
    by (Move route (Collect b received)) = tt
    by (Move route (Hold b line)) = tt
    by (Move route (Wait b)) = tt
    by (Move route Publish) = refl
    by (Reclaim frame Tell) = tt
    by (Reclaim frame Gather) = tt
    by (Reclaim frame Clean) = tt
    by (Reclaim frame Cleaning) = tt

walk_quiet : (m : MoverState) (p : ℕ) (page : VPage) (o : Option Frame) → IsQuiet (walk_answered m p page o).note
walk_quiet m p page None = tt
walk_quiet m p page (Some frame) = tt

begun_quiet : (m : MoverState) (hot : Hot) (page : VPage) (o : Option Frame) → IsQuiet (move_begun m hot page o).note
begun_quiet m hot page None = tt
begun_quiet m hot page (Some frame) = refl

judged_quiet : (m : MoverState) (hot : Hot) (page : VPage) (o : Option Reason) → IsQuiet (judged m hot page o).note
judged_quiet m hot page None = begun_quiet m hot page (least_free m.pages hot.node)
judged_quiet m hot page (Some reason) = refl

hot_quiet : (m : MoverState) (hot : Hot) (o : Option VPage) → IsQuiet (noticed m hot o).note
hot_quiet m hot None = tt
hot_quiet m hot (Some page) = judged_quiet m hot page (decided m hot page)

reply_quiet : (m : MoverState) (line : Line) (acks : ℕ) (job : Job) → IsQuiet (reply_taken m line acks job).note
reply_quiet m line acks Idle = tt
reply_quiet m line acks (Move route (Ask b)) = tt
reply_quiet m line acks (Move route (Collect b received)) = tt
reply_quiet m line acks (Move route (Hold b held)) = tt
reply_quiet m line acks (Move route (Wait b)) = tt
reply_quiet m line acks (Move route Publish) = tt
reply_quiet m line acks (Reclaim frame step) = tt

ack_quiet : (m : MoverState) (job : Job) → IsQuiet (ack_taken m job).note
ack_quiet m Idle = tt
ack_quiet m (Move route (Ask b)) = tt
ack_quiet m (Move route (Collect b received)) = tt
ack_quiet m (Move route (Hold b held)) = tt
ack_quiet m (Move route (Wait b)) = tt
ack_quiet m (Move route Publish) = tt
ack_quiet m (Reclaim frame step) = tt

refusal_quiet : (m : MoverState) (job : Job) → IsQuiet (refusal_taken m job).note
refusal_quiet m Idle = tt
refusal_quiet m (Move route (Ask b)) = tt
refusal_quiet m (Move route (Collect b received)) = tt
refusal_quiet m (Move route (Hold b held)) = tt
refusal_quiet m (Move route (Wait b)) = tt
refusal_quiet m (Move route Publish) = tt
refusal_quiet m (Reclaim frame step) = tt

copied_quiet : (m : MoverState) (job : Job) → IsQuiet (copied_taken m job).note
copied_quiet m Idle = tt
copied_quiet m (Move route (Ask b)) = tt
copied_quiet m (Move route (Collect b received)) = tt
copied_quiet m (Move route (Hold b held)) = tt
copied_quiet m (Move route (Wait b)) = tt
copied_quiet m (Move route Publish) = tt
copied_quiet m (Reclaim frame step) = tt

dropped_quiet : (m : MoverState) (p : ℕ) (frame : Frame) (job : Job) → IsQuiet (dropped_taken m p job).note
dropped_quiet m p frame Idle = tt
dropped_quiet m p frame (Move route phase) = tt
dropped_quiet m p frame (Reclaim other Tell) = tt
dropped_quiet m p frame (Reclaim other Gather) = tt
dropped_quiet m p frame (Reclaim other Clean) = tt
dropped_quiet m p frame (Reclaim other Cleaning) = tt

freed_quiet : (m : MoverState) (job : Job) → IsQuiet (freed_taken m job).note
freed_quiet m Idle = tt
freed_quiet m (Move route phase) = tt
freed_quiet m (Reclaim other Tell) = tt
freed_quiet m (Reclaim other Gather) = tt
freed_quiet m (Reclaim other Clean) = tt
freed_quiet m (Reclaim other Cleaning) = refl

pub take_is_quiet : (m : MoverState) (message : Msg Kind) → IsQuiet (take_of m message).note
unfolding take_of
take_is_quiet m message = by message.id.sender message.kind
  where
    by : (p : ℕ) (k : Kind) → IsQuiet (kind_taken m p k).note
    by p (Walk page) = walk_quiet m p page (walk_of m.pages page)
    by p (kind.Hot hot) = hot_quiet m hot (page_of m.pages hot.frame)
    by p (PoisonReply b line acks) = reply_quiet m line acks m.job
    by p (InvalAck b) = ack_quiet m m.job
    by p (Nak b) = refusal_quiet m m.job
    by p (CopyDone b) = copied_quiet m m.job
    by p (Dropped frame) = dropped_quiet m p frame m.job
    by p (FrameClean frame) = freed_quiet m m.job
    by p other = tt
