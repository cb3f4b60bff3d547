-- The mover copies lines: its message's into its job, and its job's into a letter.
use Rattle.std.proofs.Common.{◌≤◌, ◌+◌, ℕ, Bool, true, false, cond, nat_eq, Option, None, Some, [], arith}
use Rattle.og_base.specs.declared.Frame.{Frame}
use Rattle.og_base.specs.declared.VPage.{VPage}
use Rattle.og_base.specs.declared.Hot.{Hot}
use Rattle.og_base.specs.declared.Reason.{Reason}
use Rattle.og_base.specs.declared.Settings.{Settings}
use Rattle.og_image.specs.Layout.{LayoutState}
use Rattle.og_base.specs.declared.Reason.TheVariants.{Full}
use Rattle.og_runs.specs.declared.Msg.{Msg}
use Rattle.og_line.specs.declared.Line.{Line}
use Rattle.og_msg.specs.declared.Kind.{Kind}
use Rattle.og_msg.specs.declared.Kind.TheVariants.{Nak, InvalAck, PoisonReply, CopyDone, FrameClean, Walk, DropFrame, Dropped}
use Rattle.og_msg.specs.declared.Kind.TheVariants as kind
use Rattle.og_pager.specs.PageTable.{page_of, least_free, oldest, walk_of, dropped}
use Rattle.og_mover.specs.declared.Reply.{Reply}
use Rattle.og_mover.specs.declared.Route.{Route}
use Rattle.og_mover.specs.declared.Phase.{Phase}
use Rattle.og_mover.specs.declared.Phase.TheVariants.{Ask, Collect, Hold, Wait, Publish}
use Rattle.og_mover.specs.declared.Clearing.{Clearing}
use Rattle.og_mover.specs.declared.Clearing.TheVariants.{Tell, Gather, Clean, Cleaning}
use Rattle.og_mover.specs.declared.Job.{Job}
use Rattle.og_mover.specs.declared.Job.TheVariants.{Idle, Move, Reclaim}
use Rattle.og_mover.specs.Table.{MoverState, Done, to, with_pages, with_job, in_phase, is_unheld, act_in_phase, act_in_clearing, act_by, act_of, holders_rising, gathered, gathered_by, collect_ended, collected, collected_in, collected_by, reply_taken, ack_taken, refusal_taken, copied_taken, dropped_taken, freed_taken, walk_answered, noticed, judged, decided, move_begun, after_refusal, reclaim_begun, kind_taken, take_of, first_mover}
use Rattle.og_stores.specs.Stores.{FewInKind, FewInReply, FewInPhase, FewInJob}
use Rattle.og_stores.proofs.Letters.{FewInLetters, told_letters}

pub record Does (n : ℕ) (made : Done) : Type 0 where
  pub job : FewInJob n made.mover.job
  pub letters : FewInLetters n made.letters

nothing : (n : ℕ) (m : MoverState) → FewInJob n m.job → Does n (record { mover = m; letters = []; note = None })
nothing n m few = record { job = few; letters = tt }

pub more_job : (n m : ℕ) (job : Job) → n ≤ m → FewInJob n job → FewInJob m job
more_job n m Idle le few = tt
more_job n m (Move route phase) le few = by phase few
  where
    by_reply : (o : Option Reply) → FewInReply n o → FewInReply m o
    by_reply None h = tt
    by_reply (Some reply) h = omega arith

    by : (phase : Phase) → FewInPhase n phase → FewInPhase m phase
    by (Ask b) h = tt
    by (Collect b received) h = by_reply received.reply h
    by (Hold b line) h = omega arith
    by (Wait b) h = tt
    by Publish h = tt
more_job n m (Reclaim frame step) le few = tt

pub first_job : (n : ℕ) (layout : LayoutState) (settings : Settings) → FewInJob n (first_mover layout settings).job
unfolding first_mover
first_job n layout settings = tt

-- ---- what comes after a row

-- the line of the reply is held
collected_few : (n : ℕ) (m : MoverState) → FewInJob n m.job → FewInJob n (collected m).job
collected_few n m few = by m.job few
  where
    by_test : (route : Route) (b : ℕ) (reply : Reply) (t : Bool) → reply.line.stores ≤ n → FewInJob n (cond t (in_phase m route (Hold b reply.line)) m).job
    by_test route b reply true h = h
    by_test route b reply false h = few

    by_reply : (route : Route) (b acks : ℕ) (o : Option Reply) → FewInReply n o → FewInJob n (collect_ended m route b acks o).job
    by_reply route b acks None h = few
    by_reply route b acks (Some reply) h = by_test route b reply (nat_eq acks reply.acks) h

    by_phase : (route : Route) (phase : Phase) → FewInPhase n phase → FewInJob n (collected_in m route phase).job
    by_phase route (Collect b received) h = by_reply route b received.acks received.reply h
    by_phase route phase h = few

    by : (job : Job) → FewInJob n job → FewInJob n (collected_by m job).job
    by (Move route phase) h = by_phase route phase h
    by job h = few

gathered_few : (n : ℕ) (m : MoverState) → FewInJob n m.job → FewInJob n (gathered m).job
gathered_few n m few = by m.job
  where
    by_test : (frame : Frame) (t : Bool) → FewInJob n (cond t (with_job m (Reclaim frame Clean)) m).job
    by_test frame true = tt
    by_test frame false = few

    by : (job : Job) → FewInJob n (gathered_by m job).job
    by (Reclaim frame Gather) = by_test frame (is_unheld m.pages frame)
    by job = few

-- ---- the mover's own steps

act_phase : (n : ℕ) (m : MoverState) (route : Route) (phase : Phase) → FewInJob n m.job → FewInPhase n phase → Does n (act_in_phase m route phase)
act_phase n m route (Ask b) few h = record { job = tt; letters = (tt, tt) }
act_phase n m route (Hold b line) few h = record { job = tt; letters = (h, tt) }
act_phase n m route Publish few h = record { job = tt; letters = tt }
act_phase n m route phase few h = nothing n m few

act_clearing : (n : ℕ) (m : MoverState) (frame : Frame) (step : Clearing) → FewInJob n m.job → Does n (act_in_clearing m frame step)
act_clearing n m frame Tell few = record { job = gathered_few n (with_job m (Reclaim frame Gather)) tt; letters = told_letters n (λ q. to q (DropFrame frame)) (λ q. tt) (holders_rising m frame) }
act_clearing n m frame Clean few = record { job = tt; letters = (tt, tt) }
act_clearing n m frame step few = nothing n m few

pub mover_act_few : (n : ℕ) (m : MoverState) → FewInJob n m.job → Does n (act_of m)
unfolding act_of
mover_act_few n m few = by m.job few
  where
    by : (job : Job) → FewInJob n job → Does n (act_by m job)
    by Idle h = nothing n m few
    by (Move route phase) h = act_phase n m route phase few h
    by (Reclaim frame step) h = act_clearing n m frame step few

-- ---- messages that a job waits for

reply_few : (n : ℕ) (m : MoverState) (line : Line) (acks : ℕ) (job : Job) → FewInJob n m.job → line.stores ≤ n → Does n (reply_taken m line acks job)
reply_few n m line acks (Move route (Collect b received)) few h = record { job = collected_few n (in_phase m route (Collect b (record received { reply = Some (record { line = line; acks = acks }) }))) h; letters = tt }
reply_few n m line acks job few h = nothing n m few

ack_few : (n : ℕ) (m : MoverState) (job : Job) → FewInJob n m.job → FewInJob n job → Does n (ack_taken m job)
ack_few n m (Move route (Collect b received)) few h = record { job = collected_few n (in_phase m route (Collect b (record received { acks = received.acks + 1 }))) h; letters = tt }
ack_few n m job few h = nothing n m few

refusal_few : (n : ℕ) (m : MoverState) (job : Job) → FewInJob n m.job → Does n (refusal_taken m job)
refusal_few n m (Move route (Collect b received)) few = record { job = tt; letters = tt }
refusal_few n m job few = nothing n m few

copied_few : (n : ℕ) (m : MoverState) (job : Job) → FewInJob n m.job → Does n (copied_taken m job)
copied_few n m (Move route (Wait b)) few = record { job = by (nat_eq b 31); letters = tt }
  where
    by : (t : Bool) → FewInPhase n (cond t Publish (Ask (b + 1)))
    by true = tt
    by false = tt
copied_few n m job few = nothing n m few

dropped_few : (n : ℕ) (m : MoverState) (p : ℕ) (job : Job) → FewInJob n m.job → Does n (dropped_taken m p job)
dropped_few n m p (Reclaim frame Gather) few = record { job = gathered_few n (with_pages m (dropped m.pages frame p)) few; letters = tt }
dropped_few n m p job few = nothing n m few

freed_few : (n : ℕ) (m : MoverState) (job : Job) → FewInJob n m.job → Does n (freed_taken m job)
freed_few n m (Reclaim frame Cleaning) few = record { job = tt; letters = tt }
freed_few n m job few = nothing n m few

-- ---- notices and walks

begun_few : (n : ℕ) (m : MoverState) (hot : Hot) (page : VPage) (o : Option Frame) → FewInJob n m.job → Does n (move_begun m hot page o)
begun_few n m hot page None few = nothing n m few
begun_few n m hot page (Some new) few = record { job = tt; letters = tt }

-- a reclaim may begin after a refusal
refused_few : (n : ℕ) (m : MoverState) (hot : Hot) (reason : Reason) → FewInJob n m.job → FewInJob n (after_refusal hot reason m).job
refused_few n m hot Full few = by (oldest m.pages hot.node)
  where
    by : (o : Option Frame) → FewInJob n (reclaim_begun m o).job
    by None = few
    by (Some frame) = tt
refused_few n m hot reason few = few

judged_few : (n : ℕ) (m : MoverState) (hot : Hot) (page : VPage) (o : Option Reason) → FewInJob n m.job → Does n (judged m hot page o)
judged_few n m hot page None few = begun_few n m hot page (least_free m.pages hot.node) few
judged_few n m hot page (Some reason) few = record { job = refused_few n m hot reason few; letters = (tt, tt) }

noticed_few : (n : ℕ) (m : MoverState) (hot : Hot) (o : Option VPage) → FewInJob n m.job → Does n (noticed m hot o)
noticed_few n m hot None few = nothing n m few
noticed_few n m hot (Some page) few = judged_few n m hot page (decided m hot page) few

walked_few : (n : ℕ) (m : MoverState) (p : ℕ) (page : VPage) (o : Option Frame) → FewInJob n m.job → Does n (walk_answered m p page o)
walked_few n m p page None few = record { job = few; letters = (tt, tt) }
walked_few n m p page (Some frame) few = record { job = few; letters = (tt, tt) }

-- ---- all messages

pub mover_take_few : (n : ℕ) (m : MoverState) (message : Msg Kind) → FewInJob n m.job → FewInKind n message.kind → Does n (take_of m message)
unfolding take_of
mover_take_few n m message few h = by message.kind h
  where
    by : (k : Kind) → FewInKind n k → Does n (kind_taken m message.id.sender k)
    by (Walk page) h = walked_few n m message.id.sender page (walk_of m.pages page) few
    by (kind.Hot hot) h = noticed_few n m hot (page_of m.pages hot.frame) few
    by (PoisonReply b line acks) h = reply_few n m line acks m.job few h
    by (InvalAck b) h = ack_few n m m.job few few
    by (Nak b) h = refusal_few n m m.job few
    by (CopyDone b) h = copied_few n m m.job few
    by (Dropped frame) h = dropped_few n m message.id.sender m.job few
    by (FrameClean frame) h = freed_few n m m.job few
    by k h = nothing n m few
