-- The mover seen with numbers for frames and pages.
use Rattle.std.specs.Prelude.{ℕ, Option, option_map, slice_index_or}
use Rattle.std.specs.FinSet as set
use Rattle.og_base.specs.declared.Frame.{Frame}
use Rattle.og_line.specs.declared.Line.{Line}
use Rattle.og_pager.specs.declared.Role.{Role}
use Rattle.og_pager.specs.declared.Role.TheVariants.{Free, Mapped, Target, Quarantined}
use Rattle.og_pager.specs.PageTable.{frame_in}
use Rattle.og_mover.specs.declared.Received.{Received}
use Rattle.og_mover.specs.declared.Route.{Route}
use Rattle.og_mover.specs.declared.Phase.{Phase}
use Rattle.og_mover.specs.declared.Phase.TheVariants.{Ask, Collect, Hold, Wait, Publish}
use Rattle.og_mover.specs.declared.Clearing.{Clearing}
use Rattle.og_mover.specs.declared.Clearing.TheVariants.{Tell, Gather, Clean, Cleaning}
use Rattle.og_mover.specs.declared.Job.{Job}
use Rattle.og_mover.specs.declared.Job.TheVariants.{Idle, Move, Reclaim}
use Rattle.og_mover.specs.Table.{MoverState}
use Rattle.og_relate.specs.Data.{MoverJob, MIdle, MAsk, MCollect, MHold, MWait, MPublish, MTell, MGather, MClean, MCleaning, FrameRole, Unused, UsedBy, ReservedFor, Left, Mover}
use Rattle.og_seen.specs.Numbers.{Sizes, frame_number, page_number}

abbrev pub role_seen : Role → FrameRole
role_seen Free = Unused
role_seen (Mapped number) = UsedBy number
role_seen (Target number) = ReservedFor number
role_seen (Quarantined move) = Left

abbrev pub reply_seen : Received → Option (Line × ℕ)
reply_seen received = option_map (λ reply. (reply.line, reply.acks)) received.reply

abbrev pub phase_seen : Sizes → Route → Phase → MoverJob Line
phase_seen s route (Ask b) = MAsk (page_number s route.page) (frame_number s route.old) (frame_number s route.new) b
phase_seen s route (Collect b received) = MCollect (page_number s route.page) (frame_number s route.old) (frame_number s route.new) b (reply_seen received) received.acks
phase_seen s route (Hold b line) = MHold (page_number s route.page) (frame_number s route.old) (frame_number s route.new) b line
phase_seen s route (Wait b) = MWait (page_number s route.page) (frame_number s route.old) (frame_number s route.new) b
phase_seen s route Publish = MPublish (page_number s route.page) (frame_number s route.old) (frame_number s route.new)

abbrev pub clearing_seen : Sizes → Frame → Clearing → MoverJob Line
clearing_seen s frame Tell = MTell (frame_number s frame)
clearing_seen s frame Gather = MGather (frame_number s frame)
clearing_seen s frame Clean = MClean (frame_number s frame)
clearing_seen s frame Cleaning = MCleaning (frame_number s frame)

abbrev pub job_seen : Sizes → Job → MoverJob Line
job_seen s Idle = MIdle
job_seen s (Move route phase) = phase_seen s route phase
job_seen s (Reclaim frame step) = clearing_seen s frame step

-- the page table has a place for each page, and for each frame who holds it and what it is for
abbrev pub mover_seen : Sizes → MoverState → Mover Line
mover_seen s m = record {
  job = job_seen s m.job;
  page_table = λ y. frame_number s (frame_in m.pages y);
  holders = λ f q. set.contains (slice_index_or m.pages.holders f set.empty) q;
  role = λ f. role_seen (slice_index_or m.pages.roles f Free);
}
