-- A mover stays one after each row.
use Rattle.std.proofs.Common.{◌≡◌, ℕ, ◌+◌, ◌<◌, ◌≤◌, ◌&&◌, lit<, Bool, true, false, cond, nat_eq, nat_lt, Option, Some, None, is_some, refl, sym, ◌∙◌, subst, arith}
use Rattle.std.specs.FinSet as set
use Rattle.std.proofs.lemmas.Bool.Decides.{nat_tests}
use Rattle.og_base.specs.declared.Frame.{Frame}
use Rattle.og_base.specs.declared.VPage.{VPage}
use Rattle.og_base.specs.declared.Hot.{Hot}
use Rattle.og_base.specs.declared.Settings.{Settings}
use Rattle.og_base.specs.declared.Reason.{Reason}
use Rattle.og_base.specs.declared.Reason.TheVariants.{Busy, Shared, Worn, Full}
use Rattle.og_runs.specs.declared.Msg.{Msg}
use Rattle.og_line.specs.declared.Line.{Line}
use Rattle.og_msg.specs.declared.Kind.{Kind}
use Rattle.og_msg.specs.declared.Kind.TheVariants.{Nak, InvalAck, PoisonReply, CopyDone, FrameClean, Walk, Dropped}
use Rattle.og_msg.specs.declared.Kind.TheVariants as kind
use Rattle.og_image.specs.Layout.{LayoutState}
use Rattle.og_pager.specs.PageTable.{IsFrame, Suits, has_frame, page_of, holders_of, move_of, least_free, oldest, settled, dropped}
use Rattle.og_pager.proofs.Seen.{first_laws, found_laws, walk_laws, drop_laws, reclaim_laws}
use Rattle.og_mover.specs.declared.Reply.{Reply}
use Rattle.og_mover.specs.declared.Received.{Received}
use Rattle.og_mover.specs.declared.Route.{Route}
use Rattle.og_mover.specs.declared.Phase.{Phase}
use Rattle.og_mover.specs.declared.Phase.TheVariants.{Ask, Collect, Hold, Wait, Publish}
use Rattle.og_mover.specs.declared.Clearing.{Clearing}
use Rattle.og_mover.specs.declared.Clearing.TheVariants.{Tell, Gather, Clean, Cleaning}
use Rattle.og_mover.specs.declared.Job.{Job}
use Rattle.og_mover.specs.declared.Job.TheVariants.{Idle, Move, Reclaim}
use Rattle.og_mover.specs.Table.{MoverState, first_mover, with_job, in_phase, is_unheld, has_act, act_in_phase, act_in_clearing, act_by, act_of, gathered, collect_ended, collected, reply_in_phase, reply_taken, ack_in_phase, ack_taken, refusal_in_phase, refusal_taken, copied_in_phase, copied_taken, dropped_in_clearing, dropped_taken, freed_in_clearing, freed_taken, walk_row, hot_row, noticed, judged, decided, move_begun, reclaim_begun, is_known, kind_taken, has_kind_row, take_of, has_table_row}
use Rattle.og_mover.specs.Sound.{IsMover, IsJob, IsRoute, IsPhase, IsCleared, IsClearing, MayMove}
use Rattle.og_mover.specs.Laws.{MoverStays}
use Rattle.og_mover.proofs.Kept.{settled_table, begun_table, job_after_walk, cleared_after_drop, moved_so, full_so, walk_row_mover}

and_left : (a b : Bool) → (a && b) ≡ true → a ≡ true
and_left true b e = refl
and_left false b e = e

and_right : (a b : Bool) → (a && b) ≡ true → b ≡ true
and_right true b e = e
and_right false b e = absurd (cc)

below : (a b : ℕ) → nat_lt a b ≡ true → a < b
below a b e = grind (arith, nat_tests)

same_number : (a b : ℕ) → nat_eq a b ≡ true → a ≡ b
same_number a b e = grind (arith, nat_tests)

module _ (m : MoverState) (is : IsMover m) where
  job_as : (job : Job) → m.job ≡ job → IsJob m.pages m.settings job
  job_as job e = subst (λ (j : Job). IsJob m.pages m.settings j) e is.job

  going_on : (route : Route) (phase : Phase) → IsRoute m.pages m.settings route → IsPhase phase → IsMover (in_phase m route phase)
  going_on route phase r p = record { pages = is.pages; job = (r, p) }

  clearing_on : (frame : Frame) (step : Clearing) → IsCleared m.pages frame → IsClearing m.pages frame step → IsMover (with_job m (Reclaim frame step))
  clearing_on frame step f s = record { pages = is.pages; job = (f, s) }

  -- ------------------------------------------------------------ moves

  collecting : (route : Route) (b : ℕ) (received : Received) → IsRoute m.pages m.settings route → b < 32 → IsMover (collected (in_phase m route (Collect b received)))
  collecting route b received r low = by_reply received.reply
    where
      by_test : (reply : Reply) (test : Bool) → IsMover (cond test (in_phase (in_phase m route (Collect b received)) route (Hold b reply.line)) (in_phase m route (Collect b received)))
      by_test reply true = record { pages = is.pages; job = (r, low) }
      by_test reply false = record { pages = is.pages; job = (r, low) }

      by_reply : (reply : Option Reply) → IsMover (collect_ended (in_phase m route (Collect b received)) route b received.acks reply)
      by_reply None = record { pages = is.pages; job = (r, low) }
      by_reply (Some reply) = by_test reply (nat_eq received.acks reply.acks)

  publishing : (route : Route) → IsRoute m.pages m.settings route → IsMover (record m { pages = settled m.pages; job = Idle })
  publishing route r = let after = settled_table m.pages m.settings route is.pages r in record { pages = after.0; job = after.1 }

  act_phase : (route : Route) (phase : Phase) → IsRoute m.pages m.settings route × IsPhase phase → IsMover (act_in_phase m route phase).mover
  act_phase route (Ask b) it = record { pages = is.pages; job = (it.0, it.1) }
  act_phase route (Collect b received) it = is
  act_phase route (Hold b line) it = record { pages = is.pages; job = (it.0, it.1) }
  act_phase route (Wait b) it = is
  act_phase route Publish it = publishing route it.0

  reply_phase : (line : Line) (acks : ℕ) (route : Route) (phase : Phase) → IsRoute m.pages m.settings route × IsPhase phase → IsMover (reply_in_phase m line acks route phase).mover
  reply_phase line acks route (Ask b) it = is
  reply_phase line acks route (Collect b received) it = collecting route b (record received { reply = Some (record { line = line; acks = acks }) }) it.0 it.1
  reply_phase line acks route (Hold b l) it = is
  reply_phase line acks route (Wait b) it = is
  reply_phase line acks route Publish it = is

  ack_phase : (route : Route) (phase : Phase) → IsRoute m.pages m.settings route × IsPhase phase → IsMover (ack_in_phase m route phase).mover
  ack_phase route (Ask b) it = is
  ack_phase route (Collect b received) it = collecting route b (record received { acks = received.acks + 1 }) it.0 it.1
  ack_phase route (Hold b l) it = is
  ack_phase route (Wait b) it = is
  ack_phase route Publish it = is

  refusal_phase : (route : Route) (phase : Phase) → IsRoute m.pages m.settings route × IsPhase phase → IsMover (refusal_in_phase m route phase).mover
  refusal_phase route (Ask b) it = is
  refusal_phase route (Collect b received) it = record { pages = is.pages; job = (it.0, it.1) }
  refusal_phase route (Hold b l) it = is
  refusal_phase route (Wait b) it = is
  refusal_phase route Publish it = is

  copied_phase : (route : Route) (phase : Phase) → IsRoute m.pages m.settings route × IsPhase phase → IsMover (copied_in_phase m route phase).mover
  copied_phase route (Ask b) it = is
  copied_phase route (Collect b received) it = is
  copied_phase route (Hold b l) it = is
  copied_phase route (Wait b) it = record { pages = is.pages; job = (it.0, by_test (nat_eq b 31) refl) }
    where
      by_test : (test : Bool) → nat_eq b 31 ≡ test → IsPhase (cond test Publish (Ask (b + 1)))
      by_test true e = tt
      by_test false e = let low : b < 32 = it.1 in grind (arith, nat_tests)
  copied_phase route Publish it = is

  -- ------------------------------------------------------------ reclaims

  gathering : (frame : Frame) → IsCleared m.pages frame → IsMover (gathered (with_job m (Reclaim frame Gather)))
  gathering frame f = by_test (is_unheld m.pages frame) refl
    where
      by_test : (test : Bool) → is_unheld m.pages frame ≡ test → IsMover (cond test (with_job (with_job m (Reclaim frame Gather)) (Reclaim frame Clean)) (with_job m (Reclaim frame Gather)))
      by_test true e = record { pages = is.pages; job = (f, same_number (set.len (holders_of m.pages frame)) 0 e) }
      by_test false e = record { pages = is.pages; job = (f, tt) }

  act_clearing : (frame : Frame) (step : Clearing) → IsCleared m.pages frame × IsClearing m.pages frame step → IsMover (act_in_clearing m frame step).mover
  act_clearing frame Tell it = gathering frame it.0
  act_clearing frame Gather it = is
  act_clearing frame Clean it = record { pages = is.pages; job = (it.0, it.1) }
  act_clearing frame Cleaning it = is

  freed_clearing : (frame : Frame) (step : Clearing) → IsCleared m.pages frame × IsClearing m.pages frame step → IsMover (freed_in_clearing m frame step).mover
  freed_clearing frame Tell it = is
  freed_clearing frame Gather it = is
  freed_clearing frame Clean it = is
  freed_clearing frame Cleaning it = record { pages = reclaim_laws.sound m.pages frame is.pages it.0.1 it.0.2; job = reclaim_laws.move m.pages frame ∙ it.0.0 }

  -- ------------------------------------------------------------ notices

  begin_kept : (hot : Hot) (page : VPage) (o : Option Frame) → page_of m.pages hot.frame ≡ Some page → IsFrame m.pages hot.frame → hot.node < m.pages.nodes → MayMove m hot page → least_free m.pages hot.node ≡ o → IsMover (move_begun m hot page o).mover
  begin_kept hot page None there inside node may e = is
  begin_kept hot page (Some new) there inside node may e = let after = begun_table m hot page new is.pages there inside node may e in record { pages = after.0; job = (after.1, lit< tt) }

  reclaim_kept : (node : ℕ) (o : Option Frame) → node < m.pages.nodes → move_of m.pages ≡ None → oldest m.pages node ≡ o → IsMover (reclaim_begun m o)
  reclaim_kept node None inside idle e = is
  reclaim_kept node (Some frame) inside idle e = let found = found_laws.oldest m.pages node frame is.pages inside e in record { pages = is.pages; job = ((idle, found.0, found.1), tt) }

  judged_kept : (hot : Hot) (page : VPage) (o : Option Reason) → page_of m.pages hot.frame ≡ Some page → IsFrame m.pages hot.frame → hot.node < m.pages.nodes → decided m hot page ≡ o → IsMover (judged m hot page o).mover
  judged_kept hot page None there inside node e = begin_kept hot page (least_free m.pages hot.node) there inside node (moved_so m hot page is e) refl
  judged_kept hot page (Some Busy) there inside node e = is
  judged_kept hot page (Some Shared) there inside node e = is
  judged_kept hot page (Some Worn) there inside node e = is
  judged_kept hot page (Some Full) there inside node e = reclaim_kept hot.node (oldest m.pages hot.node) node (full_so m hot page is e) refl

  hot_kept : (hot : Hot) → is_known m.pages hot ≡ true → IsMover (hot_row m hot).mover
  hot_kept hot known = by_page (page_of m.pages hot.frame) refl
    where
      framed : has_frame m.pages hot.frame ≡ true
      framed = and_left (has_frame m.pages hot.frame) _ known

      inside : IsFrame m.pages hot.frame
      inside = (below hot.frame.home m.pages.nodes (and_left (nat_lt hot.frame.home m.pages.nodes) _ framed), below hot.frame.index m.pages.frames (and_right (nat_lt hot.frame.home m.pages.nodes) _ framed))

      node : hot.node < m.pages.nodes
      node = below hot.node m.pages.nodes (and_left (nat_lt hot.node m.pages.nodes) (is_some (page_of m.pages hot.frame)) (and_right (has_frame m.pages hot.frame) _ known))

      by_page : (o : Option VPage) → page_of m.pages hot.frame ≡ o → IsMover (noticed m hot o).mover
      by_page None e = is
      by_page (Some page) e = judged_kept hot page (decided m hot page) e inside node refl

  walk_kept : (p : ℕ) (page : VPage) → IsMover (walk_row m p page).mover
  walk_kept p page = subst IsMover (sym (walk_row_mover m p page)) (record { pages = walk_laws.sound m.pages page p is.pages; job = job_after_walk m.pages is.pages m.settings page p m.job is.job })

-- a holder has dropped the frame
drop_kept : (m : MoverState) (is : IsMover m) (p : ℕ) (frame : Frame) (step : Clearing) → m.job ≡ Reclaim frame step → IsCleared m.pages frame × IsClearing m.pages frame step → IsMover (dropped_in_clearing m p frame step).mover
drop_kept m is p frame Tell e it = is
drop_kept m is p frame Clean e it = is
drop_kept m is p frame Cleaning e it = is
drop_kept m is p frame Gather e it = subst (λ (j : Job). IsMover (gathered (record m { pages = dropped m.pages frame p; job = j }))) (sym e) (gathering after kept frame cleared)
  where
    after : MoverState
    after = record m { pages = dropped m.pages frame p; job = Reclaim frame Gather }

    cleared : IsCleared (dropped m.pages frame p) frame
    cleared = cleared_after_drop m.pages is.pages frame p it.0

    kept : IsMover (record m { pages = dropped m.pages frame p; job = Reclaim frame Gather })
    kept = record { pages = drop_laws.sound m.pages frame p is.pages; job = (cleared, tt) }

-- ------------------------------------------------------------ events

act_kept : (m : MoverState) (is : IsMover m) (job : Job) → m.job ≡ job → IsMover (act_by m job).mover
act_kept m is Idle e = is
act_kept m is (Move route phase) e = act_phase m is route phase (job_as m is (Move route phase) e)
act_kept m is (Reclaim frame step) e = act_clearing m is frame step (job_as m is (Reclaim frame step) e)

reply_kept : (m : MoverState) (is : IsMover m) (line : Line) (acks : ℕ) (job : Job) → m.job ≡ job → IsMover (reply_taken m line acks job).mover
reply_kept m is line acks Idle e = is
reply_kept m is line acks (Move route phase) e = reply_phase m is line acks route phase (job_as m is (Move route phase) e)
reply_kept m is line acks (Reclaim frame step) e = is

ack_kept : (m : MoverState) (is : IsMover m) (job : Job) → m.job ≡ job → IsMover (ack_taken m job).mover
ack_kept m is Idle e = is
ack_kept m is (Move route phase) e = ack_phase m is route phase (job_as m is (Move route phase) e)
ack_kept m is (Reclaim frame step) e = is

refusal_kept : (m : MoverState) (is : IsMover m) (job : Job) → m.job ≡ job → IsMover (refusal_taken m job).mover
refusal_kept m is Idle e = is
refusal_kept m is (Move route phase) e = refusal_phase m is route phase (job_as m is (Move route phase) e)
refusal_kept m is (Reclaim frame step) e = is

copied_kept : (m : MoverState) (is : IsMover m) (job : Job) → m.job ≡ job → IsMover (copied_taken m job).mover
copied_kept m is Idle e = is
copied_kept m is (Move route phase) e = copied_phase m is route phase (job_as m is (Move route phase) e)
copied_kept m is (Reclaim frame step) e = is

dropped_kept : (m : MoverState) (is : IsMover m) (p : ℕ) (job : Job) → m.job ≡ job → IsMover (dropped_taken m p job).mover
dropped_kept m is p Idle e = is
dropped_kept m is p (Move route phase) e = is
dropped_kept m is p (Reclaim frame step) e = drop_kept m is p frame step e (job_as m is (Reclaim frame step) e)

freed_kept : (m : MoverState) (is : IsMover m) (job : Job) → m.job ≡ job → IsMover (freed_taken m job).mover
freed_kept m is Idle e = is
freed_kept m is (Move route phase) e = is
freed_kept m is (Reclaim frame step) e = freed_clearing m is frame step (job_as m is (Reclaim frame step) e)

kind_kept : (m : MoverState) (is : IsMover m) (p : ℕ) (k : Kind) → has_kind_row m p k ≡ true → IsMover (kind_taken m p k).mover
kind_kept m is p (Walk page) row = walk_kept m is p page
kind_kept m is p (kind.Hot hot) row = hot_kept m is hot row
kind_kept m is p (PoisonReply b line acks) row = reply_kept m is line acks m.job refl
kind_kept m is p (InvalAck b) row = ack_kept m is m.job refl
kind_kept m is p (Nak b) row = refusal_kept m is m.job refl
kind_kept m is p (CopyDone b) row = copied_kept m is m.job refl
kind_kept m is p (Dropped f) row = dropped_kept m is p m.job refl
kind_kept m is p (FrameClean f) row = freed_kept m is m.job refl
kind_kept m is p _ row = is

act_stays : (m : MoverState) → IsMover m → has_act m.job ≡ true → IsMover (act_of m).mover
unfolding act_of
act_stays m is can = act_kept m is m.job refl

take_stays : (m : MoverState) (msg : Msg Kind) → IsMover m → has_table_row m msg ≡ true → IsMover (take_of m msg).mover
unfolding take_of has_table_row
take_stays m msg is row = kind_kept m is msg.id.sender msg.kind (and_right (nat_lt msg.id.sender m.pages.nodes) _ row)

start_stays : (layout : LayoutState) (settings : Settings) → Suits layout settings.nodes settings.frames → IsMover (first_mover layout settings)
unfolding first_mover
start_stays layout settings suits =
    let nodes : layout.nodes ≡ settings.nodes = suits.shared in
    let some : 1 ≤ layout.nodes = omega (arith, settings.nodes_in_range.0) in
    let few : layout.nodes ≤ 128 = omega (arith, settings.nodes_in_range.1) in
    let each : 1 ≤ settings.frames = omega (arith, settings.frames_in_range.0) in
    let most : settings.frames ≤ 1024 = omega (arith, settings.frames_in_range.1) in
    let fits : Suits layout layout.nodes settings.frames = record { shared = refl; rising = suits.rising; room = rw nodes suits.room } in
    record { pages = first_laws.sound layout settings.frames some few each most fits; job = first_laws.idle layout settings.frames }

pub stays_laws : MoverStays
stays_laws = record { start = start_stays; act = act_stays; take = take_stays }
