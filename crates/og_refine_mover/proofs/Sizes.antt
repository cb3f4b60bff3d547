-- A mover of these sizes stays one: no row changes how many nodes and frames its page table has, nor which pages.
use Rattle.std.proofs.Common.{◌≡◌, ℕ, ◌+◌, Bool, true, false, cond, nat_eq, Option, None, Some, refl, sym, subst}
use Rattle.og_base.specs.declared.Frame.{Frame}
use Rattle.og_base.specs.declared.VPage.{VPage}
use Rattle.og_base.specs.declared.Hot.{Hot}
use Rattle.og_base.specs.declared.Settings.{Settings}
use Rattle.og_base.specs.declared.Reason.{Reason}
use Rattle.og_base.specs.declared.Reason.TheVariants.{Full}
use Rattle.og_runs.specs.declared.Msg.{Msg}
use Rattle.og_line.specs.declared.Line.{Line}
use Rattle.og_msg.specs.declared.Kind.{Kind}
use Rattle.og_msg.specs.declared.Kind.TheVariants.{Nak, InvalAck, PoisonReply, CopyDone, FrameClean, Walk, Dropped}
use Rattle.og_msg.specs.declared.Kind.TheVariants as kind
use Rattle.og_image.specs.Layout.{LayoutState}
use Rattle.og_pager.specs.declared.Moving.{Moving}
use Rattle.og_pager.specs.PageTable.{PageTable, Suits, number_of, page_of, walk_of, least_free, oldest, first_table, with_holder, walked, moving_into, begun, published_move, settled, dropped, reclaimed}
use Rattle.og_mover.specs.declared.Reply.{Reply}
use Rattle.og_mover.specs.declared.Phase.TheVariants.{Collect, Hold, Wait, Publish}
use Rattle.og_mover.specs.declared.Clearing.TheVariants.{Tell, Gather, Clean, Cleaning}
use Rattle.og_mover.specs.declared.Job.{Job}
use Rattle.og_mover.specs.declared.Job.TheVariants.{Move, Reclaim}
use Rattle.og_mover.specs.Table.{MoverState, first_mover, with_job, with_pages, in_phase, walk_answered, move_begun, collect_ended, collected_by, collected, reclaim_begun, judged, decided, noticed, is_unheld, gathered_by, gathered, act_by, act_of, reply_taken, ack_taken, refusal_taken, copied_taken, dropped_taken, freed_taken, kind_taken, take_of, has_act, has_table_row}
use Rattle.og_mover.specs.Sound.{IsMover}
use Rattle.og_mover.proofs.Stays.{stays_laws}
use Rattle.og_seen.specs.Numbers.{Sizes}
use Rattle.og_seen.specs.Sound.{IsMoverOf}
use Rattle.og_refine_mover.specs.Laws.{MoverStaysOf}

-- the page table's sizes are these
abbrev HasSizes : Sizes → PageTable → Type 0
HasSizes s t = (t.nodes ≡ s.nodes) × (t.frames ≡ s.frames) × (t.pages ≡ s.pages)

-- a mover whose page table has these sizes, and the other way round
of_sizes : (s : Sizes) (m : MoverState) → IsMover m → HasSizes s m.pages → IsMoverOf s m
of_sizes s m is h = record { sound = is; nodes = h.0; frames = h.1; pages = h.2 }

sizes_of : (s : Sizes) (m : MoverState) → IsMoverOf s m → HasSizes s m.pages
sizes_of s m is = (is.nodes, is.frames, is.pages)

module _ (s : Sizes) (t : PageTable) (h : HasSizes s t) where
  -- after each change of the page table
  after_walk : (page : VPage) (node : ℕ) → HasSizes s (walked t page node)
  unfolding walked
  after_walk page node = by (walk_of t page)
    where
      by : (o : Option Frame) → HasSizes s (with_holder t node o)
      by None = h
      by (Some frame) = h

  after_begin : (page : VPage) (node : ℕ) → HasSizes s (begun t page node)
  unfolding begun
  after_begin page node = by (number_of t page) (least_free t node)
    where
      by : (o : Option ℕ) (f : Option Frame) → HasSizes s (moving_into t o f)
      by (Some i) (Some new) = h
      by o f = h

  after_settle : HasSizes s (settled t)
  unfolding settled
  after_settle = by t.moving
    where
      by : (o : Option Moving) → HasSizes s (published_move t o)
      by None = h
      by (Some moving) = h

  after_drop : (frame : Frame) (node : ℕ) → HasSizes s (dropped t frame node)
  unfolding dropped
  after_drop frame node = h

  after_reclaim : (frame : Frame) → HasSizes s (reclaimed t frame)
  unfolding reclaimed
  after_reclaim frame = h

-- what only goes on with the job leaves the page table
gathered_pages : (m : MoverState) (j : Job) → (gathered_by m j).pages ≡ m.pages
gathered_pages m (Reclaim frame Gather) = by (is_unheld m.pages frame)
  where
    by : (b : Bool) → (cond b (with_job m (Reclaim frame Clean)) m).pages ≡ m.pages
    by true = refl
    by false = refl
gathered_pages m j = refl

collected_pages : (m : MoverState) (j : Job) → (collected_by m j).pages ≡ m.pages
collected_pages m (Move route (Collect b received)) = by received.reply
  where
    at : (reply : Reply) (test : Bool) → (cond test (in_phase m route (Hold b reply.line)) m).pages ≡ m.pages
    at reply true = refl
    at reply false = refl

    by : (o : Option Reply) → (collect_ended m route b received.acks o).pages ≡ m.pages
    by None = refl
    by (Some reply) = at reply (nat_eq received.acks reply.acks)
collected_pages m j = refl

module _ (s : Sizes) (m : MoverState) (h : HasSizes s m.pages) where
  -- after the gathering and the collecting
  gathers : (u : MoverState) → HasSizes s u.pages → HasSizes s (gathered u).pages
  gathers u k = subst (λ (t : PageTable). HasSizes s t) (sym (gathered_pages u u.job)) k

  collects : (u : MoverState) → HasSizes s u.pages → HasSizes s (collected u).pages
  collects u k = subst (λ (t : PageTable). HasSizes s t) (sym (collected_pages u u.job)) k

  -- after an act
  act_sizes : (j : Job) → HasSizes s (act_by m j).mover.pages
  act_sizes (Move route Publish) = after_settle s m.pages h
  act_sizes (Reclaim frame Tell) = gathers (with_job m (Reclaim frame Gather)) h
  act_sizes j = h

  -- ---- notices and walks

  -- after a walk
  walk_sizes : (p : ℕ) (page : VPage) (o : Option Frame) → HasSizes s (walk_answered m p page o).mover.pages
  walk_sizes p page None = h
  walk_sizes p page (Some frame) = after_walk s m.pages h page p

  -- after a notice: the move begins, a reclaim begins, or nothing more
  begin_sizes : (hot : Hot) (page : VPage) (o : Option Frame) → HasSizes s (move_begun m hot page o).mover.pages
  begin_sizes hot page None = h
  begin_sizes hot page (Some new) = after_begin s m.pages h page hot.node

  reclaim_sizes : (o : Option Frame) → HasSizes s (reclaim_begun m o).pages
  reclaim_sizes None = h
  reclaim_sizes (Some frame) = h

  judged_sizes : (hot : Hot) (page : VPage) (o : Option Reason) → HasSizes s (judged m hot page o).mover.pages
  judged_sizes hot page None = begin_sizes hot page (least_free m.pages hot.node)
  judged_sizes hot page (Some Full) = reclaim_sizes (oldest m.pages hot.node)
  judged_sizes hot page o = h

  notice_sizes : (hot : Hot) (o : Option VPage) → HasSizes s (noticed m hot o).mover.pages
  notice_sizes hot None = h
  notice_sizes hot (Some page) = judged_sizes hot page (decided m hot page)

  -- ---- the other messages

  -- after what comes for a block or a frame
  reply_sizes : (line : Line) (acks : ℕ) (j : Job) → HasSizes s (reply_taken m line acks j).mover.pages
  reply_sizes line acks (Move route (Collect b received)) = collects (in_phase m route (Collect b (record received { reply = Some (record { line = line; acks = acks }) }))) h
  reply_sizes line acks j = h

  ack_sizes : (j : Job) → HasSizes s (ack_taken m j).mover.pages
  ack_sizes (Move route (Collect b received)) = collects (in_phase m route (Collect b (record received { acks = received.acks + 1 }))) h
  ack_sizes j = h

  refusal_sizes : (j : Job) → HasSizes s (refusal_taken m j).mover.pages
  refusal_sizes (Move route (Collect b received)) = h
  refusal_sizes j = h

  copied_sizes : (j : Job) → HasSizes s (copied_taken m j).mover.pages
  copied_sizes (Move route (Wait b)) = h
  copied_sizes j = h

  drop_sizes : (p : ℕ) (j : Job) → HasSizes s (dropped_taken m p j).mover.pages
  drop_sizes p (Reclaim frame Gather) = gathers (with_pages m (dropped m.pages frame p)) (after_drop s m.pages h frame p)
  drop_sizes p j = h

  freed_sizes : (j : Job) → HasSizes s (freed_taken m j).mover.pages
  freed_sizes (Reclaim frame Cleaning) = after_reclaim s m.pages h frame
  freed_sizes j = h

  -- after any message
  kind_sizes : (p : ℕ) (k : Kind) → HasSizes s (kind_taken m p k).mover.pages
  kind_sizes p (Walk page) = walk_sizes p page (walk_of m.pages page)
  kind_sizes p (kind.Hot hot) = notice_sizes hot (page_of m.pages hot.frame)
  kind_sizes p (PoisonReply b line acks) = reply_sizes line acks m.job
  kind_sizes p (InvalAck b) = ack_sizes m.job
  kind_sizes p (Nak b) = refusal_sizes m.job
  kind_sizes p (CopyDone b) = copied_sizes m.job
  kind_sizes p (Dropped frame) = drop_sizes p m.job
  kind_sizes p (FrameClean frame) = freed_sizes m.job
  kind_sizes p k = h

-- the law
first_of_sizes : (layout : LayoutState) (settings : Settings) (s : Sizes) → Suits layout settings.nodes settings.frames → layout.nodes ≡ s.nodes → settings.frames ≡ s.frames → layout.pages ≡ s.pages → IsMoverOf s (first_mover layout settings)
unfolding first_mover first_table
first_of_sizes layout settings s suits n f p = of_sizes s (first_mover layout settings) (stays_laws.start layout settings suits) (n, f, p)

act_of_sizes : (s : Sizes) (m : MoverState) → IsMoverOf s m → has_act m.job ≡ true → IsMoverOf s (act_of m).mover
unfolding act_of
act_of_sizes s m is can = of_sizes s (act_of m).mover (stays_laws.act m is.sound can) (act_sizes s m (sizes_of s m is) m.job)

take_of_sizes : (s : Sizes) (m : MoverState) (message : Msg Kind) → IsMoverOf s m → has_table_row m message ≡ true → IsMoverOf s (take_of m message).mover
unfolding take_of
take_of_sizes s m message is row = of_sizes s (take_of m message).mover (stays_laws.take m message is.sound row) (kind_sizes s m (sizes_of s m is) message.id.sender message.kind)

pub stays_of : MoverStaysOf
stays_of = record { start = first_of_sizes; act = act_of_sizes; take = take_of_sizes }
