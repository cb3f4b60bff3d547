-- The mover's table: what the mover makes of its own next step and of each message, in a machine of n nodes. Each row gives
-- the mover afterwards, the letters in the order in which they are sent, and what is noted. An event is a row, in some cases
-- followed by a second one, which sends and notes nothing: after parts were received a block is collected, after a refusal a
-- reclaim begins, and after frames were told or dropped the gathering ends.
use Rattle.std.specs.Prelude.{ℕ, ◌+◌, ◌^◌, ◌&&◌, Bool, true, false, nat_eq, nat_lt, nat_le, Option, Some, None, List, [], ◌∷◌, map, is_some, is_none, option_map, if◌then◌else◌}
use Rattle.std.specs.List.{filter}
use Rattle.std.specs.FinSet as set
use Rattle.og_base.specs.declared.VPage.{VPage}
use Rattle.og_base.specs.declared.Frame.{Frame}
use Rattle.og_base.specs.declared.Block.{Block}
use Rattle.og_base.specs.declared.Hot.{Hot}
use Rattle.og_base.specs.declared.Settings.{Settings}
use Rattle.og_base.specs.declared.Reason.{Reason}
use Rattle.og_base.specs.declared.Reason.TheVariants.{Full}
use Rattle.og_base.specs.Names.{is_same_page, is_same_frame, is_same_block}
use Rattle.og_base.specs.Numbers.{below}
use Rattle.og_runs.specs.declared.Letter.{Letter}
use Rattle.og_runs.specs.declared.Msg.{Msg}
use Rattle.og_line.specs.declared.Line.{Line}
use Rattle.og_msg.specs.Kinds.{line_of}
use Rattle.og_msg.specs.declared.Kind.{Kind}
use Rattle.og_msg.specs.declared.Kind.TheVariants.{Nak, InvalAck, PoisonRead, PoisonReply, CopyIn, CopyDone, CleanFrame, FrameClean, Rearm, Walk, Walked, WalkRetry, DropFrame, Dropped}
use Rattle.og_msg.specs.declared.Kind.TheVariants as kind
use Rattle.og_msg.specs.declared.Note.{Note}
use Rattle.og_msg.specs.declared.Note.TheVariants.{Begin, No, Moved, Freed}
use Rattle.og_policy.specs.Policy.{decision}
use Rattle.og_image.specs.Layout.{LayoutState}
use Rattle.og_pager.specs.PageTable.{PageTable, first_table, has_frame, frame_of, page_of, moves_of, holders_of, has_free, least_free, oldest, walk_of, walked, begun, settled, dropped, reclaimed}
use Rattle.og_mover.specs.declared.Reply.{Reply}
use Rattle.og_mover.specs.declared.Received.{Received}
use Rattle.og_mover.specs.declared.Route.{Route}
use Rattle.og_mover.specs.declared.Phase.{Phase}
use Rattle.og_mover.specs.declared.Phase.TheVariants.{Ask, Collect, Hold, Wait, Publish}
use Rattle.og_mover.specs.declared.Clearing.{Clearing}
use Rattle.og_mover.specs.declared.Clearing.TheVariants.{Tell, Gather, Clean, Cleaning}
use Rattle.og_mover.specs.declared.Job.{Job}
use Rattle.og_mover.specs.declared.Job.TheVariants.{Idle, Move, Reclaim}

-- what contracts see of a mover
pub record MoverState : Type 0 where
  pub pages : PageTable
  pub job : Job
  pub settings : Settings

-- what a row makes
pub record Done : Type 0 where
  pub mover : MoverState
  pub letters : List (Letter Kind)
  pub note : Option Note

abbrev pub done : MoverState → List (Letter Kind) → Option Note → Done
done mover letters note = record { mover = mover; letters = letters; note = note }

-- a row, and then one that sends and notes nothing
abbrev pub and_then : Done → (MoverState → MoverState) → Done
and_then first second = record first { mover = second first.mover }

abbrev pub to : ℕ → Kind → Letter Kind
to actor kind = record { to = actor; kind = kind }

abbrev pub block : Frame → ℕ → Block
block frame number = record { frame = frame; number = number }

abbrev pub with_pages : MoverState → PageTable → MoverState
with_pages m pages = record m { pages = pages }

abbrev pub with_job : MoverState → Job → MoverState
with_job m job = record m { job = job }

abbrev pub is_idle_job : Job → Bool
is_idle_job Idle = true
is_idle_job job = false

-- ------------------------------------------------------------ walks

-- node p asks for a page: it is told the frame and holds it, or has to ask again while the page moves
abbrev pub walk_answered : MoverState → ℕ → VPage → Option Frame → Done
walk_answered m p page None = done m (to p (WalkRetry page) ∷ []) None
walk_answered m p page (Some frame) = done (with_pages m (walked m.pages page p)) (to p (Walked page frame) ∷ []) None

abbrev pub walk_row : MoverState → ℕ → VPage → Done
walk_row m p page = walk_answered m p page (walk_of m.pages page)

-- ------------------------------------------------------------ moves

-- to move: the page of the notice goes into the hot node's least free frame, block by block
abbrev pub route_of : Hot → VPage → Frame → Route
route_of hot page new = record { page = page; old = hot.frame; new = new }

abbrev pub move_begun : MoverState → Hot → VPage → Option Frame → Done
move_begun m hot page None = done m [] None
move_begun m hot page (Some new) =
    done (record m { pages = begun m.pages page hot.node; job = Move (route_of hot page new) (Ask 0) }) [] (Some (Begin page hot.frame new))

abbrev pub begin_row : MoverState → Hot → VPage → Done
begin_row m hot page = move_begun m hot page (least_free m.pages hot.node)

abbrev pub in_phase : MoverState → Route → Phase → MoverState
in_phase m route phase = with_job m (Move route phase)

-- block b of the old frame is poisoned and asked for
abbrev pub ask_row : MoverState → Route → ℕ → Done
ask_row m route b = done (in_phase m route (Collect b (record { reply = None; acks = 0 }))) (to route.old.home (PoisonRead (block route.old b)) ∷ []) None

-- the reply with the line has come
abbrev pub reply_row : MoverState → Route → ℕ → Received → Line → ℕ → Done
reply_row m route b received line acks =
    done (in_phase m route (Collect b (record received { reply = Some (record { line = line; acks = acks }) }))) [] None

-- a sharer's acknowledgement has come
abbrev pub acknowledged_row : MoverState → Route → ℕ → Received → Done
acknowledged_row m route b received = done (in_phase m route (Collect b (record received { acks = received.acks + 1 }))) [] None

-- when the reply and all its acknowledgements are there, the block is collected
abbrev pub collect_ended : MoverState → Route → ℕ → ℕ → Option Reply → MoverState
collect_ended m route b acks None = m
collect_ended m route b acks (Some reply) = if nat_eq acks reply.acks then in_phase m route (Hold b reply.line) else m

abbrev pub collected_in : MoverState → Route → Phase → MoverState
collected_in m route (Collect b received) = collect_ended m route b received.acks received.reply
collected_in m route phase = m

abbrev pub collected_by : MoverState → Job → MoverState
collected_by m (Move route phase) = collected_in m route phase
collected_by m job = m

abbrev pub collected : MoverState → MoverState
collected m = collected_by m m.job

-- the home was busy: the block is asked for once more
abbrev pub refused_row : MoverState → Route → ℕ → Done
refused_row m route b = done (in_phase m route (Ask b)) [] None

-- the line is written into block b of the new frame
abbrev pub copy_row : MoverState → Route → ℕ → Line → Done
copy_row m route b line = done (in_phase m route (Wait b)) (to route.new.home (CopyIn (block route.new b) line) ∷ []) None

-- it was written: the next block is asked for, and after block 31 the page is published
abbrev pub copied_row : MoverState → Route → ℕ → Done
copied_row m route b = done (in_phase m route (if nat_eq b 31 then Publish else Ask (b + 1))) [] None

-- the page table names the new frame, the page was moved once more, and the old frame is in quarantine
abbrev pub publish_row : MoverState → Route → Done
publish_row m route = done (record m { pages = settled m.pages; job = Idle }) [] (Some (Moved route.page route.old route.new))

-- ------------------------------------------------------------ refusals

abbrev pub refuse_row : MoverState → Hot → Reason → Done
refuse_row m hot reason = done m (to hot.frame.home (Rearm hot.frame) ∷ []) (Some (No reason hot.frame hot.node))

abbrev pub reclaim_begun : MoverState → Option Frame → MoverState
reclaim_begun m None = m
reclaim_begun m (Some frame) = with_job m (Reclaim frame Tell)

-- after a refusal since nothing is free, the reclaim of the hot node's oldest frame in quarantine begins
abbrev pub after_refusal : Hot → Reason → MoverState → MoverState
after_refusal hot Full m = reclaim_begun m (oldest m.pages hot.node)
after_refusal hot reason m = m

-- why the page of a notice isn't moved
abbrev pub decided : MoverState → Hot → VPage → Option Reason
decided m hot page = decision hot (moves_of m.pages page) (is_idle_job m.job) (has_free m.pages hot.node) m.settings

abbrev pub judged : MoverState → Hot → VPage → Option Reason → Done
judged m hot page None = begin_row m hot page
judged m hot page (Some reason) = and_then (refuse_row m hot reason) (after_refusal hot reason)

abbrev pub noticed : MoverState → Hot → Option VPage → Done
noticed m hot None = done m [] None
noticed m hot (Some page) = judged m hot page (decided m hot page)

abbrev pub hot_row : MoverState → Hot → Done
hot_row m hot = noticed m hot (page_of m.pages hot.frame)

-- ------------------------------------------------------------ reclaims

-- the holders of a frame, rising
unfoldable pub holders_rising : MoverState → Frame → List ℕ
holders_rising m frame = filter (set.contains (holders_of m.pages frame)) (below m.pages.nodes)

-- each holder is told to drop the frame
abbrev pub tell_row : MoverState → Frame → Done
tell_row m frame = done (with_job m (Reclaim frame Gather)) (map (λ q. to q (DropFrame frame)) (holders_rising m frame)) None

-- node p has dropped the frame
abbrev pub dropped_row : MoverState → ℕ → Frame → Done
dropped_row m p frame = done (with_pages m (dropped m.pages frame p)) [] None

-- no node holds a frame
abbrev pub is_unheld : PageTable → Frame → Bool
is_unheld t frame = nat_eq (set.len (holders_of t frame)) 0

-- when no holder is left the frame can be cleaned
abbrev pub gathered_by : MoverState → Job → MoverState
gathered_by m (Reclaim frame Gather) = if is_unheld m.pages frame then with_job m (Reclaim frame Clean) else m
gathered_by m job = m

abbrev pub gathered : MoverState → MoverState
gathered m = gathered_by m m.job

-- the frame's home is to make its blocks usable again
abbrev pub clean_row : MoverState → Frame → Done
clean_row m frame = done (with_job m (Reclaim frame Cleaning)) (to frame.home (CleanFrame frame) ∷ []) None

-- they are: the frame is free
abbrev pub freed_row : MoverState → Frame → Done
freed_row m frame = done (record m { pages = reclaimed m.pages frame; job = Idle }) [] (Some (Freed frame))

-- ------------------------------------------------------------ events

abbrev pub phase_has_act : Phase → Bool
phase_has_act (Ask b) = true
phase_has_act (Hold b line) = true
phase_has_act Publish = true
phase_has_act phase = false

abbrev pub clearing_has_act : Clearing → Bool
clearing_has_act Tell = true
clearing_has_act Clean = true
clearing_has_act step = false

-- whether the mover has something to do of its own accord
abbrev pub has_act : Job → Bool
has_act Idle = false
has_act (Move route phase) = phase_has_act phase
has_act (Reclaim frame step) = clearing_has_act step

abbrev pub act_in_phase : MoverState → Route → Phase → Done
act_in_phase m route (Ask b) = ask_row m route b
act_in_phase m route (Hold b line) = copy_row m route b line
act_in_phase m route Publish = publish_row m route
act_in_phase m route phase = done m [] None

abbrev pub act_in_clearing : MoverState → Frame → Clearing → Done
act_in_clearing m frame Tell = and_then (tell_row m frame) gathered
act_in_clearing m frame Clean = clean_row m frame
act_in_clearing m frame step = done m [] None

abbrev pub act_by : MoverState → Job → Done
act_by m Idle = done m [] None
act_by m (Move route phase) = act_in_phase m route phase
act_by m (Reclaim frame step) = act_in_clearing m frame step

-- the mover's own next step
unfoldable pub act_of : MoverState → Done
act_of m = act_by m m.job

-- what each phase makes of what it waits for
abbrev pub reply_in_phase : MoverState → Line → ℕ → Route → Phase → Done
reply_in_phase m line acks route (Collect b received) = and_then (reply_row m route b received line acks) collected
reply_in_phase m line acks route phase = done m [] None

abbrev pub reply_taken : MoverState → Line → ℕ → Job → Done
reply_taken m line acks (Move route phase) = reply_in_phase m line acks route phase
reply_taken m line acks job = done m [] None

abbrev pub ack_in_phase : MoverState → Route → Phase → Done
ack_in_phase m route (Collect b received) = and_then (acknowledged_row m route b received) collected
ack_in_phase m route phase = done m [] None

abbrev pub ack_taken : MoverState → Job → Done
ack_taken m (Move route phase) = ack_in_phase m route phase
ack_taken m job = done m [] None

abbrev pub refusal_in_phase : MoverState → Route → Phase → Done
refusal_in_phase m route (Collect b received) = refused_row m route b
refusal_in_phase m route phase = done m [] None

abbrev pub refusal_taken : MoverState → Job → Done
refusal_taken m (Move route phase) = refusal_in_phase m route phase
refusal_taken m job = done m [] None

abbrev pub copied_in_phase : MoverState → Route → Phase → Done
copied_in_phase m route (Wait b) = copied_row m route b
copied_in_phase m route phase = done m [] None

abbrev pub copied_taken : MoverState → Job → Done
copied_taken m (Move route phase) = copied_in_phase m route phase
copied_taken m job = done m [] None

abbrev pub dropped_in_clearing : MoverState → ℕ → Frame → Clearing → Done
dropped_in_clearing m p frame Gather = and_then (dropped_row m p frame) gathered
dropped_in_clearing m p frame step = done m [] None

abbrev pub dropped_taken : MoverState → ℕ → Job → Done
dropped_taken m p (Reclaim frame step) = dropped_in_clearing m p frame step
dropped_taken m p job = done m [] None

abbrev pub freed_in_clearing : MoverState → Frame → Clearing → Done
freed_in_clearing m frame Cleaning = freed_row m frame
freed_in_clearing m frame step = done m [] None

abbrev pub freed_taken : MoverState → Job → Done
freed_taken m (Reclaim frame step) = freed_in_clearing m frame step
freed_taken m job = done m [] None

-- what the mover makes of a message of this kind from node p
abbrev pub kind_taken : MoverState → ℕ → Kind → Done
kind_taken m p (Walk page) = walk_row m p page
kind_taken m p (kind.Hot hot) = hot_row m hot
kind_taken m p (PoisonReply b line acks) = reply_taken m line acks m.job
kind_taken m p (InvalAck b) = ack_taken m m.job
kind_taken m p (Nak b) = refusal_taken m m.job
kind_taken m p (CopyDone b) = copied_taken m m.job
kind_taken m p (Dropped frame) = dropped_taken m p m.job
kind_taken m p (FrameClean frame) = freed_taken m m.job
kind_taken m p other = done m [] None

unfoldable pub take_of : MoverState → Msg Kind → Done
take_of m msg = kind_taken m msg.id.sender msg.kind

-- ------------------------------------------------------------ which messages have a row

-- the reply can come: it is the first one, and no more acknowledgements are there than it names
abbrev pub awaits_reply : Block → ℕ → Route → Phase → Bool
awaits_reply b acks route (Collect k received) = is_same_block b (block route.old k) && (is_none received.reply && nat_le received.acks acks)
awaits_reply b acks route phase = false

-- one more acknowledgement can come: fewer are there than the reply names or, before the reply, than there are nodes
abbrev pub has_ack_left : ℕ → ℕ → Option Reply → Bool
has_ack_left n acks None = nat_lt acks n
has_ack_left n acks (Some reply) = nat_lt acks reply.acks

abbrev pub awaits_ack : ℕ → Block → Route → Phase → Bool
awaits_ack n b route (Collect k received) = is_same_block b (block route.old k) && has_ack_left n received.acks received.reply
awaits_ack n b route phase = false

abbrev pub awaits_refusal : Block → Route → Phase → Bool
awaits_refusal b route (Collect k received) = is_same_block b (block route.old k)
awaits_refusal b route phase = false

abbrev pub awaits_copy : Block → Route → Phase → Bool
awaits_copy b route (Wait k) = is_same_block b (block route.new k)
awaits_copy b route phase = false

-- a holder's answer can come
abbrev pub awaits_drop : PageTable → ℕ → Frame → Frame → Clearing → Bool
awaits_drop t p f frame Gather = is_same_frame f frame && set.contains (holders_of t frame) p
awaits_drop t p f frame step = false

abbrev pub awaits_cleaning : Frame → Frame → Clearing → Bool
awaits_cleaning f frame Cleaning = is_same_frame f frame
awaits_cleaning f frame step = false

abbrev pub when_moving : (Route → Phase → Bool) → Job → Bool
when_moving waits (Move route phase) = waits route phase
when_moving waits job = false

abbrev pub when_reclaiming : (Frame → Clearing → Bool) → Job → Bool
when_reclaiming waits (Reclaim frame step) = waits frame step
when_reclaiming waits job = false

-- a notice names a node of the machine and a frame that has a page
abbrev pub is_known : PageTable → Hot → Bool
is_known t hot = has_frame t hot.frame && (nat_lt hot.node t.nodes && is_some (page_of t hot.frame))

-- a walk has a row where it names a placed page, and a notice where it names a node of the machine and a frame that has a
-- page; any other message where the job's phase waits for it, for this block or frame
abbrev pub has_kind_row : MoverState → ℕ → Kind → Bool
has_kind_row m p (Walk page) = is_some (frame_of m.pages page)
has_kind_row m p (kind.Hot hot) = is_known m.pages hot
has_kind_row m p (PoisonReply b line acks) = when_moving (awaits_reply b acks) m.job
has_kind_row m p (InvalAck b) = when_moving (awaits_ack m.pages.nodes b) m.job
has_kind_row m p (Nak b) = when_moving (awaits_refusal b) m.job
has_kind_row m p (CopyDone b) = when_moving (awaits_copy b) m.job
has_kind_row m p (Dropped f) = when_reclaiming (awaits_drop m.pages p f) m.job
has_kind_row m p (FrameClean f) = when_reclaiming (awaits_cleaning f) m.job
has_kind_row m p other = false

-- the table has a row for the message, which a node has sent
unfoldable pub has_table_row : MoverState → Msg Kind → Bool
has_table_row m msg = nat_lt msg.id.sender m.pages.nodes && has_kind_row m msg.id.sender msg.kind

abbrev pub is_low_line : Option Line → Bool
is_low_line None = true
is_low_line (Some line) = nat_lt line.stores (2 ^ 55)

-- a message's clock, its number and, if it has a line, the line's number of stores are low
unfoldable pub is_low : Msg Kind → Bool
is_low msg = nat_lt msg.stamp.clock (2 ^ 55) && (nat_lt msg.id.seq (2 ^ 55) && is_low_line (line_of msg.kind))

-- ------------------------------------------------------------ where a block is

-- block k of a page that is being moved is in its new frame once it was copied
abbrev pub place_in : Phase → Route → ℕ → Frame
place_in (Ask b) route k = if nat_lt k b then route.new else route.old
place_in (Collect b received) route k = if nat_lt k b then route.new else route.old
place_in (Hold b line) route k = if nat_lt k b then route.new else route.old
place_in (Wait b) route k = if nat_lt k b then route.new else route.old
place_in Publish route k = route.new

abbrev pub place_by : Job → VPage → ℕ → Frame → Frame
place_by (Move route phase) page k frame = if is_same_page route.page page then place_in phase route k else frame
place_by job page k frame = frame

-- the frame in which block k of a page is, if the page is placed: the page table's, but for a page that is being moved
unfoldable pub place_of : MoverState → VPage → ℕ → Option Frame
place_of m page k = option_map (place_by m.job page k) (frame_of m.pages page)

-- ------------------------------------------------------------ the start

-- every page is in its first frame, and the mover has nothing to do
unfoldable pub first_mover : LayoutState → Settings → MoverState
first_mover layout settings = record { pages = first_table layout settings.frames; job = Idle; settings = settings }
