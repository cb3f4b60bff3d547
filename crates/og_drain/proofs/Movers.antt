-- What the mover sends and has left weighs less than what it had left, and a message.
use Rattle.std.proofs.Common.{◌≡◌, ◌∙◌, ◌≤◌, ◌<◌, ℕ, suc, ◌+◌, ◌*◌, ◌-◌, Bool, true, false, cond, nat_eq, ◌&&◌, Option, None, Some, refl, sym, ap, length, map, nat_lt, arith}
use Rattle.std.specs.FinSet as set
use Rattle.std.proofs.Math.Nat.{mul-suc}
use Rattle.og_base.specs.declared.Frame.{Frame}
use Rattle.og_base.specs.declared.VPage.{VPage}
use Rattle.og_base.specs.declared.Hot.{Hot}
use Rattle.og_base.specs.declared.Block.{Block}
use Rattle.og_base.specs.declared.Reason.{Reason}
use Rattle.og_base.specs.declared.Reason.TheVariants.{Full}
use Rattle.og_runs.specs.declared.Msg.{Msg}
use Rattle.og_line.specs.declared.Line.{Line}
use Rattle.og_msg.specs.declared.Kind.{Kind}
use Rattle.og_msg.specs.declared.Kind.TheVariants.{Nak, InvalAck, PoisonReply, CopyDone, FrameClean, Walk, DropFrame, Dropped}
use Rattle.og_msg.specs.declared.Kind.TheVariants as kind
use Rattle.og_pager.specs.PageTable.{holders_of, page_of, least_free, oldest, walk_of, dropped}
use Rattle.og_mover.specs.declared.Reply.{Reply}
use Rattle.og_mover.specs.declared.Received.{Received}
use Rattle.og_mover.specs.declared.Route.{Route}
use Rattle.og_mover.specs.declared.Phase.{Phase}
use Rattle.og_mover.specs.declared.Phase.TheVariants.{Ask, Collect, Hold, Wait, Publish}
use Rattle.og_mover.specs.declared.Clearing.{Clearing}
use Rattle.og_mover.specs.declared.Clearing.TheVariants.{Tell, Gather, Clean, Cleaning}
use Rattle.og_mover.specs.declared.Job.{Job}
use Rattle.og_mover.specs.declared.Job.TheVariants.{Idle, Move, Reclaim}
use Rattle.og_mover.specs.Table.{MoverState, Done, to, with_pages, with_job, in_phase, is_unheld, has_act, act_in_phase, act_in_clearing, act_by, act_of, holders_rising, gathered, gathered_by, collect_ended, collected, collected_in, collected_by, reply_taken, ack_taken, refusal_taken, copied_taken, dropped_taken, freed_taken, walk_row, walk_answered, hot_row, noticed, judged, decided, move_begun, after_refusal, reclaim_begun, kind_taken, take_of, phase_has_act, clearing_has_act, when_moving, when_reclaiming, awaits_reply, awaits_ack, awaits_refusal, awaits_copy, awaits_drop, awaits_cleaning, has_kind_row, has_table_row}
use Rattle.og_mover.specs.Sound.{IsMover, IsJob, IsPhase}
use Rattle.og_drain.specs.Measure.{most, weight, letters_weight, rest, phase_left, clearing_left, job_left}
use Rattle.og_drain.proofs.Sums.{twos, few_pass}

-- what is sent and left weighs less than w
abbrev Pays : (nodes w : ℕ) → Done → Type 0
Pays nodes w made = letters_weight nodes made.letters + job_left nodes made.mover.job + 1 ≤ w

-- ---- what is left of a move

-- a block more
rest_more : (nodes b : ℕ) → b < 32 → rest nodes (32 - b) ≡ rest nodes (31 - b) + (2 * nodes + 6)
rest_more nodes b low = ap (rest nodes) (let e : 32 - b ≡ suc (31 - b) = omega arith in e) ∙ together (2 * nodes + 6) (31 - b)
  where
    together : (c l : ℕ) → c * suc l + 1 ≡ c * l + 1 + c
    together c l = let e : c * suc l ≡ c * l + c = mul-suc c l in omega arith

-- the block after this one
rest_next : (nodes b : ℕ) → rest nodes (32 - (b + 1)) ≡ rest nodes (31 - b)
rest_next nodes b = ap (rest nodes) (let e : 32 - (b + 1) ≡ 31 - b = omega arith in e)

-- something is left
rest_some : (nodes l : ℕ) → 1 ≤ rest nodes l
rest_some nodes l = some ((2 * nodes + 6) * l)
  where
    some : (y : ℕ) → 1 ≤ y + 1
    some y = omega arith

-- ---- what comes after a row leaves as much

collected_left : (nodes : ℕ) (m : MoverState) → job_left nodes (collected m).job ≡ job_left nodes m.job
collected_left nodes m = by m.job refl
  where
    by_test : (route : Route) (b : ℕ) (received : Received) (reply : Reply) (t : Bool) → m.job ≡ Move route (Collect b received) → job_left nodes (cond t (in_phase m route (Hold b reply.line)) m).job ≡ job_left nodes m.job
    by_test route b received reply true e = sym (ap (job_left nodes) e)
    by_test route b received reply false e = refl

    by_reply : (route : Route) (b : ℕ) (received : Received) (o : Option Reply) → m.job ≡ Move route (Collect b received) → job_left nodes (collect_ended m route b received.acks o).job ≡ job_left nodes m.job
    by_reply route b received None e = refl
    by_reply route b received (Some reply) e = by_test route b received reply (nat_eq received.acks reply.acks) e

    by_phase : (route : Route) (phase : Phase) → m.job ≡ Move route phase → job_left nodes (collected_in m route phase).job ≡ job_left nodes m.job
    by_phase route (Collect b received) e = by_reply route b received received.reply e
    by_phase route phase e = refl

    by : (job : Job) → m.job ≡ job → job_left nodes (collected_by m job).job ≡ job_left nodes m.job
    by (Move route phase) e = by_phase route phase e
    by job e = refl

gathered_left : (nodes : ℕ) (m : MoverState) → job_left nodes (gathered m).job ≡ job_left nodes m.job
gathered_left nodes m = by m.job refl
  where
    by_test : (frame : Frame) (t : Bool) → m.job ≡ Reclaim frame Gather → job_left nodes (cond t (with_job m (Reclaim frame Clean)) m).job ≡ job_left nodes m.job
    by_test frame true e = sym (ap (job_left nodes) e)
    by_test frame false e = refl

    by : (job : Job) → m.job ≡ job → job_left nodes (gathered_by m job).job ≡ job_left nodes m.job
    by (Reclaim frame Gather) e = by_test frame (is_unheld m.pages frame) e
    by job e = refl

-- ---- the mover's own steps

ask_pays : (n r s : ℕ) → s ≡ r + (2 * n + 6) → 0 + (2 * n + 2) + (r + 3) + 1 ≤ s
ask_pays n r s e = omega arith

hold_pays : (r : ℕ) → 2 + r + 1 ≤ r + 3
hold_pays r = omega arith

act_phase : (nodes : ℕ) (m : MoverState) (route : Route) (phase : Phase) → IsPhase phase → phase_has_act phase ≡ true → Pays nodes (phase_left nodes phase) (act_in_phase m route phase)
act_phase nodes m route (Ask b) is can = ask_pays nodes (rest nodes (31 - b)) (rest nodes (32 - b)) (rest_more nodes b is)
act_phase nodes m route (Hold b line) is can = hold_pays (rest nodes (31 - b))
act_phase nodes m route Publish is can = omega arith
act_phase nodes m route phase is can = absurd (grind arith)

-- each holder is told
tell_pays : (nodes : ℕ) (m : MoverState) (frame : Frame) → m.pages.nodes ≡ nodes → Pays nodes (2 * nodes + 5) (act_in_clearing m frame Tell)
unfolding holders_rising
tell_pays nodes m frame same =
    let all : letters_weight nodes (map (λ q. to q (DropFrame frame)) (holders_rising m frame)) ≡ 2 * length (holders_rising m frame) = twos nodes (λ q. to q (DropFrame frame)) (λ q. refl) (holders_rising m frame) in
    let few : length (holders_rising m frame) ≤ m.pages.nodes = few_pass (set.contains (holders_of m.pages frame)) m.pages.nodes in
    let left : job_left nodes (gathered (with_job m (Reclaim frame Gather))).job ≡ 4 = gathered_left nodes (with_job m (Reclaim frame Gather)) in
    together (letters_weight nodes (map (λ q. to q (DropFrame frame)) (holders_rising m frame))) (length (holders_rising m frame)) (job_left nodes (gathered (with_job m (Reclaim frame Gather))).job) m.pages.nodes all few left same
  where
    together : (l h j p : ℕ) → l ≡ 2 * h → h ≤ p → j ≡ 4 → p ≡ nodes → l + j + 1 ≤ 2 * nodes + 5
    together l h j p e f g i = omega arith

act_clearing : (nodes : ℕ) (m : MoverState) (frame : Frame) (step : Clearing) → m.pages.nodes ≡ nodes → clearing_has_act step ≡ true → Pays nodes (clearing_left nodes step) (act_in_clearing m frame step)
act_clearing nodes m frame Tell same can = tell_pays nodes m frame same
act_clearing nodes m frame Clean same can = omega arith
act_clearing nodes m frame step same can = absurd (grind arith)

pub act_pays : (nodes : ℕ) (m : MoverState) → m.pages.nodes ≡ nodes → IsMover m → has_act m.job ≡ true → Pays nodes (job_left nodes m.job) (act_of m)
unfolding act_of
act_pays nodes m same is can = by m.job is.job can
  where
    by : (job : Job) → IsJob m.pages m.settings job → has_act job ≡ true → Pays nodes (job_left nodes job) (act_by m job)
    by Idle j c = absurd (cc)
    by (Move route phase) j c = act_phase nodes m route phase j.1 c
    by (Reclaim frame step) j c = act_clearing nodes m frame step same c

-- ---- messages that a job waits for

-- a part
part_pays : (nodes b : ℕ) (received : Received) (m : MoverState) (route : Route) → 0 + job_left nodes (collected (in_phase m route (Collect b received))).job + 1 ≤ 1 + (rest nodes (31 - b) + 3)
part_pays nodes b received m route = together (job_left nodes (collected (in_phase m route (Collect b received))).job) (rest nodes (31 - b) + 3) (collected_left nodes (in_phase m route (Collect b received)))
  where
    together : (j l : ℕ) → j ≡ l → 0 + j + 1 ≤ 1 + l
    together j l e = omega arith

reply_job : (nodes : ℕ) (m : MoverState) (b : Block) (line : Line) (acks : ℕ) (job : Job) → when_moving (awaits_reply b acks) job ≡ true → Pays nodes (1 + job_left nodes job) (reply_taken m line acks job)
reply_job nodes m block line acks (Move route (Collect b received)) has = part_pays nodes b (record received { reply = Some (record { line = line; acks = acks }) }) m route
reply_job nodes m block line acks job has = absurd (cc)

ack_job : (nodes n : ℕ) (m : MoverState) (b : Block) (job : Job) → when_moving (awaits_ack n b) job ≡ true → Pays nodes (1 + job_left nodes job) (ack_taken m job)
ack_job nodes n m block (Move route (Collect b received)) has = part_pays nodes b (record received { acks = received.acks + 1 }) m route
ack_job nodes n m block job has = absurd (cc)

refused_pays : (n r s : ℕ) → s ≡ r + (2 * n + 6) → 0 + s + 1 ≤ 2 * n + 4 + (r + 3)
refused_pays n r s e = omega arith

refusal_job : (nodes : ℕ) (m : MoverState) (b : Block) (job : Job) → IsJob m.pages m.settings job → when_moving (awaits_refusal b) job ≡ true → Pays nodes (2 * nodes + 4 + job_left nodes job) (refusal_taken m job)
refusal_job nodes m block (Move route (Collect b received)) is has = refused_pays nodes (rest nodes (31 - b)) (rest nodes (32 - b)) (rest_more nodes b is.1)
refusal_job nodes m block job is has = absurd (cc)

copied_job : (nodes : ℕ) (m : MoverState) (b : Block) (job : Job) → when_moving (awaits_copy b) job ≡ true → Pays nodes (1 + job_left nodes job) (copied_taken m job)
copied_job nodes m block (Move route (Wait b)) has = by (nat_eq b 31)
  where
    last : (r : ℕ) → 1 ≤ r → 0 + 1 + 1 ≤ 1 + r
    last r some = omega arith

    other : (r s : ℕ) → s ≡ r → 0 + s + 1 ≤ 1 + r
    other r s e = omega arith

    by : (t : Bool) → 0 + job_left nodes (in_phase m route (cond t Publish (Ask (b + 1)))).job + 1 ≤ 1 + rest nodes (31 - b)
    by true = last (rest nodes (31 - b)) (rest_some nodes (31 - b))
    by false = other (rest nodes (31 - b)) (rest nodes (32 - (b + 1))) (rest_next nodes b)
copied_job nodes m block job has = absurd (cc)

dropped_job : (nodes : ℕ) (m : MoverState) (p : ℕ) (f : Frame) (job : Job) → m.job ≡ job → when_reclaiming (awaits_drop m.pages p f) job ≡ true → Pays nodes (1 + job_left nodes job) (dropped_taken m p job)
dropped_job nodes m p f (Reclaim frame Gather) e has = together (job_left nodes (gathered (with_pages m (dropped m.pages frame p))).job) (gathered_left nodes (with_pages m (dropped m.pages frame p)) ∙ ap (job_left nodes) e)
  where
    together : (j : ℕ) → j ≡ 4 → 0 + j + 1 ≤ 1 + 4
    together j e = omega arith
dropped_job nodes m p f job e has = absurd (cc)

freed_job : (nodes : ℕ) (m : MoverState) (f : Frame) (job : Job) → when_reclaiming (awaits_cleaning f) job ≡ true → Pays nodes (1 + job_left nodes job) (freed_taken m job)
freed_job nodes m f (Reclaim frame Cleaning) has = omega arith
freed_job nodes m f job has = absurd (cc)

-- ---- notices and walks

-- a move begins, or not
begun_pays : (nodes : ℕ) (m : MoverState) (hot : Hot) (page : VPage) (o : Option Frame) → Pays nodes (most nodes + job_left nodes m.job) (move_begun m hot page o)
begun_pays nodes m hot page None = more (job_left nodes m.job)
  where
    more : (l : ℕ) → 0 + l + 1 ≤ most nodes + l
    more l = omega arith
begun_pays nodes m hot page (Some new) = more (job_left nodes m.job)
  where
    more : (l : ℕ) → 0 + rest nodes 32 + 1 ≤ most nodes + l
    more l = omega arith

-- the notice is refused, and a reclaim may begin
refused_left : (nodes : ℕ) (m : MoverState) (hot : Hot) (reason : Reason) → job_left nodes (after_refusal hot reason m).job ≤ 2 * nodes + 5 + job_left nodes m.job
refused_left nodes m hot Full = by (oldest m.pages hot.node)
  where
    same : (l : ℕ) → l ≤ 2 * nodes + 5 + l
    same l = omega arith

    tell : (l : ℕ) → 2 * nodes + 5 ≤ 2 * nodes + 5 + l
    tell l = omega arith

    by : (o : Option Frame) → job_left nodes (reclaim_begun m o).job ≤ 2 * nodes + 5 + job_left nodes m.job
    by None = same (job_left nodes m.job)
    by (Some frame) = tell (job_left nodes m.job)
refused_left nodes m hot reason = same (job_left nodes m.job)
  where
    same : (l : ℕ) → l ≤ 2 * nodes + 5 + l
    same l = omega arith

judged_pays : (nodes : ℕ) (m : MoverState) (hot : Hot) (page : VPage) (o : Option Reason) → Pays nodes (most nodes + job_left nodes m.job) (judged m hot page o)
judged_pays nodes m hot page None = begun_pays nodes m hot page (least_free m.pages hot.node)
judged_pays nodes m hot page (Some reason) = together (job_left nodes (after_refusal hot reason m).job) (job_left nodes m.job) (refused_left nodes m hot reason)
  where
    together : (j l : ℕ) → j ≤ 2 * nodes + 5 + l → 1 + j + 1 ≤ most nodes + l
    together j l e = omega arith

hot_pays : (nodes : ℕ) (m : MoverState) (hot : Hot) → Pays nodes (most nodes + job_left nodes m.job) (hot_row m hot)
hot_pays nodes m hot = by (page_of m.pages hot.frame)
  where
    more : (l : ℕ) → 0 + l + 1 ≤ most nodes + l
    more l = omega arith

    by : (o : Option VPage) → Pays nodes (most nodes + job_left nodes m.job) (noticed m hot o)
    by None = more (job_left nodes m.job)
    by (Some page) = judged_pays nodes m hot page (decided m hot page)

walk_pays : (nodes : ℕ) (m : MoverState) (p : ℕ) (page : VPage) → Pays nodes (2 + job_left nodes m.job) (walk_row m p page)
walk_pays nodes m p page = by (walk_of m.pages page)
  where
    more : (l : ℕ) → 1 + l + 1 ≤ 2 + l
    more l = omega arith

    by : (o : Option Frame) → Pays nodes (2 + job_left nodes m.job) (walk_answered m p page o)
    by None = more (job_left nodes m.job)
    by (Some frame) = more (job_left nodes m.job)

-- ---- all messages

kind_pays : (nodes : ℕ) (m : MoverState) (p : ℕ) (k : Kind) → IsMover m → has_kind_row m p k ≡ true → Pays nodes (weight nodes k + job_left nodes m.job) (kind_taken m p k)
kind_pays nodes m p (Walk page) is has = walk_pays nodes m p page
kind_pays nodes m p (kind.Hot hot) is has = hot_pays nodes m hot
kind_pays nodes m p (PoisonReply b line acks) is has = reply_job nodes m b line acks m.job has
kind_pays nodes m p (InvalAck b) is has = ack_job nodes m.pages.nodes m b m.job has
kind_pays nodes m p (Nak b) is has = refusal_job nodes m b m.job is.job has
kind_pays nodes m p (CopyDone b) is has = copied_job nodes m b m.job has
kind_pays nodes m p (Dropped f) is has = dropped_job nodes m p f m.job refl has
kind_pays nodes m p (FrameClean f) is has = freed_job nodes m f m.job has
kind_pays nodes m p k is has = absurd (cc)

pub take_pays : (nodes : ℕ) (m : MoverState) (message : Msg Kind) → IsMover m → has_table_row m message ≡ true → Pays nodes (weight nodes message.kind + job_left nodes m.job) (take_of m message)
unfolding take_of has_table_row
take_pays nodes m message is has = kind_pays nodes m message.id.sender message.kind is (second (nat_lt message.id.sender m.pages.nodes) (has_kind_row m message.id.sender message.kind) has)
  where
    second : (s t : Bool) → (s && t) ≡ true → t ≡ true
    second true t h = h
    second false t h = absurd (cc)
