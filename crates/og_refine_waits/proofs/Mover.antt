-- A mover that is patient stays so.
use Rattle.std.proofs.Common.{◌≡◌, ◌∙◌, ◌≢◌, ℕ, ◌+◌, Bool, true, false, cond, nat_eq, Option, None, Some, refl, sym, ap, subst, arith}
use Rattle.std.specs.FinSet as set
use Rattle.std.proofs.lemmas.Bool.Decides.{nat_tests}
use Rattle.og_base.specs.declared.Frame.{Frame}
use Rattle.og_base.specs.declared.VPage.{VPage}
use Rattle.og_base.specs.declared.Hot.{Hot}
use Rattle.og_base.specs.declared.Reason.{Reason}
use Rattle.og_base.specs.declared.Reason.TheVariants.{Full}
use Rattle.og_base.specs.declared.Settings.{Settings}
use Rattle.og_runs.specs.declared.Msg.{Msg}
use Rattle.og_line.specs.declared.Line.{Line}
use Rattle.og_msg.specs.declared.Kind.{Kind}
use Rattle.og_msg.specs.declared.Kind.TheVariants.{Nak, InvalAck, PoisonReply, CopyDone, FrameClean, Walk, Dropped}
use Rattle.og_msg.specs.declared.Kind.TheVariants as kind
use Rattle.og_image.specs.Layout.{LayoutState}
use Rattle.og_pager.specs.PageTable.{holders_of, page_of, least_free, oldest, walked, dropped}
use Rattle.og_pager.proofs.Seen.{walk_laws}
use Rattle.og_mover.specs.declared.Reply.{Reply}
use Rattle.og_mover.specs.declared.Received.{Received}
use Rattle.og_mover.specs.declared.Route.{Route}
use Rattle.og_mover.specs.declared.Phase.{Phase}
use Rattle.og_mover.specs.declared.Phase.TheVariants.{Ask, Collect, Hold, Wait, Publish}
use Rattle.og_mover.specs.declared.Clearing.{Clearing}
use Rattle.og_mover.specs.declared.Clearing.TheVariants.{Tell, Gather, Clean, Cleaning}
use Rattle.og_mover.specs.declared.Job.{Job}
use Rattle.og_mover.specs.declared.Job.TheVariants.{Idle, Move, Reclaim}
use Rattle.og_mover.specs.Table.{MoverState, first_mover, with_pages, with_job, in_phase, is_unheld, has_act, act_in_phase, act_in_clearing, act_by, act_of, gathered, collect_ended, collected, reply_in_phase, reply_taken, ack_in_phase, ack_taken, refusal_in_phase, refusal_taken, copied_in_phase, copied_taken, dropped_in_clearing, dropped_taken, freed_in_clearing, freed_taken, walk_row, hot_row, noticed, judged, decided, move_begun, after_refusal, reclaim_begun, kind_taken, take_of, phase_has_act, clearing_has_act}
use Rattle.og_mover.specs.Sound.{IsMover, IsJob}
use Rattle.og_mover.proofs.Kept.{untold, walk_row_mover}
use Rattle.og_refine_waits.specs.Laws.{IsPatientMover}

-- a job that waits for more than one message
abbrev waits_for_more : Job → Bool
waits_for_more (Move route (Collect b received)) = true
waits_for_more (Reclaim frame Gather) = true
waits_for_more job = false

-- a mover with any other job is patient
other_job : (m : MoverState) → waits_for_more m.job ≡ false → IsPatientMover m
other_job m h = record {
  replies = λ route b received reply e f. absurd (let t = ap waits_for_more e in cc);
  gathers = λ frame e. absurd (let t = ap waits_for_more e in cc);
}

-- ---- moves

none_received : (m : MoverState) (route : Route) (b : ℕ) (received : Received) → m.job ≡ Move route (Collect b received) → received.reply ≡ None → IsPatientMover m
none_received m route b received e none = record {
  replies = λ r c other reply f g. absurd (let same : received ≡ other = cc in let n : other.reply ≡ None = subst (λ (x : Received). x.reply ≡ None) same none in cc);
  gathers = λ frame f. absurd (cc);
}

some_received : (m : MoverState) (route : Route) (b : ℕ) (received : Received) (reply : Reply) → m.job ≡ Move route (Collect b received) → received.reply ≡ Some reply → nat_eq received.acks reply.acks ≡ false → IsPatientMover m
some_received m route b received reply e some ne = record {
  replies = λ r c other given f g. (let same : received ≡ other = cc in let one : reply ≡ given = same_reply reply given (sym some ∙ (ap (λ (x : Received). x.reply) same ∙ g)) in apart other.acks given.acks (sym (ap (λ (x : Received). nat_eq x.acks given.acks) same) ∙ (ap (λ (x : Reply). nat_eq received.acks x.acks) (sym one) ∙ ne)));
  gathers = λ frame f. absurd (cc);
}
  where
    same_reply : (x y : Reply) → Some x ≡ Some y → x ≡ y
    same_reply x y e = cc

    apart : (a c : ℕ) → nat_eq a c ≡ false → a ≢ c
    apart a c t same = grind (arith, nat_tests)

-- a block whose reply and acknowledgements are there is collected at once
collects : (m : MoverState) (route : Route) (b : ℕ) (received : Received) → IsPatientMover (collected (in_phase m route (Collect b received)))
collects m route b received = by received.reply refl
  where
    by_test : (reply : Reply) → received.reply ≡ Some reply → (t : Bool) → nat_eq received.acks reply.acks ≡ t →
        IsPatientMover (cond t (in_phase (in_phase m route (Collect b received)) route (Hold b reply.line)) (in_phase m route (Collect b received)))
    by_test reply e true t = other_job _ refl
    by_test reply e false t = some_received (in_phase m route (Collect b received)) route b received reply refl e t

    by : (o : Option Reply) → received.reply ≡ o → IsPatientMover (collect_ended (in_phase m route (Collect b received)) route b received.acks o)
    by None e = none_received (in_phase m route (Collect b received)) route b received refl e
    by (Some reply) e = by_test reply e (nat_eq received.acks reply.acks) refl

-- ---- reclaims

-- a frame without holders is gathered at once
gathers_patient : (m : MoverState) (frame : Frame) → IsPatientMover (gathered (with_job m (Reclaim frame Gather)))
gathers_patient m frame = by (is_unheld m.pages frame) refl
  where
    same_frame : (f g : Frame) → Reclaim f Gather ≡ Reclaim g Gather → f ≡ g
    same_frame f g e = cc

    by : (t : Bool) → is_unheld m.pages frame ≡ t → IsPatientMover (cond t (with_job (with_job m (Reclaim frame Gather)) (Reclaim frame Clean)) (with_job m (Reclaim frame Gather)))
    by true e = other_job _ refl
    by false e = record {
      replies = λ r c other reply f g. absurd (cc);
      gathers = λ other f. subst (λ (x : Frame). is_unheld m.pages x ≡ false) (same_frame frame other f) e;
    }

-- ---- the mover's own steps

act_phase : (m : MoverState) (route : Route) (phase : Phase) → phase_has_act phase ≡ true → IsPatientMover (act_in_phase m route phase).mover
act_phase m route (Ask b) can = none_received _ route b (record { reply = None; acks = 0 }) refl refl
act_phase m route (Hold b line) can = other_job _ refl
act_phase m route Publish can = other_job _ refl
act_phase m route phase can = absurd (grind arith)

act_clearing : (m : MoverState) (frame : Frame) (step : Clearing) → clearing_has_act step ≡ true → IsPatientMover (act_in_clearing m frame step).mover
act_clearing m frame Tell can = gathers_patient m frame
act_clearing m frame Clean can = other_job _ refl
act_clearing m frame step can = absurd (grind arith)

pub act_patient : (m : MoverState) → has_act m.job ≡ true → IsPatientMover (act_of m).mover
unfolding act_of
act_patient m can = by m.job can
  where
    by : (job : Job) → has_act job ≡ true → IsPatientMover (act_by m job).mover
    by Idle c = absurd (cc)
    by (Move route phase) c = act_phase m route phase c
    by (Reclaim frame step) c = act_clearing m frame step c

-- ---- messages

reply_phase : (m : MoverState) (line : Line) (acks : ℕ) (route : Route) (phase : Phase) → IsPatientMover m → IsPatientMover (reply_in_phase m line acks route phase).mover
reply_phase m line acks route (Collect b received) h = collects m route b (record received { reply = Some (record { line = line; acks = acks }) })
reply_phase m line acks route phase h = h

reply_job : (m : MoverState) (line : Line) (acks : ℕ) (job : Job) → IsPatientMover m → IsPatientMover (reply_taken m line acks job).mover
reply_job m line acks (Move route phase) h = reply_phase m line acks route phase h
reply_job m line acks job h = h

ack_phase : (m : MoverState) (route : Route) (phase : Phase) → IsPatientMover m → IsPatientMover (ack_in_phase m route phase).mover
ack_phase m route (Collect b received) h = collects m route b (record received { acks = received.acks + 1 })
ack_phase m route phase h = h

ack_job : (m : MoverState) (job : Job) → IsPatientMover m → IsPatientMover (ack_taken m job).mover
ack_job m (Move route phase) h = ack_phase m route phase h
ack_job m job h = h

refusal_phase : (m : MoverState) (route : Route) (phase : Phase) → IsPatientMover m → IsPatientMover (refusal_in_phase m route phase).mover
refusal_phase m route (Collect b received) h = other_job _ refl
refusal_phase m route phase h = h

refusal_job : (m : MoverState) (job : Job) → IsPatientMover m → IsPatientMover (refusal_taken m job).mover
refusal_job m (Move route phase) h = refusal_phase m route phase h
refusal_job m job h = h

copied_phase : (m : MoverState) (route : Route) (phase : Phase) → IsPatientMover m → IsPatientMover (copied_in_phase m route phase).mover
copied_phase m route (Wait b) h = by (nat_eq b 31)
  where
    by : (t : Bool) → IsPatientMover (in_phase m route (cond t Publish (Ask (b + 1))))
    by true = other_job _ refl
    by false = other_job _ refl
copied_phase m route phase h = h

copied_job : (m : MoverState) (job : Job) → IsPatientMover m → IsPatientMover (copied_taken m job).mover
copied_job m (Move route phase) h = copied_phase m route phase h
copied_job m job h = h

dropped_clearing : (m : MoverState) (p : ℕ) (frame : Frame) (step : Clearing) → m.job ≡ Reclaim frame step → IsPatientMover m → IsPatientMover (dropped_in_clearing m p frame step).mover
dropped_clearing m p frame Gather e h = subst (λ (job : Job). IsPatientMover (gathered (record m { pages = dropped m.pages frame p; job = job }))) (sym e) (gathers_patient (with_pages m (dropped m.pages frame p)) frame)
dropped_clearing m p frame step e h = h

dropped_job : (m : MoverState) (p : ℕ) (job : Job) → m.job ≡ job → IsPatientMover m → IsPatientMover (dropped_taken m p job).mover
dropped_job m p (Reclaim frame step) e h = dropped_clearing m p frame step e h
dropped_job m p job e h = h

freed_clearing : (m : MoverState) (frame : Frame) (step : Clearing) → IsPatientMover m → IsPatientMover (freed_in_clearing m frame step).mover
freed_clearing m frame Cleaning h = other_job _ refl
freed_clearing m frame step h = h

freed_job : (m : MoverState) (job : Job) → IsPatientMover m → IsPatientMover (freed_taken m job).mover
freed_job m (Reclaim frame step) h = freed_clearing m frame step h
freed_job m job h = h

-- ---- notices and walks

begun_patient : (m : MoverState) (hot : Hot) (page : VPage) (o : Option Frame) → IsPatientMover m → IsPatientMover (move_begun m hot page o).mover
begun_patient m hot page None h = h
begun_patient m hot page (Some new) h = other_job _ refl

refused_patient : (m : MoverState) (hot : Hot) (reason : Reason) → IsPatientMover m → IsPatientMover (after_refusal hot reason m)
refused_patient m hot Full h = by (oldest m.pages hot.node)
  where
    by : (o : Option Frame) → IsPatientMover (reclaim_begun m o)
    by None = h
    by (Some frame) = other_job _ refl
refused_patient m hot reason h = h

judged_patient : (m : MoverState) (hot : Hot) (page : VPage) (o : Option Reason) → IsPatientMover m → IsPatientMover (judged m hot page o).mover
judged_patient m hot page None h = begun_patient m hot page (least_free m.pages hot.node) h
judged_patient m hot page (Some reason) h = refused_patient m hot reason h

hot_patient : (m : MoverState) (hot : Hot) → IsPatientMover m → IsPatientMover (hot_row m hot).mover
hot_patient m hot h = by (page_of m.pages hot.frame)
  where
    by : (o : Option VPage) → IsPatientMover (noticed m hot o).mover
    by None = h
    by (Some page) = judged_patient m hot page (decided m hot page) h

-- no walk is told the frame that is gathered, so its holders stay
walk_patient : (m : MoverState) (p : ℕ) (page : VPage) → IsMover m → IsPatientMover m → IsPatientMover (walk_row m p page).mover
walk_patient m p page is h = subst IsPatientMover (sym (walk_row_mover m p page)) (record {
  replies = h.replies;
  gathers = λ frame e. (let it : IsJob m.pages m.settings (Reclaim frame Gather) = subst (λ (job : Job). IsJob m.pages m.settings job) e is.job in let same : holders_of (walked m.pages page p) frame ≡ holders_of m.pages frame = walk_laws.others m.pages page p frame is.pages it.0.1 (untold m.pages is.pages page frame it.0.2) in ap (λ x. nat_eq (set.len x) 0) same ∙ h.gathers frame e);
})

-- ---- all messages

kind_patient : (m : MoverState) (p : ℕ) (k : Kind) → IsMover m → IsPatientMover m → IsPatientMover (kind_taken m p k).mover
kind_patient m p (Walk page) is h = walk_patient m p page is h
kind_patient m p (kind.Hot hot) is h = hot_patient m hot h
kind_patient m p (PoisonReply b line acks) is h = reply_job m line acks m.job h
kind_patient m p (InvalAck b) is h = ack_job m m.job h
kind_patient m p (Nak b) is h = refusal_job m m.job h
kind_patient m p (CopyDone b) is h = copied_job m m.job h
kind_patient m p (Dropped frame) is h = dropped_job m p m.job refl h
kind_patient m p (FrameClean frame) is h = freed_job m m.job h
kind_patient m p k is h = h

pub take_patient : (m : MoverState) (message : Msg Kind) → IsMover m → IsPatientMover m → IsPatientMover (take_of m message).mover
unfolding take_of
take_patient m message is h = kind_patient m message.id.sender message.kind is h

-- ---- the start

pub start_patient : (layout : LayoutState) (settings : Settings) → IsPatientMover (first_mover layout settings)
unfolding first_mover
start_patient layout settings = other_job _ refl
