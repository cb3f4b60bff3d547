-- What the mover notes is in the ranges of a note's line.
use Rattle.std.proofs.Common.{◌≡◌, ℕ, zero, suc, ◌^◌, ◌<◌, ◌≤◌, ◌&&◌, Bool, true, false, cond, nat_eq, nat_lt, Option, None, Some, List, [], ◌∷◌, ◌++◌, map, get_or, refl, sym, ap, subst, arith}
use Rattle.std.specs.Prelude.{option_map}
use Rattle.std.specs.List.{AllByRecursion, filter, position}
use Rattle.std.proofs.lemmas.Bool.Decides.{nat_tests}
use Rattle.std.proofs.lemmas.List.Quantifiers.{position-Some}
use Rattle.og_base.specs.Numbers.{below}
use Rattle.og_base.specs.declared.Frame.{Frame}
use Rattle.og_base.specs.declared.Hot.{Hot}
use Rattle.og_base.specs.declared.Reason.{Reason}
use Rattle.og_base.specs.declared.VPage.{VPage}
use Rattle.og_line.specs.declared.Line.{Line}
use Rattle.og_runs.specs.declared.Msg.{Msg}
use Rattle.og_image.specs.Image.{ImageState, is_data_page, first_stack_page, stack_page}
use Rattle.og_image.specs.Layout.{pages_of, data_pages, stack_pages}
use Rattle.og_msg.specs.declared.Kind.{Kind}
use Rattle.og_msg.specs.declared.Kind.TheVariants.{Nak, InvalAck, PoisonReply, CopyDone, FrameClean, Walk, Dropped}
use Rattle.og_msg.specs.declared.Kind.TheVariants as kind
use Rattle.og_msg.specs.declared.Note.{Note}
use Rattle.og_msg.specs.declared.Note.TheVariants.{No, Moved}
use Rattle.og_pager.specs.PageTable.{PageTable, IsFrame, has_frame, frame_of, frame_in, page_of, walk_of, least_free}
use Rattle.og_pager.proofs.Seen.{page_laws, found_laws, settle_laws}
use Rattle.og_mover.specs.declared.Route.{Route}
use Rattle.og_mover.specs.declared.Phase.{Phase}
use Rattle.og_mover.specs.declared.Phase.TheVariants.{Ask, Collect, Hold, Wait, Publish}
use Rattle.og_mover.specs.declared.Clearing.{Clearing}
use Rattle.og_mover.specs.declared.Clearing.TheVariants.{Tell, Gather, Clean, Cleaning}
use Rattle.og_mover.specs.declared.Job.{Job}
use Rattle.og_mover.specs.declared.Job.TheVariants.{Idle, Move, Reclaim}
use Rattle.og_mover.specs.Table.{MoverState, act_in_phase, act_in_clearing, act_by, act_of, reply_taken, ack_taken, refusal_taken, copied_taken, dropped_taken, freed_taken, walk_answered, walk_row, hot_row, noticed, judged, decided, move_begun, is_known, kind_taken, has_kind_row, take_of, has_table_row}
use Rattle.og_mover.specs.Sound.{IsMover, IsJob, IsRoute}
use Rattle.og_trace.specs.Grammar.{is_page, is_frame, is_actor, is_note_line}
use Rattle.og_trace.proofs.Lines.{and_left, and_right}
use Rattle.og_ranges.proofs.Lines.{both}

-- in the ranges of a note's line, if anything is noted
abbrev pub IsInLine : Option Note → Type 0
IsInLine None = Unit {0}
IsInLine (Some noted) = is_note_line noted ≡ true

-- ---- pages

abbrev pub AreLow : List ℕ → Type 0
AreLow pages = AllByRecursion (λ p. p < 2 ^ 52) pages

one_low : (pages : List ℕ) (i : ℕ) → AreLow pages → get_or pages i 0 < 2 ^ 52
one_low [] i low = omega arith
one_low (p ∷ ps) zero low = low.0
one_low (p ∷ ps) (suc i) low = one_low ps i low.1

placed_low : (t : PageTable) (page : VPage) (frame : Frame) → AreLow t.pages → frame_of t page ≡ Some frame → page.0 < 2 ^ 52
unfolding frame_of
placed_low t page frame low e = by (position (nat_eq page.0) t.pages) refl e
  where
    by : (o : Option ℕ) → position (nat_eq page.0) t.pages ≡ o → option_map (frame_in t) o ≡ Some frame → page.0 < 2 ^ 52
    by None is f = absurd (cc)
    by (Some i) is f =
        let at : nat_eq page.0 (get_or t.pages i 0) ≡ true = (position-Some (nat_eq page.0) t.pages i 0 is).1 in
        let one : get_or t.pages i 0 < 2 ^ 52 = one_low t.pages i low in
        let same : page.0 ≡ get_or t.pages i 0 = grind (arith, nat_tests) in
        omega arith

-- the pages of a program
both_low : (xs ys : List ℕ) → AreLow xs → AreLow ys → AreLow (xs ++ ys)
both_low [] ys a b = b
both_low (x ∷ xs) ys a b = (a.0, both_low xs ys a.1 b)

numbers_low : (n : ℕ) → n ≤ 2 ^ 52 → AreLow (below n)
unfolding below
numbers_low zero le = tt
numbers_low (suc n) le = both_low (below n) (n ∷ []) (numbers_low n (omega arith)) (omega arith, tt)

filter_low : (test : ℕ → Bool) (xs : List ℕ) → AreLow xs → AreLow (filter test xs)
filter_low test [] low = tt
filter_low test (x ∷ xs) low = by (test x) (filter_low test xs low.1)
  where
    by : (t : Bool) → AreLow (filter test xs) → AreLow (cond t (x ∷ filter test xs) (filter test xs))
    by true rest = (low.0, rest)
    by false rest = rest

more_low : (xs ys : List ℕ) → map stack_page (xs ++ ys) ≡ map stack_page xs ++ map stack_page ys
more_low [] ys = refl
more_low (x ∷ xs) ys = ap (λ (l : List ℕ). stack_page x ∷ l) (more_low xs ys)

stacks_low : (n : ℕ) → n ≤ 128 → AreLow (map stack_page (below n))
unfolding below
stacks_low zero le = tt
stacks_low (suc n) le = subst AreLow (sym (more_low (below n) (n ∷ []))) (both_low (map stack_page (below n)) (stack_page n ∷ []) (stacks_low n (omega arith)) (omega arith, tt))

pub pages_low : (image : ImageState) → image.nodes ≤ 128 → AreLow (pages_of image)
unfolding pages_of data_pages stack_pages
pages_low image few = both_low (filter (is_data_page image) (below first_stack_page)) (map stack_page (below image.nodes)) (filter_low (is_data_page image) (below first_stack_page) (numbers_low first_stack_page (omega arith))) (stacks_low image.nodes few)

-- ---- the mover

module _ (m : MoverState) (is : IsMover m) (low : AreLow m.pages.pages) where
  frame_line : (f : Frame) → IsFrame m.pages f → is_frame f ≡ true
  frame_line f inside =
      let nodes : m.pages.nodes ≤ 128 = is.pages.sized.few_nodes in
      let frames : m.pages.frames ≤ 1024 = is.pages.sized.few_frames in
      let home : f.home < m.pages.nodes = inside.0 in
      let index : f.index < m.pages.frames = inside.1 in
      grind (arith, nat_tests)

  page_line : (page : VPage) (frame : Frame) → frame_of m.pages page ≡ Some frame → is_page page.0 ≡ true
  page_line page frame e = let l : page.0 < 2 ^ 52 = placed_low m.pages page frame low e in grind (arith, nat_tests)

  moved_line : (page : VPage) (old new : Frame) → frame_of m.pages page ≡ Some old → IsFrame m.pages old → IsFrame m.pages new → (is_page page.0 && is_frame old && is_frame new) ≡ true
  moved_line page old new placed a b = both (is_page page.0 && is_frame old) (is_frame new) (both (is_page page.0) (is_frame old) (page_line page old placed) (frame_line old a)) (frame_line new b)

  job_as : (job : Job) → m.job ≡ job → IsJob m.pages m.settings job
  job_as job e = subst (λ (j : Job). IsJob m.pages m.settings j) e is.job

  -- ---- its own steps

  published : (route : Route) → IsRoute m.pages m.settings route → is_note_line (Moved route.page route.old route.new) ≡ true
  published route r = let i = settle_laws.inside m.pages route.page route.old route.new (record { sound = is.pages; move = r.0 }) in moved_line route.page route.old route.new i.2 i.0 i.1

  acts_in_phase : (route : Route) (phase : Phase) → IsRoute m.pages m.settings route → IsInLine (act_in_phase m route phase).note
  acts_in_phase route (Ask b) r = tt
  acts_in_phase route (Collect b received) r = tt
  acts_in_phase route (Hold b line) r = tt
  acts_in_phase route (Wait b) r = tt
  acts_in_phase route Publish r = published route r

  acts_in_clearing : (frame : Frame) (step : Clearing) → IsInLine (act_in_clearing m frame step).note
  acts_in_clearing frame Tell = tt
  acts_in_clearing frame Gather = tt
  acts_in_clearing frame Clean = tt
  acts_in_clearing frame Cleaning = tt

  pub acts_line : IsInLine (act_of m).note
  unfolding act_of
  acts_line = by m.job refl
    where
      by : (job : Job) → m.job ≡ job → IsInLine (act_by m job).note
      by Idle e = tt
      by (Move route phase) e = acts_in_phase route phase (job_as (Move route phase) e).0
      by (Reclaim frame step) e = acts_in_clearing frame step

  -- ---- messages

  reply_line : (line : Line) (acks : ℕ) (job : Job) → IsInLine (reply_taken m line acks job).note
  reply_line line acks Idle = tt
  reply_line line acks (Move route (Ask b)) = tt
  reply_line line acks (Move route (Collect b received)) = tt
  reply_line line acks (Move route (Hold b l)) = tt
  reply_line line acks (Move route (Wait b)) = tt
  reply_line line acks (Move route Publish) = tt
  reply_line line acks (Reclaim frame step) = tt

  ack_line : (job : Job) → IsInLine (ack_taken m job).note
  ack_line Idle = tt
  ack_line (Move route (Ask b)) = tt
  ack_line (Move route (Collect b received)) = tt
  ack_line (Move route (Hold b l)) = tt
  ack_line (Move route (Wait b)) = tt
  ack_line (Move route Publish) = tt
  ack_line (Reclaim frame step) = tt

  refusal_line : (job : Job) → IsInLine (refusal_taken m job).note
  refusal_line Idle = tt
  refusal_line (Move route (Ask b)) = tt
  refusal_line (Move route (Collect b received)) = tt
  refusal_line (Move route (Hold b l)) = tt
  refusal_line (Move route (Wait b)) = tt
  refusal_line (Move route Publish) = tt
  refusal_line (Reclaim frame step) = tt

  copied_line : (job : Job) → IsInLine (copied_taken m job).note
  copied_line Idle = tt
  copied_line (Move route (Ask b)) = tt
  copied_line (Move route (Collect b received)) = tt
  copied_line (Move route (Hold b l)) = tt
  copied_line (Move route (Wait b)) = tt
  copied_line (Move route Publish) = tt
  copied_line (Reclaim frame step) = tt

  dropped_line : (p : ℕ) (job : Job) → IsInLine (dropped_taken m p job).note
  dropped_line p Idle = tt
  dropped_line p (Move route phase) = tt
  dropped_line p (Reclaim frame Tell) = tt
  dropped_line p (Reclaim frame Gather) = tt
  dropped_line p (Reclaim frame Clean) = tt
  dropped_line p (Reclaim frame Cleaning) = tt

  freed_line : (job : Job) → m.job ≡ job → IsInLine (freed_taken m job).note
  freed_line Idle e = tt
  freed_line (Move route phase) e = tt
  freed_line (Reclaim frame Tell) e = tt
  freed_line (Reclaim frame Gather) e = tt
  freed_line (Reclaim frame Clean) e = tt
  freed_line (Reclaim frame Cleaning) e = frame_line frame (job_as (Reclaim frame Cleaning) e).0.1

  walk_line : (p : ℕ) (page : VPage) → IsInLine (walk_row m p page).note
  walk_line p page = by (walk_of m.pages page)
    where
      by : (o : Option Frame) → IsInLine (walk_answered m p page o).note
      by None = tt
      by (Some frame) = tt

  known_frame : (hot : Hot) → is_known m.pages hot ≡ true → IsFrame m.pages hot.frame
  known_frame hot known =
      let h : has_frame m.pages hot.frame ≡ true = and_left (has_frame m.pages hot.frame) _ known in
      let a : nat_lt hot.frame.home m.pages.nodes ≡ true = and_left (nat_lt hot.frame.home m.pages.nodes) (nat_lt hot.frame.index m.pages.frames) h in
      let b : nat_lt hot.frame.index m.pages.frames ≡ true = and_right (nat_lt hot.frame.home m.pages.nodes) (nat_lt hot.frame.index m.pages.frames) h in
      (grind (arith, nat_tests), grind (arith, nat_tests))

  known_node : (hot : Hot) → is_known m.pages hot ≡ true → hot.node < m.pages.nodes
  known_node hot known =
      let rest = and_right (has_frame m.pages hot.frame) _ known in
      let n : nat_lt hot.node m.pages.nodes ≡ true = and_left (nat_lt hot.node m.pages.nodes) _ rest in
      grind (arith, nat_tests)

  refused_line : (hot : Hot) (reason : Reason) → is_known m.pages hot ≡ true → is_note_line (No reason hot.frame hot.node) ≡ true
  refused_line hot reason known =
      let node : hot.node < m.pages.nodes = known_node hot known in
      let nodes : m.pages.nodes ≤ 128 = is.pages.sized.few_nodes in
      both (is_frame hot.frame) (is_actor hot.node) (frame_line hot.frame (known_frame hot known)) (grind (arith, nat_tests))

  begun_line : (hot : Hot) (page : VPage) → is_known m.pages hot ≡ true → page_of m.pages hot.frame ≡ Some page → (o : Option Frame) → least_free m.pages hot.node ≡ o → IsInLine (move_begun m hot page o).note
  begun_line hot page known there None e = tt
  begun_line hot page known there (Some new) e =
      let old : IsFrame m.pages hot.frame = known_frame hot known in
      moved_line page hot.frame new (page_laws.frame m.pages page hot.frame is.pages old there) old (found_laws.least m.pages hot.node new is.pages (known_node hot known) e).0

  hot_line : (hot : Hot) → is_known m.pages hot ≡ true → IsInLine (hot_row m hot).note
  hot_line hot known = by (page_of m.pages hot.frame) refl
    where
      by_reason : (page : VPage) → page_of m.pages hot.frame ≡ Some page → (o : Option Reason) → IsInLine (judged m hot page o).note
      by_reason page there None = begun_line hot page known there (least_free m.pages hot.node) refl
      by_reason page there (Some reason) = refused_line hot reason known

      by : (o : Option VPage) → page_of m.pages hot.frame ≡ o → IsInLine (noticed m hot o).note
      by None e = tt
      by (Some page) e = by_reason page e (decided m hot page)

  kind_line : (p : ℕ) (k : Kind) → has_kind_row m p k ≡ true → IsInLine (kind_taken m p k).note
  kind_line p (Walk page) row = walk_line p page
  kind_line p (kind.Hot hot) row = hot_line hot row
  kind_line p (PoisonReply b line acks) row = reply_line line acks m.job
  kind_line p (InvalAck b) row = ack_line m.job
  kind_line p (Nak b) row = refusal_line m.job
  kind_line p (CopyDone b) row = copied_line m.job
  kind_line p (Dropped frame) row = dropped_line p m.job
  kind_line p (FrameClean frame) row = freed_line m.job refl
  kind_line p k row = tt

  pub takes_line : (message : Msg Kind) → has_table_row m message ≡ true → IsInLine (take_of m message).note
  unfolding take_of has_table_row
  takes_line message row = kind_line message.id.sender message.kind (and_right (nat_lt message.id.sender m.pages.nodes) _ row)
