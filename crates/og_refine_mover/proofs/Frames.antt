-- What comes to the mover for a frame that it reclaims, and a walk: a holder's word that it has dropped the frame, the word that it is clean,
-- and a node's question for a page. Each finds its row, and is rows of the theory.
use Rattle.std.proofs.Common.{◌≡◌, ℕ, ◌<◌, ◌/◌, Bool, true, false, cond, nat_eq, nat_lt, is_some, List, ◌∷◌, ◌++◌, length, Option, None, Some, option_map, refl, sym, ap, ◌∙◌, subst, arith}
use Rattle.std.specs.FinSet as set
use Rattle.std.proofs.lemmas.Bool.Decides.{nat_tests}
use Rattle.og_base.specs.declared.Frame.{Frame}
use Rattle.og_base.specs.declared.VPage.{VPage}
use Rattle.og_base.specs.declared.Settings.{Settings}
use Rattle.og_base.specs.Names.{is_same_frame}
use Rattle.og_line.specs.declared.Line.{Line}
use Rattle.og_msg.specs.declared.Kind.TheVariants.{FrameClean, Walk, Dropped}
use Rattle.og_image.specs.Image.{ImageState}
use Rattle.og_slots.specs.Count.{count}
use Rattle.og_pages.specs.State.{put_pair}
use Rattle.og_whole.specs.Events.{World}
use Rattle.og_pager.specs.declared.Moving.{Moving}
use Rattle.og_pager.specs.PageTable.{PageTable, frame_in, number_of, frame_of, is_move_of, is_moving, move_in, move_of, walk_of, dropped}
use Rattle.og_mover.specs.declared.Route.{Route}
use Rattle.og_mover.specs.declared.Phase.{Phase}
use Rattle.og_mover.specs.declared.Phase.TheVariants.{Ask, Collect, Hold, Wait, Publish}
use Rattle.og_mover.specs.declared.Clearing.{Clearing}
use Rattle.og_mover.specs.declared.Clearing.TheVariants.{Tell, Gather, Clean, Cleaning}
use Rattle.og_mover.specs.declared.Job.{Job}
use Rattle.og_mover.specs.declared.Job.TheVariants.{Idle, Move, Reclaim}
use Rattle.og_mover.specs.Table.{walk_answered, walk_row, gathered, dropped_taken, freed_taken, when_reclaiming, awaits_drop, awaits_cleaning}
use Rattle.og_relate.specs.Data.{KFrameClean, Post, Cpu, HomeSide, Mover, MGather, MClean, MCleaning}
use Rattle.og_relate.specs.Goes.{Goes}
use Rattle.og_relate.specs.Steps.{letter}
use Rattle.og_relate.specs.Laws.{machine}
use Rattle.og_relate.proofs.Take.{append_none}
use Rattle.og_relate_mover.specs.Steps.{moves, gather, take_dropped, free, walk_by}
use Rattle.og_relate_mover.proofs.PageEvents.{freed_taken as freed_goes}
use Rattle.og_relate_mover.proofs.Holders.{walk_taken as walk_goes, dropped_taken as dropped_goes}
use Rattle.og_seen.specs.Numbers.{Sizes, frame_count, is_there, frame_number, page_number, setup_seen}
use Rattle.og_seen.specs.Harts.{Hart, harts_seen}
use Rattle.og_seen.specs.Movers.{phase_seen, job_seen, mover_seen}
use Rattle.og_seen.specs.Sound.{AreSizes, IsMoverOf}
use Rattle.og_seen.specs.Events.{Shows, MoverGoes}
use Rattle.og_seen.proofs.Numbers.{number_below, there_below}
use Rattle.og_refine_mover.proofs.Tables.{IsTableOf, table_of, dropped_table, same_frame, is_there_in, holders_at, page_placed}
use Rattle.og_refine_mover.proofs.Changes.{mover_of, told_seen, dropped_seen, reclaimed_seen}
use Rattle.og_refine_mover.proofs.Routes.{route_of, goes_as}
use Rattle.og_refine_mover.proofs.Holders.{gather_seen}
use Rattle.og_refine_mover.proofs.Sent.{home_low, both, is_below}
use Rattle.og_refine_mover.proofs.Blocks.{Takes, Comes, frame_test}

-- a move gathers and cleans nothing
no_gather : (s : Sizes) (route : Route) (phase : Phase) (f : ℕ) → phase_seen s route phase ≡ MGather f → ⊥
no_gather s route Publish f e = absurd (cc)
no_gather s route phase f e = absurd (cc)

no_cleaning : (s : Sizes) (route : Route) (phase : Phase) (f : ℕ) → phase_seen s route phase ≡ MCleaning f → ⊥
no_cleaning s route Publish f e = absurd (cc)
no_cleaning s route phase f e = absurd (cc)

-- no page moves but that of the mover's move
none_moves : (t : PageTable) (page : VPage) → move_of t ≡ None → is_moving t page ≡ false
unfolding move_of is_moving
none_moves t page e = by t.moving e
  where
    by : (o : Option Moving) → move_in t o ≡ None → is_move_of o (number_of t page) ≡ false
    by None e = refl
    by (Some moving) e = absurd (cc)

-- the page of a move is moving
phase_moves : (s : Sizes) (route : Route) (phase : Phase) (y : ℕ) → moves (phase_seen s route phase) y ≡ nat_eq (page_number s route.page) y
phase_moves s route (Ask b) y = refl
phase_moves s route (Collect b received) y = refl
phase_moves s route (Hold b line) y = refl
phase_moves s route (Wait b) y = refl
phase_moves s route Publish y = refl

-- in a reclaim none is
clearing_moves : (s : Sizes) (frame : Frame) (step : Clearing) (y : ℕ) → moves (job_seen s (Reclaim frame step)) y ≡ false
clearing_moves s frame Tell y = refl
clearing_moves s frame Gather y = refl
clearing_moves s frame Clean y = refl
clearing_moves s frame Cleaning y = refl

-- whether a page moves is seen in the job
moves_seen : (s : Sizes) (t : PageTable) (j : Job) (e : Settings) (page : VPage) (y : ℕ) → IsMoverOf s (mover_of t j e) → number_of t page ≡ Some y → is_moving t page ≡ moves (job_seen s j) y
unfolding is_moving
moves_seen s t Idle e page y is n = none_moves t page is.sound.job
moves_seen s t (Reclaim frame step) e page y is n = none_moves t page is.sound.job.0.0 ∙ sym (clearing_moves s frame step y)
moves_seen s t (Move route phase) e page y is n =
    let r = route_of s t (table_of s (mover_of t (Move route phase) e) is) e route is.sound.job.0 in
    ap (λ o. is_move_of o (number_of t page)) r.is_moving ∙ ap (is_move_of (Some r.moving)) n ∙ ap (λ k. nat_eq k y) (sym r.page) ∙ sym (phase_moves s route phase y)

module _ (image : ImageState) (s : Sizes) (cpu : ℕ → Cpu Line Hart) (home : ℕ → HomeSide Line) (w : World Line) (rest : List (Post Line)) (t : PageTable) (e : Settings) where
  -- ---- a holder has dropped the frame

  -- the job that is seen to gather the frame gathers it
  dropped_by : (j : Job) (f : Frame) (p : ℕ) → IsMoverOf s (mover_of t j e) → job_seen s j ≡ MGather (frame_number s f) → (mover_seen s (mover_of t j e)).holders (frame_number s f) p ≡ true → ((g q : ℕ) → (mover_seen s (mover_of t j e)).holders g q ≡ true → q < s.nodes) →
      Goes (setup_seen s) (harts_seen image s) (machine cpu home (take_dropped (setup_seen s) (mover_seen s (mover_of t j e)) p (frame_number s f)) rest) w →
      (when_reclaiming (awaits_drop t p f) j ≡ true) × MoverGoes image s cpu home rest w (dropped_taken (mover_of t j e) p j)
  dropped_by (Reclaim frame Gather) f p is jb held inside g = (
    both (is_same_frame f frame) _ (frame_test f frame same) (sym (ap (λ h. set.contains h p) (holders_at s t tb frame there)) ∙ subst (λ n. mover.holders n p ≡ true) number held),
    goes_as image s cpu home w _ _ _ _ after (sym (append_none rest)) g,
  )
    where
      tb : IsTableOf s t
      tb = table_of s (mover_of t (Reclaim frame Gather) e) is

      there : is_there s frame ≡ true
      there = is_there_in s t (table_of s (mover_of t (Reclaim frame Gather) e) is) frame is.sound.job.0.1

      number : frame_number s f ≡ frame_number s frame
      number = cc

      same : f ≡ frame
      same = same_frame s f frame (there_below s f (subst (λ (n : ℕ). n < frame_count s) (sym number) (number_below s frame there))) there number

      mover : Mover Line
      mover = mover_seen s (mover_of t (Reclaim frame Gather) e)

      left : Mover Line
      left = mover_seen s (mover_of (dropped t frame p) (Reclaim frame Gather) e)

      seen : record (mover_seen s (mover_of t (Reclaim frame Gather) e)) { holders = put_pair (mover_seen s (mover_of t (Reclaim frame Gather) e)).holders (frame_number s f) p false } ≡ mover_seen s (mover_of (dropped t frame p) (Reclaim frame Gather) e)
      seen = ap (λ n. record mover { holders = put_pair mover.holders n p false }) number ∙ sym (dropped_seen s t tb (Reclaim frame Gather) e frame p there)

      -- who holds the frame still did before
      still : (n q : ℕ) → put_pair mover.holders n p false n q ≡ true → q < s.nodes
      still n q h = inside n q (grind (arith, nat_tests))

      fewer : (q : ℕ) → (mover_seen s (mover_of (dropped t frame p) (Reclaim frame Gather) e)).holders (frame_number s frame) q ≡ true → q < s.nodes
      fewer q h = still (frame_number s frame) q (ap (λ (m : Mover Line). m.holders (frame_number s frame) q) (ap (λ n. record mover { holders = put_pair mover.holders n p false }) (sym number) ∙ seen) ∙ h)

      by : (b : Bool) → cond b (record left { job = MClean (frame_number s frame) }) left ≡ record left { job = cond b (MClean (frame_number s frame)) (MGather (frame_number s frame)) }
      by true = refl
      by false = refl

      after : take_dropped (setup_seen s) (mover_seen s (mover_of t (Reclaim frame Gather) e)) p (frame_number s f) ≡ mover_seen s (gathered (mover_of (dropped t frame p) (Reclaim frame Gather) e))
      after =
          (λ i. gather (setup_seen s) (seen i) (number i)) ∙ by (nat_eq (count s.nodes (left.holders (frame_number s frame))) 0) ∙
          gather_seen s (dropped t frame p) (dropped_table s t tb frame p) (Reclaim frame Gather) e frame there fewer
  dropped_by (Move route phase) f p is jb held inside g = absurd (no_gather s route phase (frame_number s f) jb)
  dropped_by j f p is jb held inside g = absurd (cc)

  -- the word in flight
  pub drop_comes : (j : Job) (from : ℕ) (f : Frame) → IsMoverOf s (mover_of t j e) → Comes image s cpu home w rest (mover_of t j e) from (Dropped f) → Takes image s cpu home w rest (mover_of t j e) from (Dropped f)
  drop_comes j from f is sim =
      let x = dropped_goes (setup_seen s) (harts_seen image s) cpu home (mover_seen s (mover_of t j e)) w from (frame_number s f) rest sim in
      let got = dropped_by j f from is x.0 x.1 sim.mover.holder_is x.2 in
      (both (nat_lt from t.nodes) _ (is_below from t.nodes s.nodes is.nodes sim.flight.0.0.1.0) got.0, got.1)

  -- ---- the frame is clean

  -- the job that is seen to wait for the cleaning waits for it
  freed_by : (j : Job) (f : Frame) → IsMoverOf s (mover_of t j e) → is_there s f ≡ true → job_seen s j ≡ MCleaning (frame_number s f) →
      Goes (setup_seen s) (harts_seen image s) (machine cpu home (free (mover_seen s (mover_of t j e)) (frame_number s f)) rest) w →
      (when_reclaiming (awaits_cleaning f) j ≡ true) × MoverGoes image s cpu home rest w (freed_taken (mover_of t j e) j)
  freed_by (Reclaim frame Cleaning) f is its jb g =
      let tb = table_of s (mover_of t (Reclaim frame Cleaning) e) is in
      let there = is_there_in s t tb frame is.sound.job.0.1 in
      let number : frame_number s f ≡ frame_number s frame = cc in
      let same = same_frame s f frame its there number in (
        frame_test f frame same,
        goes_as image s cpu home w _ _ _ _ (ap (free (mover_seen s (mover_of t (Reclaim frame Cleaning) e))) number ∙ sym (reclaimed_seen s t tb Idle e frame there)) (sym (append_none rest)) g,
      )
  freed_by (Move route phase) f is its jb g = absurd (no_cleaning s route phase (frame_number s f) jb)
  freed_by j f is its jb g = absurd (cc)

  -- the word in flight
  pub clean_comes : (j : Job) (from : ℕ) (f : Frame) → AreSizes s → IsMoverOf s (mover_of t j e) → Comes image s cpu home w rest (mover_of t j e) from (FrameClean f) → Takes image s cpu home w rest (mover_of t j e) from (FrameClean f)
  clean_comes j from f sizes is sim =
      let low = sim.flight.0.0.1.2 in
      let sent : from ≡ frame_number s f / s.frames = sim.flight.0.0.1.0 in
      let moved = subst (λ (x : ℕ). Shows image s cpu home (mover_seen s (mover_of t j e)) (letter x s.nodes (KFrameClean (frame_number s f)) ∷ rest) w) sent sim in
      let x = freed_goes (setup_seen s) (harts_seen image s) cpu home (mover_seen s (mover_of t j e)) w (frame_number s f) rest moved in
      let got = freed_by j f is (there_below s f low) x.0 x.1 in
      (both (nat_lt from t.nodes) _ (is_below from t.nodes s.nodes is.nodes (subst (λ (x : ℕ). x < s.nodes) (sym sent) (home_low s (frame_number s f) sizes low))) got.0, got.1)

  -- ---- a walk

  -- a page that moves is refused, and else its frame is told
  walk_answer : (j : Job) (p : ℕ) (page : VPage) → IsMoverOf s (mover_of t j e) → number_of t page ≡ Some (page_number s page) → page_number s page < length t.pages → (b : Bool) → is_moving t page ≡ b →
      Goes (setup_seen s) (harts_seen image s) (machine cpu home (walk_by (setup_seen s) (mover_seen s (mover_of t j e)) p (page_number s page) b).0 (rest ++ (walk_by (setup_seen s) (mover_seen s (mover_of t j e)) p (page_number s page) b).1)) w →
      MoverGoes image s cpu home rest w (walk_row (mover_of t j e) p page)
  unfolding frame_of
  walk_answer j p page is n low true moving g =
      let none : walk_of t page ≡ None = ap (λ b. cond b None (frame_of t page)) moving in
      subst (λ o. MoverGoes image s cpu home rest w (walk_answered (mover_of t j e) p page o)) (sym none) g
  walk_answer j p page is n low false moving g =
      let tb = table_of s (mover_of t j e) is in
      let told : walk_of t page ≡ Some (frame_in t (page_number s page)) = ap (λ b. cond b None (frame_of t page)) moving ∙ ap (option_map (frame_in t)) n in
      let there : is_there s (frame_in t (page_number s page)) ≡ true = is_there_in s t tb (frame_in t (page_number s page)) (tb.sound.roled.framed (page_number s page) low).0 in
      subst (λ o. MoverGoes image s cpu home rest w (walk_answered (mover_of t j e) p page o)) (sym told)
      (goes_as image s cpu home w _ _ _ _ (sym (told_seen s t tb j e page p (page_number s page) (frame_in t (page_number s page)) told there refl)) refl g)

  -- a walk in flight
  pub walk_comes : (j : Job) (from : ℕ) (page : VPage) → IsMoverOf s (mover_of t j e) → Comes image s cpu home w rest (mover_of t j e) from (Walk page) → Takes image s cpu home w rest (mover_of t j e) from (Walk page)
  unfolding frame_of
  walk_comes j from page is sim =
      let tb = table_of s (mover_of t j e) is in
      let low : page_number s page < length s.pages = sim.flight.0.0.1.2 in
      let n = page_placed s t tb page low in
      let inside : page_number s page < length t.pages = subst (λ (xs : List ℕ). page_number s page < length xs) (sym is.pages) low in
      let x = walk_goes (setup_seen s) (harts_seen image s) cpu home (mover_seen s (mover_of t j e)) w from (page_number s page) rest sim in (
        both (nat_lt from t.nodes) (is_some (frame_of t page)) (is_below from t.nodes s.nodes is.nodes sim.flight.0.0.1.0) (ap (λ o. is_some (option_map (frame_in t) o)) n),
        walk_answer j from page is n inside (moves (job_seen s j) (page_number s page)) (moves_seen s t j e page (page_number s page) is n) x,
      )
