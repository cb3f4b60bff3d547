-- Each act of the mover is rows of the theory.
use Rattle.std.proofs.Common.{◌≡◌, ℕ, ◌<◌, ◌/◌, Bool, true, List, [], ◌∷◌, ◌++◌, length, map, refl, sym, ap, ap₂, ◌∙◌, subst}
use Rattle.std.specs.List.{filter}
use Rattle.std.specs.FinSet as set
use Rattle.og_base.specs.Numbers.{below}
use Rattle.og_base.specs.declared.Frame.{Frame}
use Rattle.og_base.specs.declared.Settings.{Settings}
use Rattle.og_line.specs.declared.Line.{Line}
use Rattle.og_image.specs.Image.{ImageState}
use Rattle.og_msg.specs.declared.Kind.TheVariants.{DropFrame}
use Rattle.og_whole.specs.Events.{World}
use Rattle.og_pager.specs.PageTable.{PageTable, holders_of, settled}
use Rattle.og_mover.specs.declared.Route.{Route}
use Rattle.og_mover.specs.declared.Phase.TheVariants.{Ask, Hold, Publish}
use Rattle.og_mover.specs.declared.Clearing.TheVariants.{Tell, Gather, Clean}
use Rattle.og_mover.specs.declared.Job.{Job}
use Rattle.og_mover.specs.declared.Job.TheVariants.{Idle, Move, Reclaim}
use Rattle.og_mover.specs.Table.{MoverState, ask_row, copy_row, publish_row, tell_row, gathered, clean_row, and_then, holders_rising, has_act, act_by, act_of, to}
use Rattle.og_relate.specs.Data.{KPoisonRead, KCopyIn, KCleanFrame, Kind, Post, Cpu, HomeSide}
use Rattle.og_relate.specs.Steps.{letter}
use Rattle.og_relate.specs.MoverSteps.{tell, drops}
use Rattle.og_relate.proofs.MoverRows.{tell_goes}
use Rattle.og_relate.proofs.Take.{append_none}
use Rattle.og_relate_mover.specs.Steps.{publish}
use Rattle.og_relate_mover.proofs.BlockEvents.{ask_goes}
use Rattle.og_relate_mover.proofs.PageEvents.{copy_goes, page_published, cleaning_goes}
use Rattle.og_seen.specs.Numbers.{Sizes, is_there, frame_number, page_number, setup_seen}
use Rattle.og_seen.specs.Messages.{letters_seen}
use Rattle.og_seen.specs.Harts.{Hart, harts_seen}
use Rattle.og_seen.specs.Movers.{mover_seen}
use Rattle.og_seen.specs.Sound.{IsMoverOf}
use Rattle.og_seen.specs.Events.{Shows, MoverGoes}
use Rattle.og_refine_mover.proofs.Tables.{table_of, home_of, is_there_in, holders_at}
use Rattle.og_refine_mover.proofs.Changes.{mover_of, settled_seen}
use Rattle.og_refine_mover.proofs.Routes.{route_of, goes_as}
use Rattle.og_refine_mover.proofs.Holders.{drops_seen, gather_seen}

-- a letter to a frame's home
pub to_home : (s : Sizes) (frame : Frame) (k : Kind Line) → is_there s frame ≡ true → letter s.nodes (frame_number s frame / s.frames) k ∷ [] ≡ letter s.nodes frame.home k ∷ []
to_home s frame k there = ap (λ h. letter s.nodes h k ∷ []) (home_of s frame there)

module _ (image : ImageState) (s : Sizes) (cpu : ℕ → Cpu Line Hart) (home : ℕ → HomeSide Line) (w : World Line) (rest : List (Post Line)) (t : PageTable) (e : Settings) where
  -- ---- a move

  -- a block is asked for
  asks : (route : Route) (b : ℕ) → IsMoverOf s (mover_of t (Move route (Ask b)) e) → Shows image s cpu home (mover_seen s (mover_of t (Move route (Ask b)) e)) rest w →
      MoverGoes image s cpu home rest w (ask_row (mover_of t (Move route (Ask b)) e) route b)
  asks route b is sim =
      let m = mover_of t (Move route (Ask b)) e in
      let r = route_of s t (table_of s m is) e route is.sound.job.0 in
      goes_as image s cpu home w _ _ _ _ refl (ap (λ (x : List (Post Line)). rest ++ x) (to_home s route.old (KPoisonRead (frame_number s route.old) b) r.old_there))
      (ask_goes (setup_seen s) (harts_seen image s) cpu home (mover_seen s m) w (page_number s route.page) (frame_number s route.old) (frame_number s route.new) b rest sim refl)

  -- its line goes into the new frame
  copies : (route : Route) (b : ℕ) (line : Line) → IsMoverOf s (mover_of t (Move route (Hold b line)) e) → Shows image s cpu home (mover_seen s (mover_of t (Move route (Hold b line)) e)) rest w →
      MoverGoes image s cpu home rest w (copy_row (mover_of t (Move route (Hold b line)) e) route b line)
  copies route b line is sim =
      let m = mover_of t (Move route (Hold b line)) e in
      let r = route_of s t (table_of s m is) e route is.sound.job.0 in
      goes_as image s cpu home w _ _ _ _ refl (ap (λ (x : List (Post Line)). rest ++ x) (to_home s route.new (KCopyIn (frame_number s route.new) b line) r.new_there))
      (copy_goes (setup_seen s) (harts_seen image s) cpu home (mover_seen s m) w (page_number s route.page) (frame_number s route.old) (frame_number s route.new) b line rest sim refl)

  -- the page is published
  publishes : (route : Route) → IsMoverOf s (mover_of t (Move route Publish) e) → Shows image s cpu home (mover_seen s (mover_of t (Move route Publish) e)) rest w →
      MoverGoes image s cpu home rest w (publish_row (mover_of t (Move route Publish) e) route)
  publishes route is sim =
      let m = mover_of t (Move route Publish) e in
      let tb = table_of s m is in
      let r = route_of s t tb e route is.sound.job.0 in
      let new_there : is_there s r.moving.new ≡ true = subst (λ (f : Frame). is_there s f ≡ true) (sym r.new) r.new_there in
      let low : r.moving.number < length t.table = subst (λ (n : ℕ). r.moving.number < n) (sym tb.sound.sized.all_frames) r.placed in
      let after : publish (mover_seen s m) (page_number s route.page) (frame_number s route.old) (frame_number s route.new) ≡ mover_seen s (mover_of (settled t) Idle e) =
      ap₂ (λ y n. publish (mover_seen s m) y (frame_number s route.old) n) r.page (ap (frame_number s) (sym r.new)) ∙ sym (settled_seen s t tb Idle e r.moving route.old r.is_moving low r.old r.old_there new_there) in
      goes_as image s cpu home w _ _ _ _ after (sym (append_none rest))
      (page_published (setup_seen s) (harts_seen image s) cpu home (mover_seen s m) w (page_number s route.page) (frame_number s route.old) (frame_number s route.new) rest sim refl)

  -- ---- a reclaim

  -- the holders are told
  tells : (frame : Frame) → IsMoverOf s (mover_of t (Reclaim frame Tell) e) → Shows image s cpu home (mover_seen s (mover_of t (Reclaim frame Tell) e)) rest w →
      MoverGoes image s cpu home rest w (and_then (tell_row (mover_of t (Reclaim frame Tell) e) frame) gathered)
  unfolding holders_rising
  tells frame is sim =
      goes_as image s cpu home w _ _ _ _ after (ap (λ (x : List (Post Line)). rest ++ x) letters)
      (tell_goes (setup_seen s) (harts_seen image s) cpu home (mover_seen s m) w f rest sim refl)
    where
      m : MoverState
      m = mover_of t (Reclaim frame Tell) e

      f : ℕ
      f = frame_number s frame

      there : is_there s frame ≡ true
      there = is_there_in s t (table_of s (mover_of t (Reclaim frame Tell) e) is) frame is.sound.job.0.1

      held : (mover_seen s (mover_of t (Reclaim frame Tell) e)).holders (frame_number s frame) ≡ set.contains (holders_of t frame)
      held = ap set.contains (holders_at s t (table_of s (mover_of t (Reclaim frame Tell) e) is) frame there)

      letters : drops s.nodes (frame_number s frame) ((mover_seen s (mover_of t (Reclaim frame Tell) e)).holders (frame_number s frame)) s.nodes ≡ letters_seen s s.nodes (tell_row (mover_of t (Reclaim frame Tell) e) frame).letters
      letters =
          ap (λ (h : ℕ → Bool). drops s.nodes f h s.nodes) held ∙ sym (drops_seen s frame (set.contains (holders_of t frame)) s.nodes s.nodes) ∙
          ap (λ n. letters_seen s s.nodes (map (λ q. to q (DropFrame frame)) (filter (set.contains (holders_of t frame)) (below n)))) (sym is.nodes)

      after : (tell (setup_seen s) (frame_number s frame) (mover_seen s (mover_of t (Reclaim frame Tell) e))).0 ≡ mover_seen s (gathered (mover_of t (Reclaim frame Gather) e))
      after = gather_seen s t (table_of s (mover_of t (Reclaim frame Tell) e) is) (Reclaim frame Tell) e frame there (sim.mover.holder_is (frame_number s frame))

  -- the home is told to clean
  cleans : (frame : Frame) → IsMoverOf s (mover_of t (Reclaim frame Clean) e) → Shows image s cpu home (mover_seen s (mover_of t (Reclaim frame Clean) e)) rest w →
      MoverGoes image s cpu home rest w (clean_row (mover_of t (Reclaim frame Clean) e) frame)
  cleans frame is sim =
      let m = mover_of t (Reclaim frame Clean) e in
      let there = is_there_in s t (table_of s m is) frame is.sound.job.0.1 in
      goes_as image s cpu home w _ _ _ _ refl (ap (λ (x : List (Post Line)). rest ++ x) (to_home s frame (KCleanFrame (frame_number s frame)) there))
      (cleaning_goes (setup_seen s) (harts_seen image s) cpu home (mover_seen s m) w (frame_number s frame) rest sim refl)

  -- ---- all of them

  -- whatever the job, where it has an act
  acts_by : (j : Job) → IsMoverOf s (mover_of t j e) → has_act j ≡ true → Shows image s cpu home (mover_seen s (mover_of t j e)) rest w → MoverGoes image s cpu home rest w (act_by (mover_of t j e) j)
  acts_by (Move route (Ask b)) is can sim = asks route b is sim
  acts_by (Move route (Hold b line)) is can sim = copies route b line is sim
  acts_by (Move route Publish) is can sim = publishes route is sim
  acts_by (Reclaim frame Tell) is can sim = tells frame is sim
  acts_by (Reclaim frame Clean) is can sim = cleans frame is sim
  acts_by j is can sim = absurd (cc)

-- the law
pub acts : (image : ImageState) (s : Sizes) (cpu : ℕ → Cpu Line Hart) (home : ℕ → HomeSide Line) (w : World Line) (m : MoverState) (rest : List (Post Line)) → IsMoverOf s m → has_act m.job ≡ true → Shows image s cpu home (mover_seen s m) rest w → MoverGoes image s cpu home rest w (act_of m)
unfolding act_of
acts image s cpu home w m rest is can sim = acts_by image s cpu home w rest m.pages m.settings m.job is can sim
