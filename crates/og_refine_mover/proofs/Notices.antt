-- A notice comes to the mover: it has its row, and whatever is decided of it is rows of the theory.
use Rattle.std.proofs.Common.{◌≡◌, ℕ, ◌<◌, ◌/◌, Bool, true, false, not, cond, nat_lt, is_some, List, ◌∷◌, ◌++◌, length, get_or, Option, None, Some, refl, sym, ap, ◌∙◌, subst, arith}
use Rattle.og_base.specs.declared.Frame.{Frame}
use Rattle.og_base.specs.declared.VPage.{VPage}
use Rattle.og_base.specs.declared.Hot.{Hot}
use Rattle.og_base.specs.declared.Settings.{Settings}
use Rattle.og_base.specs.declared.Reason.{Reason}
use Rattle.og_base.specs.declared.Reason.TheVariants.{Busy, Shared, Worn, Full}
use Rattle.og_line.specs.declared.Line.{Line}
use Rattle.og_msg.specs.declared.Kind.TheVariants as kind
use Rattle.og_image.specs.Image.{ImageState}
use Rattle.og_block.specs.State.{put}
use Rattle.og_whole.specs.Events.{World}
use Rattle.og_pager.specs.declared.Role.{Role}
use Rattle.og_pager.specs.declared.Role.TheVariants.{Free, Mapped, Target, Quarantined}
use Rattle.og_pager.specs.PageTable.{PageTable, number_of, role_of, page_by, page_of, least_free, oldest, begun}
use Rattle.og_pager.proofs.Kept.{numbered, least_is_free, quarantine_move}
use Rattle.og_pager.proofs.Seen.{found_laws}
use Rattle.og_mover.specs.declared.Phase.TheVariants.{Ask}
use Rattle.og_mover.specs.declared.Job.{Job}
use Rattle.og_mover.specs.declared.Job.TheVariants.{Idle, Move, Reclaim}
use Rattle.og_mover.specs.Table.{is_idle_job, route_of, move_begun, reclaim_begun, refuse_row, decided, judged, noticed, is_known}
use Rattle.og_mover.proofs.Kept.{moved_so}
use Rattle.og_relate.specs.Data.{KHot, KRearm, Post, Cpu, HomeSide, Mover, MIdle, MAsk, UsedBy, ReservedFor, Left}
use Rattle.og_relate.specs.Goes.{Goes}
use Rattle.og_relate.specs.Steps.{letter}
use Rattle.og_relate.specs.Laws.{machine}
use Rattle.og_relate.proofs.MoverRows.{hot_refused}
use Rattle.og_relate.proofs.Take.{append_none}
use Rattle.og_relate_mover.specs.Steps.{begin}
use Rattle.og_relate_mover.proofs.PageEvents.{move_begins}
use Rattle.og_relate_mover.proofs.Notices.{turned_away}
use Rattle.og_seen.specs.Numbers.{Sizes, frame_count, is_there, frame_number, page_number, setup_seen}
use Rattle.og_seen.specs.Messages.{letters_seen}
use Rattle.og_seen.specs.Harts.{Hart, harts_seen}
use Rattle.og_seen.specs.Movers.{role_seen, job_seen, mover_seen}
use Rattle.og_seen.specs.Sound.{AreSizes, IsMoverOf}
use Rattle.og_seen.specs.Events.{Shows, MoverGoes}
use Rattle.og_seen.proofs.Numbers.{number_below, there_below}
use Rattle.og_refine_mover.proofs.Tables.{IsTableOf, table_of, is_there_in, is_frame, role_at, page_is}
use Rattle.og_refine_mover.proofs.Facts.{page_noticed}
use Rattle.og_refine_mover.proofs.Changes.{mover_of, begun_seen}
use Rattle.og_refine_mover.proofs.Routes.{goes_as}
use Rattle.og_refine_mover.proofs.Sent.{home_low, both, is_below}
use Rattle.og_refine_mover.proofs.Acts.{to_home}
use Rattle.og_refine_mover.proofs.Blocks.{Takes, Comes}

-- a frame that is seen to be used by a page is mapped to it
used_role : (r : Role) (y : ℕ) → role_seen r ≡ UsedBy y → r ≡ Mapped y
used_role Free y e = absurd (cc)
used_role (Mapped n) y e = cc
used_role (Target n) y e = absurd (cc)
used_role (Quarantined n) y e = absurd (cc)

-- a page is moved, and refused since nothing is free, only where the mover is idle
moved_idle : (idle : Bool) (o : Option Reason) → cond (not idle) (Some Busy) o ≡ None → idle ≡ true
moved_idle true o e = refl
moved_idle false o e = absurd (cc)

full_idle : (idle : Bool) (o : Option Reason) → cond (not idle) (Some Busy) o ≡ Some Full → idle ≡ true
full_idle true o e = refl
full_idle false o e = absurd (busy e)
  where
    busy : Some Busy ≡ Some Full → ⊥
    busy e = cc

-- and an idle mover is seen to be idle
idle_is : (s : Sizes) (j : Job) → is_idle_job j ≡ true → job_seen s j ≡ MIdle
idle_is s Idle e = refl
idle_is s (Move route phase) e = absurd (cc)
idle_is s (Reclaim frame step) e = absurd (cc)

module _ (image : ImageState) (s : Sizes) (cpu : ℕ → Cpu Line Hart) (home : ℕ → HomeSide Line) (w : World Line) (rest : List (Post Line)) (t : PageTable) (j : Job) (e : Settings) (from : ℕ) (hot : Hot) (is : IsMoverOf s (mover_of t j e)) (there : is_there s hot.frame ≡ true) (node : hot.node < s.nodes) (sim : Shows image s cpu home (mover_seen s (mover_of t j e)) (letter from s.nodes (KHot (frame_number s hot.frame) hot.node hot.count hot.most) ∷ rest) w) where
  -- the page table, and the hot node among its nodes
  tb : IsTableOf s t
  tb = table_of s (mover_of t j e) is

  there_node : hot.node < t.nodes
  there_node = subst (λ (n : ℕ). hot.node < n) (sym is.nodes) node

  -- what a frame of the page table is for
  role_is : (frame : Frame) (r : Role) → is_there s frame ≡ true → role_of t frame ≡ r → (mover_seen s (mover_of t j e)).role (frame_number s frame) ≡ role_seen r
  role_is frame r h q = ap role_seen (role_at s t tb frame h ∙ q)

  -- the move begins
  begins : (i : ℕ) (o : Option Frame) → role_of t hot.frame ≡ Mapped i → decided (mover_of t j e) hot (record { 0 = get_or t.pages i 0 }) ≡ None → least_free t hot.node ≡ o →
      MoverGoes image s cpu home rest w (move_begun (mover_of t j e) hot (record { 0 = get_or t.pages i 0 }) o)
  begins i None role moved least = absurd (let may = (moved_so (mover_of t j e) hot (record { 0 = get_or t.pages i 0 }) is.sound moved).2 in let none : is_some (least_free t hot.node) ≡ false = ap is_some least in cc)
  begins i (Some new) role moved least =
      let page : VPage = record { 0 = get_or t.pages i 0 } in
      let idle = idle_is s j (moved_idle (is_idle_job j) _ moved) in
      let low : i < length t.pages = (tb.sound.roled.mapped _ i role).0 in
      let inside : i < length s.pages = subst (λ (xs : List ℕ). i < length xs) is.pages low in
      let n : number_of t page ≡ Some i = numbered t tb.sound i low in
      let y : page_number s page ≡ i = page_is s t tb page i n in
      let free = least_is_free t tb.sound hot.node new there_node least in
      let new_there = is_there_in s t tb new free.0 in
      let f : ℕ = frame_number s hot.frame in
      let mover : Mover Line = mover_seen s (mover_of t j e) in
      let after : begin mover f i (frame_number s new) ≡ mover_seen s (mover_of (begun t page hot.node) (Move (route_of hot page new) (Ask 0)) e) =
      ap (λ k. record mover { job = MAsk k f (frame_number s new) 0; role = put mover.role (frame_number s new) (ReservedFor i) }) (sym y) ∙ sym (begun_seen s t tb (Move (route_of hot page new) (Ask 0)) e page hot.node i new n least new_there) in
      goes_as image s cpu home w _ _ _ _ after (sym (append_none rest))
      (move_begins (setup_seen s) (harts_seen image s) cpu home mover w from f i (frame_number s new) hot.node hot.count hot.most rest sim idle (role_is hot.frame (Mapped i) there role) (role_is new Free new_there free.1) inside (number_below s new new_there) (omega arith))

  -- it is refused
  refuses : (reason : Reason) → MoverGoes image s cpu home rest w (refuse_row (mover_of t j e) hot reason)
  refuses reason =
      goes_as image s cpu home w _ _ _ _ refl (ap (λ (x : List (Post Line)). rest ++ x) (to_home s hot.frame (KRearm (frame_number s hot.frame)) there))
      (turned_away (setup_seen s) (harts_seen image s) cpu home (mover_seen s (mover_of t j e)) w from (frame_number s hot.frame) hot.node hot.count hot.most rest sim)

  -- and a reclaim begins, where there is something to reclaim
  full : (o : Option Frame) → job_seen s j ≡ MIdle → oldest t hot.node ≡ o →
      Goes (setup_seen s) (harts_seen image s) (machine cpu home (mover_seen s (reclaim_begun (mover_of t j e) o)) (rest ++ letters_seen s s.nodes (refuse_row (mover_of t j e) hot Full).letters)) w
  full None idle old =
      goes_as image s cpu home w _ _ _ _ refl (ap (λ (x : List (Post Line)). rest ++ x) (to_home s hot.frame (KRearm (frame_number s hot.frame)) there))
      (hot_refused (setup_seen s) (harts_seen image s) cpu home (mover_seen s (mover_of t j e)) w from (frame_number s hot.frame) hot.node hot.count hot.most None rest sim idle (λ g x. absurd (cc)) (λ g x. absurd (cc)))
  full (Some frame) idle old =
      let found = found_laws.oldest t hot.node frame tb.sound there_node old in
      let its = is_there_in s t tb frame found.0 in
      let q = quarantine_move t frame found.1 in
      let role : (mover_seen s (mover_of t j e)).role (frame_number s frame) ≡ Left = role_is frame (Quarantined q.0) its q.1 in
      goes_as image s cpu home w _ _ _ _ refl (ap (λ (x : List (Post Line)). rest ++ x) (to_home s hot.frame (KRearm (frame_number s hot.frame)) there))
      (hot_refused (setup_seen s) (harts_seen image s) cpu home (mover_seen s (mover_of t j e)) w from (frame_number s hot.frame) hot.node hot.count hot.most (Some (frame_number s frame)) rest sim idle
      (λ g x. (let n : frame_number s frame ≡ g = cc in subst (λ (k : ℕ). (mover_seen s (mover_of t j e)).role k ≡ Left) n role)) (λ g x. (let n : frame_number s frame ≡ g = cc in subst (λ (k : ℕ). k < frame_count s) n (number_below s frame its))))

  -- whatever is decided
  judges : (i : ℕ) (o : Option Reason) → role_of t hot.frame ≡ Mapped i → decided (mover_of t j e) hot (record { 0 = get_or t.pages i 0 }) ≡ o →
      MoverGoes image s cpu home rest w (judged (mover_of t j e) hot (record { 0 = get_or t.pages i 0 }) o)
  judges i None role o = begins i (least_free t hot.node) role o refl
  judges i (Some Busy) role o = refuses Busy
  judges i (Some Shared) role o = refuses Shared
  judges i (Some Worn) role o = refuses Worn
  judges i (Some Full) role o = full (oldest t hot.node) (idle_is s j (full_idle (is_idle_job j) _ o)) refl

-- a notice in flight
pub notice_comes : (image : ImageState) (s : Sizes) (cpu : ℕ → Cpu Line Hart) (home : ℕ → HomeSide Line) (w : World Line) (rest : List (Post Line)) (t : PageTable) (e : Settings) (j : Job) (from : ℕ) (hot : Hot) → AreSizes s → IsMoverOf s (mover_of t j e) →
    Comes image s cpu home w rest (mover_of t j e) from (kind.Hot hot) → Takes image s cpu home w rest (mover_of t j e) from (kind.Hot hot)
unfolding page_of
notice_comes image s cpu home w rest t e j from hot sizes is sim =
    let low = sim.flight.0.0.0.0 in
    let there = there_below s hot.frame low in
    let sent : from ≡ frame_number s hot.frame / s.frames = sim.flight.0.0.1.0 in
    let node : hot.node < s.nodes = sim.flight.0.0.1.2 in
    let table = table_of s (mover_of t j e) is in
    let x = page_noticed (setup_seen s) (harts_seen image s) cpu home (mover_seen s (mover_of t j e)) w from (frame_number s hot.frame) hot.node hot.count hot.most rest sim in
    let role : role_of t hot.frame ≡ Mapped x.0 = used_role (role_of t hot.frame) x.0 (ap role_seen (sym (role_at s t table hot.frame there)) ∙ x.1) in
    let page : VPage = record { 0 = get_or t.pages x.0 0 } in
    let has : page_of t hot.frame ≡ Some page = ap (page_by t) role in
    let inside = is_frame s t table hot.frame there in
    let known : is_known t hot ≡ true = both _ _ (both _ _ (is_below hot.frame.home t.nodes t.nodes refl inside.0) (is_below hot.frame.index t.frames t.frames refl inside.1)) (both _ _ (is_below hot.node t.nodes s.nodes is.nodes node) (ap is_some has)) in (
      both (nat_lt from t.nodes) _ (is_below from t.nodes s.nodes is.nodes (subst (λ (n : ℕ). n < s.nodes) (sym sent) (home_low s (frame_number s hot.frame) sizes low))) known,
      subst (λ o. MoverGoes image s cpu home rest w (noticed (mover_of t j e) hot o)) (sym has) (judges image s cpu home w rest t j e from hot is there node sim x.0 (decided (mover_of t j e) hot page) role refl),
    )
