-- A mover stays one: what is known of its job after each change of the page table.
use Rattle.std.proofs.Common.{◌≡◌, ◌≢◌, ℕ, ◌+◌, ◌-◌, ◌^◌, ◌<◌, ◌≤◌, Bool, true, false, not, cond, nat_le, Option, Some, None, [], ◌∷◌, ◌++◌, map, refl, sym, ◌∙◌, ap, subst, arith}
use Rattle.std.specs.FinSet as set
use Rattle.std.proofs.lemmas.Bool.Decides.{nat_tests}
use Rattle.og_base.specs.declared.Frame.{Frame}
use Rattle.og_base.specs.declared.VPage.{VPage}
use Rattle.og_base.specs.declared.Hot.{Hot}
use Rattle.og_base.specs.declared.Settings.{Settings}
use Rattle.og_base.specs.declared.Reason.{Reason}
use Rattle.og_base.specs.declared.Reason.TheVariants.{Busy, Shared, Worn, Full}
use Rattle.og_pager.specs.PageTable.{PageTable, IsPageTable, IsFrame, frame_of, page_of, is_moving, is_quarantined, holders_of, moves_of, move_of, walk_of, has_free, least_free, with_holder, walked, begun, settled, dropped}
use Rattle.og_pager.specs.Laws.{SameFrames, Begins, Moves}
use Rattle.og_pager.proofs.Seen.{page_laws, walk_laws, drop_laws, begin_laws, settle_laws}
use Rattle.og_mover.specs.declared.Route.{Route}
use Rattle.og_mover.specs.declared.Clearing.{Clearing}
use Rattle.og_mover.specs.declared.Clearing.TheVariants.{Tell, Gather, Clean, Cleaning}
use Rattle.og_mover.specs.declared.Job.{Job}
use Rattle.og_mover.specs.declared.Job.TheVariants.{Idle, Move, Reclaim}
use Rattle.og_image.proofs.Pages.{filter_below_more}
use Rattle.og_base.specs.Numbers.{below}
use Rattle.std.specs.List.{filter}
use Rattle.std.proofs.lemmas.List.{map-append}
use Rattle.og_mover.specs.Table.{MoverState, is_idle_job, decided, walk_row, walk_answered, with_pages}
use Rattle.og_mover.specs.Sound.{IsMover, IsJob, IsRoute, IsCleared, IsClearing, MayMove}

none_some : {A : Type 0} {x : A} → None ≡ Some x → ⊥
none_some e = cc

same_some : {A : Type 0} {x y : A} → Some x ≡ Some y → x ≡ y
same_some e = cc

-- ------------------------------------------------------------ changes of holders

module _ (t u : PageTable) (same : SameFrames t u) where
  pub cleared_stays : (frame : Frame) → IsCleared t frame → IsCleared u frame
  cleared_stays frame it =
      (same.move ∙ it.0, (subst (λ (n : ℕ). frame.home < n) (sym same.size.0) it.1.0, subst (λ (n : ℕ). frame.index < n) (sym same.size.1) it.1.1), same.quarantined frame ∙ it.2)

  pub route_stays : (settings : Settings) (route : Route) → IsRoute t settings route → IsRoute u settings route
  route_stays settings route it = (same.move ∙ it.0, subst (λ (n : ℕ). n < settings.moves) (sym (same.moves route.page)) it.1)

module _ (t : PageTable) (is : IsPageTable t) where
  -- no walk is told a frame in quarantine
  pub untold : (page : VPage) (frame : Frame) → is_quarantined t frame ≡ true → walk_of t page ≢ Some frame
  untold page frame left told = by_test (is_moving t page) told
    where
      by_test : (b : Bool) → cond b None (frame_of t page) ≡ Some frame → ⊥
      by_test true e = none_some e
      by_test false e = none_some (sym (page_laws.quarantined t frame left) ∙ page_laws.page t page frame is e)

  pub job_after_walk : (settings : Settings) (page : VPage) (node : ℕ) (job : Job) → IsJob t settings job → IsJob (walked t page node) settings job
  job_after_walk settings page node Idle it = (walk_laws.frames t page node).move ∙ it
  job_after_walk settings page node (Move route phase) it = (route_stays t (walked t page node) (walk_laws.frames t page node) settings route it.0, it.1)
  job_after_walk settings page node (Reclaim frame step) it = (cleared_stays t (walked t page node) (walk_laws.frames t page node) frame it.0, by_step step it.1)
    where
      held : holders_of (walked t page node) frame ≡ holders_of t frame
      held = walk_laws.others t page node frame is it.0.1 (untold page frame it.0.2)

      by_step : (step : Clearing) → IsClearing t frame step → IsClearing (walked t page node) frame step
      by_step Tell e = tt
      by_step Gather e = tt
      by_step Clean e = ap set.len held ∙ e
      by_step Cleaning e = ap set.len held ∙ e

  pub cleared_after_drop : (frame : Frame) (node : ℕ) → IsCleared t frame → IsCleared (dropped t frame node) frame
  cleared_after_drop frame node it = cleared_stays t (dropped t frame node) (drop_laws.frames t frame node) frame it

-- ------------------------------------------------------------ moves

-- a page may be moved so often that one more move can be counted
pub few_moves : (t : PageTable) (settings : Settings) (route : Route) → IsRoute t settings route → (page : VPage) (old new : Frame) → move_of t ≡ Some (page, old, new) → moves_of t page < 2 ^ 32 - 1
few_moves t settings route it page old new e =
    let same : route.page ≡ page = ap (λ (x : VPage × Frame × Frame). x.0) (same_some (sym it.0 ∙ e)) in
    let most : settings.moves ≤ 1000000 = settings.moves_in_range in
    let few : moves_of t page < settings.moves = subst (λ (p : VPage). moves_of t p < settings.moves) same it.1 in
    omega (arith, few, most)

pub settled_table : (t : PageTable) (settings : Settings) (route : Route) → IsPageTable t → IsRoute t settings route → IsPageTable (settled t) × (move_of (settled t) ≡ None)
settled_table t settings route is it =
    let moves : Moves t route.page route.old route.new = record { sound = is; move = it.0 } in
    (settle_laws.sound t route.page route.old route.new moves (few_moves t settings route it route.page route.old route.new it.0), settle_laws.idle t route.page route.old route.new moves)

pub begins : (m : MoverState) (hot : Hot) (page : VPage) (new : Frame) → IsPageTable m.pages → page_of m.pages hot.frame ≡ Some page → IsFrame m.pages hot.frame → hot.node < m.pages.nodes → MayMove m hot page → least_free m.pages hot.node ≡ Some new → Begins m.pages page hot.node hot.frame new
begins m hot page new is there inside node may least = record {
  sound = is;
  there = node;
  placed = page_laws.frame m.pages page hot.frame is inside there;
  free = least;
  idle = may.0;
}

pub begun_table : (m : MoverState) (hot : Hot) (page : VPage) (new : Frame) → IsPageTable m.pages → page_of m.pages hot.frame ≡ Some page → IsFrame m.pages hot.frame → hot.node < m.pages.nodes → MayMove m hot page → least_free m.pages hot.node ≡ Some new →
    IsPageTable (begun m.pages page hot.node) × IsRoute (begun m.pages page hot.node) m.settings (record { page = page; old = hot.frame; new = new })
begun_table m hot page new is there inside node may least =
    let b : Begins m.pages page hot.node hot.frame new = begins m hot page new is there inside node may least in (
      begin_laws.sound m.pages page hot.node hot.frame new b,
      (begin_laws.move m.pages page hot.node hot.frame new b, subst (λ (n : ℕ). n < m.settings.moves) (sym (begin_laws.moves m.pages page page hot.node hot.frame new b)) may.1),
    )

-- ------------------------------------------------------------ notices

moves_by : (idle shared worn free : Bool) → cond (not idle) (Some Busy) (cond shared (Some Shared) (cond worn (Some Worn) (cond (not free) (Some Full) None))) ≡ None → (idle ≡ true) × (worn ≡ false) × (free ≡ true)
moves_by false shared worn free e = absurd (none_some (sym e))
moves_by true true worn free e = absurd (none_some (sym e))
moves_by true false true free e = absurd (none_some (sym e))
moves_by true false false false e = absurd (none_some (sym e))
moves_by true false false true e = (refl, refl, refl)

full_by : (idle : Bool) (rest : Option Reason) → cond (not idle) (Some Busy) rest ≡ Some Full → idle ≡ true
full_by true rest e = refl
full_by false rest e = absurd (busy e)
  where
    busy : Some Busy ≡ Some Full → ⊥
    busy e = cc

idle_job : (t : PageTable) (settings : Settings) (job : Job) → is_idle_job job ≡ true → IsJob t settings job → move_of t ≡ None
idle_job t settings Idle e it = it
idle_job t settings (Move route phase) e it = absurd (cc)
idle_job t settings (Reclaim frame step) e it = absurd (cc)

pub moved_so : (m : MoverState) (hot : Hot) (page : VPage) → IsMover m → decided m hot page ≡ None → MayMove m hot page
moved_so m hot page is e =
    let so = moves_by (is_idle_job m.job) (nat_le m.settings.sharing hot.most) (nat_le m.settings.moves (moves_of m.pages page)) (has_free m.pages hot.node) e in
    (idle_job m.pages m.settings m.job so.0 is.job, (let worn : nat_le m.settings.moves (moves_of m.pages page) ≡ false = so.1 in grind (arith, nat_tests)), so.2)

pub full_so : (m : MoverState) (hot : Hot) (page : VPage) → IsMover m → decided m hot page ≡ Some Full → move_of m.pages ≡ None
full_so m hot page is e = idle_job m.pages m.settings m.job (full_by (is_idle_job m.job) _ e) is.job

-- ------------------------------------------------------------ walks and letters

-- a walk that is told nothing changes nothing
pub walk_row_mover : (m : MoverState) (p : ℕ) (page : VPage) → (walk_row m p page).mover ≡ with_pages m (walked m.pages page p)
unfolding walked
walk_row_mover m p page = by_walk (walk_of m.pages page) refl
  where
    by_walk : (o : Option Frame) → walk_of m.pages page ≡ o → (walk_answered m p page o).mover ≡ with_pages m (with_holder m.pages p (walk_of m.pages page))
    by_walk None e = ap (λ (o : Option Frame). with_pages m (with_holder m.pages p o)) (sym e)
    by_walk (Some frame) e = refl

pub told_more : {X : Type 0} (f : ℕ → X) (p : ℕ → Bool) (n : ℕ) → map f (filter p (below (n + 1))) ≡ map f (filter p (below n)) ++ cond (p n) (f n ∷ []) []
told_more f p n = ap (map f) (filter_below_more p n) ∙ (map-append f (filter p (below n)) (cond (p n) (n ∷ []) []) ∙ ap (λ ys. map f (filter p (below n)) ++ ys) (by_test (p n)))
  where
    by_test : (b : Bool) → map f (cond b (n ∷ []) []) ≡ cond b (f n ∷ []) []
    by_test true = refl
    by_test false = refl
