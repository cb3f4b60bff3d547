-- What a job of the mover names is there; and what a mover that shows a world goes on to may be given as another that is equal to it.
use Rattle.std.proofs.Common.{◌≡◌, ℕ, ◌<◌, true, Option, Some, None, List, length, get_or, refl, ap, subst}
use Rattle.og_base.specs.declared.Frame.{Frame}
use Rattle.og_base.specs.declared.VPage.{VPage}
use Rattle.og_base.specs.declared.Settings.{Settings}
use Rattle.og_line.specs.declared.Line.{Line}
use Rattle.og_image.specs.Image.{ImageState}
use Rattle.og_whole.specs.Events.{World}
use Rattle.og_pager.specs.declared.Moving.{Moving}
use Rattle.og_pager.specs.PageTable.{PageTable, frame_in, number_of, move_in, move_of}
use Rattle.og_pager.proofs.Kept.{numbered}
use Rattle.og_mover.specs.declared.Route.{Route}
use Rattle.og_mover.specs.Sound.{IsRoute}
use Rattle.og_relate.specs.Data.{Post, Cpu, HomeSide, Mover}
use Rattle.og_relate.specs.Goes.{Goes}
use Rattle.og_relate.specs.Laws.{machine}
use Rattle.og_seen.specs.Numbers.{Sizes, is_there, page_number, setup_seen}
use Rattle.og_seen.specs.Harts.{Hart, harts_seen}
use Rattle.og_refine_mover.proofs.Tables.{IsTableOf, is_there_in, page_is}

none_some : {A : Type 0} {x : A} → None ≡ Some x → ⊥
none_some e = cc

same_some : {A : Type 0} {x y : A} → Some x ≡ Some y → x ≡ y
same_some e = cc

-- the move under way is the page table's, and its frames are there
pub record IsRouteOf (s : Sizes) (t : PageTable) (route : Route) : Type 0 where
  pub moving : Moving
  pub is_moving : t.moving ≡ Some moving
  pub placed : moving.number < length t.pages
  pub page : page_number s route.page ≡ moving.number
  pub old : frame_in t moving.number ≡ route.old
  pub new : moving.new ≡ route.new
  pub old_there : is_there s route.old ≡ true
  pub new_there : is_there s route.new ≡ true

module _ (s : Sizes) (t : PageTable) (is : IsTableOf s t) where
  -- the route of a job is one
  pub route_of : (e : Settings) (route : Route) → IsRoute t e route → IsRouteOf s t route
  unfolding move_of
  route_of e route it = by t.moving refl it.0
    where
      by : (o : Option Moving) → t.moving ≡ o → move_in t o ≡ Some (route.page, route.old, route.new) → IsRouteOf s t route
      by None m e = absurd (none_some e)
      by (Some moving) m e =
          let same = same_some e in
          let at : record { 0 = get_or t.pages moving.number 0 } ≡ route.page = ap (λ (x : VPage × Frame × Frame). x.0) same in
          let old : frame_in t moving.number ≡ route.old = ap (λ (x : VPage × Frame × Frame). x.1) same in
          let new : moving.new ≡ route.new = ap (λ (x : VPage × Frame × Frame). x.2) same in
          let r = is.sound.roled.moving moving m in
          let number : number_of t route.page ≡ Some moving.number = subst (λ (p : VPage). number_of t p ≡ Some moving.number) at (numbered t is.sound moving.number r.0) in
          record {
            moving = moving;
            is_moving = m;
            placed = r.0;
            page = page_is s t is route.page moving.number number;
            old = old;
            new = new;
            old_there = subst (λ (f : Frame). is_there s f ≡ true) old (is_there_in s t is (frame_in t moving.number) (is.sound.roled.framed moving.number r.0).0);
            new_there = subst (λ (f : Frame). is_there s f ≡ true) new (is_there_in s t is moving.new r.1);
          }

-- the same events, where mover and messages are known to be these
pub goes_as : (image : ImageState) (s : Sizes) (cpu : ℕ → Cpu Line Hart) (home : ℕ → HomeSide Line) (w : World Line) (mover other : Mover Line) (flight more : List (Post Line)) → mover ≡ other → flight ≡ more →
    Goes (setup_seen s) (harts_seen image s) (machine cpu home mover flight) w → Goes (setup_seen s) (harts_seen image s) (machine cpu home other more) w
goes_as image s cpu home w mover other flight more a b g =
    subst (λ (x : List (Post Line)). Goes (setup_seen s) (harts_seen image s) (machine cpu home other x) w) b (subst (λ (x : Mover Line). Goes (setup_seen s) (harts_seen image s) (machine cpu home x flight) w) a g)
