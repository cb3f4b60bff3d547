-- The laws of what is seen of a page table.
use Rattle.std.proofs.Common.{◌≡◌, ◌≢◌, ℕ, zero, suc, is_some, nat_le, ◌+◌, ◌-◌, ◌*◌, ◌^◌, ◌<◌, ◌≤◌, ◌&&◌, Bool, true, false, cond, nat_eq, nat_cmp, Option, Some, None, List, length, map, get_or, drop, option_map, refl, sym, ◌∙◌, ap, ap₂, subst, arith, inl, inr, ◌⊎◌}
use Rattle.std.specs.List.{list_all, position}
use Rattle.std.specs.FinSet as sets
use Rattle.std.proofs.Math.ListN.{set, length-set}
use Rattle.std.proofs.Math.Nat.{mul-le-mul_right}
use Rattle.std.proofs.lemmas.List.{get_or-set_same, get_or-set_other, length-take-le, length-drop}
use Rattle.std.proofs.lemmas.List.Elements.{All-get_or}
use Rattle.std.proofs.lemmas.List.Sums.{AllPass-from_list_all}
use Rattle.std.proofs.lemmas.List.Quantifiers.{position-Some}
use Rattle.std.proofs.lemmas.Bool.{cases_eq}
use Rattle.std.proofs.lemmas.Bool.Decides.{nat_tests}
use Rattle.og_base.specs.declared.Frame.{Frame}
use Rattle.og_base.specs.declared.VPage.{VPage}
use Rattle.og_base.specs.Numbers.{below}
use Rattle.og_image.specs.Layout.{LayoutState, frame_at, first_frame}
use Rattle.og_image.proofs.Pages.{pages_rise}
use Rattle.og_pager.specs.declared.Role.{Role}
use Rattle.og_pager.specs.declared.Role.TheVariants.{Free, Mapped, Target, Quarantined}
use Rattle.og_pager.specs.declared.Moving.{Moving}
use Rattle.og_pager.specs.declared.Left.{Left}
use Rattle.og_pager.specs.Oldest.{older_of}
use Rattle.og_pager.proofs.Eldest.{IsEldest, eldest_more, eldest_found}
use Rattle.og_pager.specs.PageTable.{PageTable, IsPageTable, IsFrame, frame_number, frame_in, role_of, roles_at, at_home, number_of, no_frame, page_by, is_free_role, is_quarantined_role, is_left_first, is_left_later, moves_in, move_in, frame_of, page_of, is_free, is_quarantined, left_by, left_at, is_moving, holders_of, moves_of, move_of, walk_of, least_free, oldest, first_table, with_holder, walked, moving_into, begun, published_move, settled, dropped, reclaimed}
use Rattle.og_pager.specs.Laws.{LayoutSuits, FirstIsSeen, PagesAreSeen, FoundFrames, QuarantineIsSeen, SameFrames, WalkIsSeen, DropIsSeen, Begins, BeginIsSeen, Moves, SettleIsSeen, ReclaimIsSeen}
use Rattle.og_pager.proofs.Frames.{same_number, is_elsewhere, mapped_target, target_mapped, none_some, same_some}
use Rattle.og_pager.proofs.Kept.{number_inside, kept_reclaimed, kept_walked, kept_dropped, kept_begun, kept_settled, quarantine_move, numbered, number_low, frame_inside, role_at_home, roles_few, least_is_free}
use Rattle.og_pager.proofs.Firsts.{first_sound, mapped_at}

-- ------------------------------------------------------------ pieces

-- a test of roles that doesn't tell the new role at a place from the old one
same_test : {X : Type 0} (F : Role → X) (roles : List Role) (a : ℕ) (x w : Role) → a < length roles → get_or roles a Free ≡ w → F x ≡ F w → (k : ℕ) → F (get_or (set roles a x) k Free) ≡ F (get_or roles k Free)
same_test F roles a x w inside old same k = by_place (cases_eq k a)
  where
    by_place : (k ≡ a) ⊎ (k ≡ a → ⊥) → F (get_or (set roles a x) k Free) ≡ F (get_or roles k Free)
    by_place (inl here) =
        ap (λ j. F (get_or (set roles a x) j Free)) here ∙ (ap F (get_or-set_same roles a x Free inside) ∙ (same ∙ (sym (ap F old) ∙ sym (ap (λ j. F (get_or roles j Free)) here))))
    by_place (inr other) = ap F (get_or-set_other roles a k x Free other)

page_same : (t u : PageTable) → u.pages ≡ t.pages → (r : Role) → page_by u r ≡ page_by t r
page_same t u e Free = refl
page_same t u e (Mapped n) = ap (λ pages. Some (record { 0 = get_or pages n 0 })) e
page_same t u e (Target n) = refl
page_same t u e (Quarantined n) = refl

moves_same : (t u : PageTable) → u.moves ≡ t.moves → (o : Option ℕ) → moves_in u o ≡ moves_in t o
moves_same t u e None = refl
moves_same t u e (Some n) = ap (λ moves. get_or moves n 0) e

move_same : (t u : PageTable) → u.pages ≡ t.pages → u.table ≡ t.table → (o : Option Moving) → move_in u o ≡ move_in t o
move_same t u p e None = refl
move_same t u p e (Some m) = ap₂ (λ pages table. Some (record { 0 = get_or pages m.number 0 }, get_or table m.number no_frame, m.new)) p e

page_named : (page : VPage) (n : ℕ) → nat_eq page.0 n ≡ true → record { 0 = n } ≡ page
page_named page n e = grind (arith, nat_tests)

and_left : (a b : Bool) → (a && b) ≡ true → a ≡ true
and_left true b e = refl
and_left false b e = e

-- ------------------------------------------------------------ holders

same_holders : (t : PageTable) (s : List (sets.FinSet nat_cmp)) → SameFrames t (record t { holders = s })
unfolding frame_of page_of is_free is_quarantined left_at moves_of move_of least_free oldest
same_holders t s = record {
  size = (refl, refl);
  frame = λ page. refl;
  page = λ frame. page_same t (record t { holders = s }) refl (role_of t frame);
  free = λ frame. refl;
  quarantined = λ frame. refl;
  left = λ frame. refl;
  published = refl;
  moves = λ page. moves_same t (record t { holders = s }) refl (number_of t page);
  move = move_same t (record t { holders = s }) refl refl t.moving;
  least = λ node. refl;
  oldest = λ node. refl;
}

same_itself : (t : PageTable) → SameFrames t t
same_itself t = record {
  size = (refl, refl);
  frame = λ page. refl;
  page = λ frame. refl;
  free = λ frame. refl;
  quarantined = λ frame. refl;
  left = λ frame. refl;
  published = refl;
  moves = λ page. refl;
  move = refl;
  least = λ node. refl;
  oldest = λ node. refl;
}

walk_frames : (t : PageTable) (page : VPage) (node : ℕ) → SameFrames t (walked t page node)
unfolding walked
walk_frames t page node = by_walk (walk_of t page)
  where
    by_walk : (o : Option Frame) → SameFrames t (with_holder t node o)
    by_walk None = same_itself t
    by_walk (Some frame) = same_holders t (set t.holders (frame_number t frame) (sets.insert (holders_of t frame) node))

module _ (t : PageTable) (is : IsPageTable t) where
  holder_inside : (frame : Frame) → IsFrame t frame → frame_number t frame < length t.holders
  holder_inside frame inside = let same : length t.holders ≡ length t.roles = is.sized.all_holders ∙ sym is.sized.all_roles in rw same (number_inside t is frame inside)

  walk_inside : (page : VPage) (frame : Frame) → walk_of t page ≡ Some frame → IsFrame t frame
  walk_inside page frame e = by_test (is_moving t page) e
    where
      by_test : (b : Bool) → cond b None (frame_of t page) ≡ Some frame → IsFrame t frame
      by_test true e = absurd (none_some e)
      by_test false e = frame_inside t is page frame e

  walk_told : (page : VPage) (node : ℕ) (frame : Frame) → walk_of t page ≡ Some frame → holders_of (walked t page node) frame ≡ sets.insert (holders_of t frame) node
  unfolding walked holders_of
  walk_told page node frame e =
      ap (λ o. holders_of (with_holder t node o) frame) e ∙ get_or-set_same t.holders (frame_number t frame) (sets.insert (holders_of t frame) node) sets.empty (holder_inside frame (walk_inside page frame e))

  walk_others : (page : VPage) (node : ℕ) (frame : Frame) → IsFrame t frame → walk_of t page ≢ Some frame → holders_of (walked t page node) frame ≡ holders_of t frame
  unfolding walked holders_of
  walk_others page node frame inside differ = by_walk (walk_of t page) refl
    where
      by_walk : (o : Option Frame) → walk_of t page ≡ o → holders_of (with_holder t node o) frame ≡ holders_of t frame
      by_walk None e = refl
      by_walk (Some told) e =
          get_or-set_other t.holders (frame_number t told) (frame_number t frame) (sets.insert (holders_of t told) node) sets.empty
          (λ same. differ (e ∙ ap Some (sym (same_number t frame told inside (walk_inside page told e) same))))

  drop_own : (frame : Frame) (node : ℕ) → IsFrame t frame → holders_of (dropped t frame node) frame ≡ sets.remove (holders_of t frame) node
  unfolding dropped holders_of
  drop_own frame node inside = get_or-set_same t.holders (frame_number t frame) (sets.remove (holders_of t frame) node) sets.empty (holder_inside frame inside)

  drop_others : (frame other : Frame) (node : ℕ) → IsFrame t frame → IsFrame t other → other ≢ frame → holders_of (dropped t frame node) other ≡ holders_of t other
  unfolding dropped holders_of
  drop_others frame other node inside within differ =
      get_or-set_other t.holders (frame_number t frame) (frame_number t other) (sets.remove (holders_of t frame) node) sets.empty (λ same. differ (same_number t other frame within inside same))

  -- ------------------------------------------------------------ pages and frames

  number_known : (page : VPage) (frame : Frame) → frame_of t page ≡ Some frame → (i : ℕ) × (number_of t page ≡ Some i) × (i < length t.pages) × (frame_in t i ≡ frame)
  unfolding frame_of
  number_known page frame e = by_number (number_of t page) refl e
    where
      by_number : (o : Option ℕ) → number_of t page ≡ o → option_map (frame_in t) o ≡ Some frame → (i : ℕ) × (number_of t page ≡ Some i) × (i < length t.pages) × (frame_in t i ≡ frame)
      by_number None n e = absurd (none_some e)
      by_number (Some i) n e = (i, n, number_low t is page i n, same_some e)

  page_at : (page : VPage) (i : ℕ) → number_of t page ≡ Some i → record { 0 = get_or t.pages i 0 } ≡ page
  page_at page i n = page_named page (get_or t.pages i 0) (position-Some (nat_eq page.0) t.pages i 0 n).1

  frame_page : (page : VPage) (frame : Frame) → frame_of t page ≡ Some frame → page_of t frame ≡ Some page
  unfolding page_of
  frame_page page frame e =
      let known = number_known page frame e in
      let role : role_of t frame ≡ Mapped known.0 = subst (λ (f : Frame). role_of t f ≡ Mapped known.0) known.3 (is.roled.framed known.0 known.2).1 in
      ap (page_by t) role ∙ ap Some (page_at page known.0 known.1)

  page_frame : (page : VPage) (frame : Frame) → IsFrame t frame → page_of t frame ≡ Some page → frame_of t page ≡ Some frame
  unfolding page_of frame_of
  page_frame page frame inside e = by_role (role_of t frame) refl e
    where
      by_role : (r : Role) → role_of t frame ≡ r → page_by t r ≡ Some page → option_map (frame_in t) (number_of t page) ≡ Some frame
      by_role Free r e = absurd (none_some e)
      by_role (Target n) r e = absurd (none_some e)
      by_role (Quarantined n) r e = absurd (none_some e)
      by_role (Mapped n) r e =
          let at = is.roled.mapped (frame_number t frame) n r in
          let number : number_of t page ≡ Some n = subst (λ (p : VPage). number_of t p ≡ Some n) (same_some e) (numbered t is n at.0) in
          ap (option_map (frame_in t)) number ∙ ap Some (same_number t (frame_in t n) frame (is.roled.framed n at.0).0 inside at.1)

  oldest_is : (node : ℕ) (frame : Frame) → node < t.nodes → oldest t node ≡ Some frame → IsFrame t frame × (is_quarantined t frame ≡ true) × (frame.home ≡ node)
  unfolding oldest is_quarantined
  oldest_is node frame inside e = by_place (position (is_left_first (roles_at t node)) (roles_at t node)) refl e
    where
      by_place : (o : Option ℕ) → position (is_left_first (roles_at t node)) (roles_at t node) ≡ o → option_map (at_home node) o ≡ Some frame → IsFrame t frame × (is_quarantined_role (role_of t frame) ≡ true) × (frame.home ≡ node)
      by_place None p e = absurd (none_some e)
      by_place (Some i) p e =
          let found = position-Some (is_left_first (roles_at t node)) (roles_at t node) i Free p in
          let low : i < t.frames = omega (arith, found.0, roles_few t is node) in
          let left : is_quarantined_role (get_or (roles_at t node) i Free) ≡ true = and_left (is_quarantined_role (get_or (roles_at t node) i Free)) _ found.1 in
          subst (λ (f : Frame). IsFrame t f × (is_quarantined_role (role_of t f) ≡ true) × (f.home ≡ node)) (same_some e)
          ((inside, low), ap is_quarantined_role (sym (role_at_home t is node i low)) ∙ left, refl)

  least_is : (node : ℕ) (frame : Frame) → node < t.nodes → least_free t node ≡ Some frame → IsFrame t frame × (is_free t frame ≡ true) × (frame.home ≡ node)
  unfolding is_free
  least_is node frame inside e = let free = least_is_free t is node frame inside e in (free.0, ap is_free_role free.1, free.2)

free_page : (t : PageTable) (frame : Frame) → is_free t frame ≡ true → page_of t frame ≡ None
unfolding is_free page_of
free_page t frame e = by_role (role_of t frame) e
  where
    by_role : (r : Role) → is_free_role r ≡ true → page_by t r ≡ None
    by_role Free e = refl
    by_role (Mapped n) e = absurd (cc)
    by_role (Target n) e = refl
    by_role (Quarantined n) e = refl

left_page : (t : PageTable) (frame : Frame) → is_quarantined t frame ≡ true → page_of t frame ≡ None
unfolding is_quarantined page_of
left_page t frame e = by_role (role_of t frame) e
  where
    by_role : (r : Role) → is_quarantined_role r ≡ true → page_by t r ≡ None
    by_role Free e = refl
    by_role (Mapped n) e = absurd (cc)
    by_role (Target n) e = refl
    by_role (Quarantined n) e = refl

left_role : (r : Role) (move : ℕ) → left_by r ≡ Some move → r ≡ Quarantined move
left_role Free move e = absurd (none_some e)
left_role (Mapped n) move e = absurd (none_some e)
left_role (Target n) move e = absurd (none_some e)
left_role (Quarantined n) move e = ap Quarantined (same_some e)

not_left_role : (r : Role) → is_quarantined_role r ≡ false → left_by r ≡ None
not_left_role Free e = refl
not_left_role (Mapped n) e = refl
not_left_role (Target n) e = refl
not_left_role (Quarantined n) e = absurd (cc)

left_is_some : (r : Role) → is_quarantined_role r ≡ is_some (left_by r)
left_is_some Free = refl
left_is_some (Mapped n) = refl
left_is_some (Target n) = refl
left_is_some (Quarantined n) = refl

left_quarantined : (t : PageTable) (frame : Frame) → is_quarantined t frame ≡ is_some (left_at t frame)
unfolding is_quarantined left_at
left_quarantined t frame = left_is_some (role_of t frame)

-- what is known of one role more
eldest_after : (roles : List Role) (n : ℕ) → (o : Option Left) × IsEldest roles n o → (o : Option Left) × IsEldest roles (suc n) o
eldest_after roles n known = (
  older_of known.0 n (get_or roles n Free),
  (let e : n + 1 ≡ suc n = omega arith in subst (λ (k : ℕ). IsEldest roles k (older_of known.0 n (get_or roles n Free))) e (eldest_more roles n (get_or roles n Free) refl known.0 known.1)),
)

eldest_upto : (roles : List Role) (n : ℕ) → (o : Option Left) × IsEldest roles n o
eldest_upto roles zero = (None, λ k lt. absurd (omega arith))
eldest_upto roles (suc n) = eldest_after roles n (eldest_upto roles n)

module _ (t : PageTable) (is : IsPageTable t) where
  left_before : (frame : Frame) (move : ℕ) → left_at t frame ≡ Some move → move < t.published
  unfolding left_at
  left_before frame move e = is.roled.left (frame_number t frame) move (left_role (role_of t frame) move e)

  left_once : (frame other : Frame) (move : ℕ) → IsFrame t frame → IsFrame t other → left_at t frame ≡ Some move → left_at t other ≡ Some move → frame ≡ other
  unfolding left_at
  left_once frame other move inside within e f =
      same_number t frame other inside within (is.roled.once (frame_number t frame) (frame_number t other) move (left_role (role_of t frame) move e) (left_role (role_of t other) move f))

  roles_all : (node : ℕ) → node < t.nodes → length (roles_at t node) ≡ t.frames
  roles_all node inside =
      let more : (node + 1) * t.frames ≤ t.nodes * t.frames = mul-le-mul_right t.frames (omega arith) in
      let rest : length (drop (node * t.frames) t.roles) ≡ length t.roles - node * t.frames = length-drop (node * t.frames) t.roles in
      length-take-le t.frames (drop (node * t.frames) t.roles) (omega (arith, more, rest, is.sized.all_roles))

  left_first : (frame other : Frame) (move later : ℕ) → IsFrame t other → oldest t other.home ≡ Some frame → left_at t frame ≡ Some move → left_at t other ≡ Some later → move ≤ later
  unfolding oldest left_at
  left_first frame other move later within e here there = by_place (position (is_left_first (roles_at t other.home)) (roles_at t other.home)) refl e
    where
      by_place : (o : Option ℕ) → position (is_left_first (roles_at t other.home)) (roles_at t other.home) ≡ o → option_map (at_home other.home) o ≡ Some frame → move ≤ later
      by_place None p e = absurd (none_some e)
      by_place (Some i) p e =
          let found = position-Some (is_left_first (roles_at t other.home)) (roles_at t other.home) i Free p in
          let low : i < t.frames = omega (arith, found.0, roles_few t is other.home) in
          let at : get_or (roles_at t other.home) i Free ≡ Quarantined move =
          role_at_home t is other.home i low ∙ left_role (get_or t.roles (other.home * t.frames + i) Free) move (ap (λ (f : Frame). left_by (role_of t f)) (same_some e) ∙ here) in
          let all : list_all (is_left_later (Quarantined move)) (roles_at t other.home) ≡ true = ap (is_left_first (roles_at t other.home)) (sym at) ∙ found.1 in
          let inside : other.index < length (roles_at t other.home) = rw (roles_all other.home within.0) within.1 in
          let later_role : get_or (roles_at t other.home) other.index Free ≡ Quarantined later = role_at_home t is other.home other.index within.1 ∙ left_role (role_of t other) later there in
          let passes : is_left_later (Quarantined move) (get_or (roles_at t other.home) other.index Free) ≡ true =
          All-get_or (λ x. is_left_later (Quarantined move) x ≡ true) (roles_at t other.home) other.index Free inside (AllPass-from_list_all (is_left_later (Quarantined move)) (roles_at t other.home) all) in
          let le : nat_le move later ≡ true = ap (is_left_later (Quarantined move)) (sym later_role) ∙ passes in
          grind (arith, nat_tests)

  left_none : (other : Frame) → IsFrame t other → oldest t other.home ≡ None → left_at t other ≡ None
  unfolding oldest left_at
  left_none other within e =
      by_eldest (eldest_upto (roles_at t other.home) (length (roles_at t other.home))).0 (eldest_upto (roles_at t other.home) (length (roles_at t other.home))).1
    where
      no_place : (o : Option ℕ) → option_map (at_home other.home) o ≡ None → o ≡ None
      no_place None e = refl
      no_place (Some i) e = absurd (none_some (sym e))

      by_eldest : (o : Option Left) → IsEldest (roles_at t other.home) (length (roles_at t other.home)) o → left_by (role_of t other) ≡ None
      by_eldest (Some left) it = absurd (none_some (sym (no_place _ e) ∙ eldest_found (roles_at t other.home) (Some left) it))
      by_eldest None it =
          ap left_by (sym (role_at_home t is other.home other.index within.1)) ∙ not_left_role (get_or (roles_at t other.home) other.index Free) (it other.index (rw (roles_all other.home within.0) within.1))

-- ------------------------------------------------------------ a move begins

module _ (t : PageTable) (page : VPage) (node : ℕ) (old new : Frame) (begins : Begins t page node old new) where
  is_t : IsPageTable t
  is_t = begins.sound

  begin_number : (i : ℕ) × (number_of t page ≡ Some i) × (i < length t.pages) × (frame_in t i ≡ old)
  begin_number = number_known t begins.sound page old begins.placed

  begin_free : IsFrame t new × (role_of t new ≡ Free) × (new.home ≡ node)
  begin_free = least_is_free t begins.sound node new begins.there begins.free

  begun_is : (i : ℕ) → number_of t page ≡ Some i → begun t page node ≡ moving_into t (Some i) (Some new)
  unfolding begun
  begun_is i n = ap₂ (λ (o : Option ℕ) (f : Option Frame). moving_into t o f) n begins.free

  by_number : {X : Type 0} (F : PageTable → X) (x : X) → ((i : ℕ) → number_of t page ≡ Some i → frame_in t i ≡ old → F (moving_into t (Some i) (Some new)) ≡ x) → F (begun t page node) ≡ x
  by_number F x is_so = ap F (begun_is begin_number.0 begin_number.1) ∙ is_so begin_number.0 begin_number.1 begin_number.3

  begin_move : move_of (begun t page node) ≡ Some (page, old, new)
  unfolding move_of
  begin_move = by_number move_of (Some (page, old, new)) (λ i n f. ap₂ (λ (p : VPage) (g : Frame). Some (p, g, new)) (page_at t begins.sound page i n) f)

  begin_size : ((begun t page node).nodes ≡ t.nodes) × ((begun t page node).frames ≡ t.frames)
  begin_size = (by_number (λ u. u.nodes) t.nodes (λ i n f. refl), by_number (λ u. u.frames) t.frames (λ i n f. refl))

  begin_frame : (other : VPage) → frame_of (begun t page node) other ≡ frame_of t other
  unfolding frame_of
  begin_frame other = by_number (λ u. frame_of u other) (frame_of t other) (λ i n f. refl)

  begin_page : (frame : Frame) → page_of (begun t page node) frame ≡ page_of t frame
  unfolding page_of
  begin_page frame =
      by_number (λ u. page_of u frame) (page_of t frame) (λ i n f.
      page_same t (moving_into t (Some i) (Some new)) refl (role_of (moving_into t (Some i) (Some new)) frame) ∙
      same_test (page_by t) t.roles (frame_number t new) (Target i) Free (number_inside t begins.sound new begin_free.0) begin_free.1 refl (frame_number t frame))

  begin_taken : is_free (begun t page node) new ≡ false
  unfolding is_free
  begin_taken = by_number (λ u. is_free u new) false (λ i n f. ap is_free_role (get_or-set_same t.roles (frame_number t new) (Target i) Free (number_inside t begins.sound new begin_free.0)))

  begin_others : (frame : Frame) → IsFrame t frame → frame ≢ new → is_free (begun t page node) frame ≡ is_free t frame
  unfolding is_free
  begin_others frame inside differ =
      by_number (λ u. is_free u frame) (is_free t frame) (λ i n f. ap is_free_role (get_or-set_other t.roles (frame_number t new) (frame_number t frame) (Target i) Free (λ same. differ (same_number t frame new inside begin_free.0 same))))

  begin_left : (frame : Frame) → left_at (begun t page node) frame ≡ left_at t frame
  unfolding left_at
  begin_left frame =
      by_number (λ u. left_at u frame) (left_at t frame) (λ i n f. same_test left_by t.roles (frame_number t new) (Target i) Free (number_inside t begins.sound new begin_free.0) begin_free.1 refl (frame_number t frame))

  begin_published : (begun t page node).published ≡ t.published
  begin_published = by_number (λ u. u.published) t.published (λ i n f. refl)

  begin_moves : (other : VPage) → moves_of (begun t page node) other ≡ moves_of t other
  unfolding moves_of
  begin_moves other = by_number (λ u. moves_of u other) (moves_of t other) (λ i n f. moves_same t (moving_into t (Some i) (Some new)) refl (number_of t other))

  begin_holders : (frame : Frame) → holders_of (begun t page node) frame ≡ holders_of t frame
  unfolding holders_of
  begin_holders frame = by_number (λ u. holders_of u frame) (holders_of t frame) (λ i n f. refl)

  begin_sound : IsPageTable (begun t page node)
  begin_sound = kept_begun t begins.sound page node begin_number.0 new begin_number.1 begins.there begins.free begins.idle

-- ------------------------------------------------------------ a move is published

move_known : (t : PageTable) (page : VPage) (old new : Frame) → move_of t ≡ Some (page, old, new) → (m : Moving) × (t.moving ≡ Some m) × (record { 0 = get_or t.pages m.number 0 } ≡ page) × (frame_in t m.number ≡ old) × (m.new ≡ new)
unfolding move_of
move_known t page old new e = by_move t.moving refl e
  where
    by_move : (o : Option Moving) → t.moving ≡ o → move_in t o ≡ Some (page, old, new) → (m : Moving) × (t.moving ≡ Some m) × (record { 0 = get_or t.pages m.number 0 } ≡ page) × (frame_in t m.number ≡ old) × (m.new ≡ new)
    by_move None o e = absurd (none_some e)
    by_move (Some m) o e = let same = same_some e in (m, o, ap (λ (x : VPage × Frame × Frame). x.0) same, ap (λ (x : VPage × Frame × Frame). x.1) same, ap (λ (x : VPage × Frame × Frame). x.2) same)

module _ (t : PageTable) (page : VPage) (old new : Frame) (moves : Moves t page old new) where
  known : (m : Moving) × (t.moving ≡ Some m) × (record { 0 = get_or t.pages m.number 0 } ≡ page) × (frame_in t m.number ≡ old) × (m.new ≡ new)
  known = move_known t page old new moves.move

  low : known.0.number < length t.pages
  low = (moves.sound.roled.moving known.0 known.1).0

  number : number_of t page ≡ Some known.0.number
  number = subst (λ (p : VPage). number_of t p ≡ Some known.0.number) known.2 (numbered t moves.sound known.0.number low)

  settle_inside : IsFrame t old × IsFrame t new × (frame_of t page ≡ Some old)
  unfolding frame_of
  settle_inside = (
    subst (λ (f : Frame). IsFrame t f) known.3 (moves.sound.roled.framed known.0.number low).0,
    subst (λ (f : Frame). IsFrame t f) known.4 (moves.sound.roled.moving known.0 known.1).1,
    ap (option_map (frame_in t)) number ∙ ap Some known.3,
  )

  by_published : {X : Type 0} (F : PageTable → X) (x : X) → F (published_move t (Some known.0)) ≡ x → F (settled t) ≡ x
  unfolding settled
  by_published F x e = ap (λ (o : Option Moving). F (published_move t o)) known.1 ∙ e

  settle_size : ((settled t).nodes ≡ t.nodes) × ((settled t).frames ≡ t.frames)
  settle_size = (by_published (λ u. u.nodes) t.nodes refl, by_published (λ u. u.frames) t.frames refl)

  settle_idle : move_of (settled t) ≡ None
  unfolding move_of
  settle_idle = by_published move_of None refl

  settle_own : frame_of (settled t) page ≡ Some new
  unfolding frame_of
  settle_own =
      by_published (λ u. frame_of u page) (Some new)
      (ap (option_map (frame_in (published_move t (Some known.0)))) number ∙ ap Some (get_or-set_same t.table known.0.number known.0.new no_frame (rw moves.sound.sized.all_frames low) ∙ known.4))

  settle_others : (other : VPage) → other ≢ page → frame_of (settled t) other ≡ frame_of t other
  unfolding frame_of
  settle_others other differ = by_published (λ u. frame_of u other) (frame_of t other) (by_other (number_of t other) refl)
    where
      by_other : (o : Option ℕ) → number_of t other ≡ o → option_map (frame_in (published_move t (Some known.0))) o ≡ option_map (frame_in t) o
      by_other None n = refl
      by_other (Some j) n =
          ap Some (get_or-set_other t.table known.0.number j known.0.new no_frame
          (λ same. differ (sym (page_at t moves.sound other j n) ∙ (ap (λ (k : ℕ). record { 0 = get_or t.pages k 0 }) same ∙ known.2))))

  settle_counted : moves_of (settled t) page ≡ moves_of t page + 1
  unfolding moves_of
  settle_counted =
      by_published (λ u. moves_of u page) (moves_of t page + 1)
      (ap (moves_in (published_move t (Some known.0))) number ∙ (get_or-set_same t.moves known.0.number (get_or t.moves known.0.number 0 + 1) 0 (rw moves.sound.sized.all_moves low) ∙ sym (ap (λ o. moves_in t o + 1) number)))

  abbrev once_left : List Role
  once_left = set t.roles (frame_number t (frame_in t known.0.number)) (Quarantined t.published)

  old_inside : frame_number t (frame_in t known.0.number) < length t.roles
  old_inside = number_inside t moves.sound (frame_in t known.0.number) (moves.sound.roled.framed known.0.number low).0

  new_inside : frame_number t known.0.new < length (set t.roles (frame_number t (frame_in t known.0.number)) (Quarantined t.published))
  new_inside = rw length-set (number_inside t moves.sound known.0.new (moves.sound.roled.moving known.0 known.1).1)

  here_old : get_or t.roles (frame_number t (frame_in t known.0.number)) Free ≡ Mapped known.0.number
  here_old = (moves.sound.roled.framed known.0.number low).1

  here_new : get_or t.roles (frame_number t known.0.new) Free ≡ Target known.0.number
  here_new = (moves.sound.roled.moving known.0 known.1).2

  here_new_left : get_or (set t.roles (frame_number t (frame_in t known.0.number)) (Quarantined t.published)) (frame_number t known.0.new) Free ≡ Target known.0.number
  here_new_left = is_elsewhere t.roles (frame_number t (frame_in t known.0.number)) (Quarantined t.published) old_inside (frame_number t known.0.new) (Target known.0.number) (Mapped known.0.number) here_old here_new target_mapped

  apart : frame_number t (frame_in t known.0.number) ≡ frame_number t known.0.new → ⊥
  apart same = mapped_target (sym here_old ∙ (ap (λ j. get_or t.roles j Free) same ∙ here_new))

  settle_left : left_at (settled t) old ≡ Some t.published
  unfolding left_at
  settle_left =
      by_published (λ u. left_at u old) (Some t.published)
      (subst (λ (f : Frame). left_at (published_move t (Some known.0)) f ≡ Some t.published) known.3
      (ap left_by (get_or-set_other once_left (frame_number t known.0.new) (frame_number t (frame_in t known.0.number)) (Mapped known.0.number) Free apart ∙ get_or-set_same t.roles (frame_number t (frame_in t known.0.number)) (Quarantined t.published) Free old_inside)))

  settle_stays : (frame : Frame) → IsFrame t frame → frame ≢ old → left_at (settled t) frame ≡ left_at t frame
  unfolding left_at
  settle_stays frame inside differ =
      by_published (λ u. left_at u frame) (left_at t frame)
      (same_test left_by once_left (frame_number t known.0.new) (Mapped known.0.number) (Target known.0.number) new_inside here_new_left refl (frame_number t frame) ∙
      ap left_by (get_or-set_other t.roles (frame_number t (frame_in t known.0.number)) (frame_number t frame) (Quarantined t.published) Free
      (λ same. differ (same_number t frame (frame_in t known.0.number) inside (moves.sound.roled.framed known.0.number low).0 same ∙ known.3))))

  settle_published : (settled t).published ≡ t.published + 1
  settle_published = by_published (λ u. u.published) (t.published + 1) refl

  settle_free : (frame : Frame) → is_free (settled t) frame ≡ is_free t frame
  unfolding is_free
  settle_free frame =
      by_published (λ u. is_free u frame) (is_free t frame)
      (same_test is_free_role once_left (frame_number t known.0.new) (Mapped known.0.number) (Target known.0.number) new_inside here_new_left refl (frame_number t frame) ∙
      same_test is_free_role t.roles (frame_number t (frame_in t known.0.number)) (Quarantined t.published) (Mapped known.0.number) old_inside here_old refl (frame_number t frame))

  settle_holders : (frame : Frame) → holders_of (settled t) frame ≡ holders_of t frame
  unfolding holders_of
  settle_holders frame = by_published (λ u. holders_of u frame) (holders_of t frame) refl

  settle_sound : moves_of t page < 2 ^ 32 - 1 → IsPageTable (settled t)
  unfolding moves_of
  settle_sound few = kept_settled t moves.sound known.0 known.1 (subst (λ (o : Option ℕ). moves_in t o < 2 ^ 32 - 1) number few)

-- ------------------------------------------------------------ a frame is reclaimed

module _ (t : PageTable) (frame : Frame) where
  reclaim_own : IsPageTable t → IsFrame t frame → is_free (reclaimed t frame) frame ≡ true
  unfolding reclaimed is_free
  reclaim_own is inside = ap is_free_role (get_or-set_same t.roles (frame_number t frame) Free Free (number_inside t is frame inside))

  reclaim_role : (other : Frame) → IsPageTable t → IsFrame t frame → IsFrame t other → other ≢ frame → get_or (set t.roles (frame_number t frame) Free) (frame_number t other) Free ≡ get_or t.roles (frame_number t other) Free
  reclaim_role other is inside within differ = get_or-set_other t.roles (frame_number t frame) (frame_number t other) Free Free (λ same. differ (same_number t other frame within inside same))

  reclaim_free : (other : Frame) → IsPageTable t → IsFrame t frame → IsFrame t other → other ≢ frame → is_free (reclaimed t frame) other ≡ is_free t other
  unfolding reclaimed is_free
  reclaim_free other is inside within differ = ap is_free_role (reclaim_role other is inside within differ)

  reclaim_gone : IsPageTable t → IsFrame t frame → left_at (reclaimed t frame) frame ≡ None
  unfolding reclaimed left_at
  reclaim_gone is inside = ap left_by (get_or-set_same t.roles (frame_number t frame) Free Free (number_inside t is frame inside))

  reclaim_left : (other : Frame) → IsPageTable t → IsFrame t frame → IsFrame t other → other ≢ frame → left_at (reclaimed t frame) other ≡ left_at t other
  unfolding reclaimed left_at
  reclaim_left other is inside within differ = ap left_by (reclaim_role other is inside within differ)

  reclaim_published : (reclaimed t frame).published ≡ t.published
  unfolding reclaimed
  reclaim_published = refl

  reclaim_size : ((reclaimed t frame).nodes ≡ t.nodes) × ((reclaimed t frame).frames ≡ t.frames)
  unfolding reclaimed
  reclaim_size = (refl, refl)

  reclaim_frame : (page : VPage) → frame_of (reclaimed t frame) page ≡ frame_of t page
  unfolding reclaimed frame_of
  reclaim_frame page = refl

  reclaim_page : (other : Frame) → IsPageTable t → IsFrame t frame → is_quarantined t frame ≡ true → page_of (reclaimed t frame) other ≡ page_of t other
  unfolding reclaimed page_of
  reclaim_page other is inside left =
      page_same t (record t { roles = set t.roles (frame_number t frame) Free }) refl (get_or (set t.roles (frame_number t frame) Free) (frame_number t other) Free) ∙
      same_test (page_by t) t.roles (frame_number t frame) Free (Quarantined (quarantine_move t frame left).0) (number_inside t is frame inside) (quarantine_move t frame left).1 refl (frame_number t other)

  reclaim_moves : (page : VPage) → moves_of (reclaimed t frame) page ≡ moves_of t page
  unfolding reclaimed moves_of
  reclaim_moves page = moves_same t (record t { roles = set t.roles (frame_number t frame) Free }) refl (number_of t page)

  reclaim_move : move_of (reclaimed t frame) ≡ move_of t
  unfolding reclaimed move_of
  reclaim_move = move_same t (record t { roles = set t.roles (frame_number t frame) Free }) refl refl t.moving

  reclaim_holders : (other : Frame) → holders_of (reclaimed t frame) other ≡ holders_of t other
  unfolding reclaimed holders_of
  reclaim_holders other = refl

  reclaim_sound : IsPageTable t → IsFrame t frame → is_quarantined t frame ≡ true → IsPageTable (reclaimed t frame)
  reclaim_sound is inside left = kept_reclaimed t is frame (quarantine_move t frame left).0 inside (quarantine_move t frame left).1

-- ------------------------------------------------------------ the start

first_places : (layout : LayoutState) (frames : ℕ) (page : VPage) → frame_of (first_table layout frames) page ≡ first_frame layout page.0
unfolding frame_of first_table
first_places layout frames page = by_number (position (nat_eq page.0) layout.pages) refl
  where
    by_number : (o : Option ℕ) → position (nat_eq page.0) layout.pages ≡ o → option_map (λ n. get_or (map (frame_at layout.nodes) (below (length layout.pages))) n no_frame) o ≡ option_map (frame_at layout.nodes) o
    by_number None e = refl
    by_number (Some i) e = ap Some (mapped_at (frame_at layout.nodes) (length layout.pages) i no_frame (position-Some (nat_eq page.0) layout.pages i 0 e).0)

first_idle : (layout : LayoutState) (frames : ℕ) → move_of (first_table layout frames) ≡ None
unfolding move_of first_table
first_idle layout frames = refl

-- ------------------------------------------------------------ the laws

pub layout_laws : LayoutSuits
layout_laws = record { suits = λ image frames room. record { shared = refl; rising = pages_rise image; room = room } }

pub first_laws : FirstIsSeen
first_laws = record { sound = first_sound; frame = first_places; idle = first_idle }

pub page_laws : PagesAreSeen
page_laws = record {
  inside = λ t page frame is e. frame_inside t is page frame e;
  page = λ t page frame is e. frame_page t is page frame e;
  frame = λ t page frame is inside e. page_frame t is page frame inside e;
  free = free_page;
  quarantined = left_page;
}

pub found_laws : FoundFrames
found_laws = record {
  least = λ t node frame is inside e. least_is t is node frame inside e;
  oldest = λ t node frame is inside e. oldest_is t is node frame inside e;
}

pub quarantine_laws : QuarantineIsSeen
quarantine_laws = record {
  quarantined = left_quarantined;
  before = λ t frame move is e. left_before t is frame move e;
  once = λ t frame other move is inside within e f. left_once t is frame other move inside within e f;
  first = λ t frame other move later is within e here there. left_first t is frame other move later within e here there;
  none = λ t other is within e. left_none t is other within e;
}

pub walk_laws : WalkIsSeen
walk_laws = record {
  frames = walk_frames;
  told = λ t page node frame is e. walk_told t is page node frame e;
  others = λ t page node frame is inside differ. walk_others t is page node frame inside differ;
  sound = λ t page node is. kept_walked t is page node;
}

drop_frames : (t : PageTable) (frame : Frame) (node : ℕ) → SameFrames t (dropped t frame node)
unfolding dropped
drop_frames t frame node = same_holders t (set t.holders (frame_number t frame) (sets.remove (holders_of t frame) node))

pub drop_laws : DropIsSeen
drop_laws = record {
  frames = drop_frames;
  own = λ t frame node is inside. drop_own t is frame node inside;
  others = λ t frame other node is inside within differ. drop_others t is frame other node inside within differ;
  sound = λ t frame node is. kept_dropped t is frame node;
}

pub begin_laws : BeginIsSeen
begin_laws = record {
  size = λ t page node old new b. begin_size t page node old new b;
  move = λ t page node old new b. begin_move t page node old new b;
  frame = λ t page other node old new b. begin_frame t page node old new b other;
  page = λ t page node old new frame b. begin_page t page node old new b frame;
  taken = λ t page node old new b. begin_taken t page node old new b;
  free = λ t page node old new frame b inside differ. begin_others t page node old new b frame inside differ;
  left = λ t page node old new frame b. begin_left t page node old new b frame;
  published = λ t page node old new b. begin_published t page node old new b;
  moves = λ t page other node old new b. begin_moves t page node old new b other;
  holders = λ t page node old new frame b. begin_holders t page node old new b frame;
  sound = λ t page node old new b. begin_sound t page node old new b;
}

pub settle_laws : SettleIsSeen
settle_laws = record {
  size = λ t page old new m. settle_size t page old new m;
  inside = λ t page old new m. settle_inside t page old new m;
  idle = λ t page old new m. settle_idle t page old new m;
  own = λ t page old new m. settle_own t page old new m;
  others = λ t page other old new m differ. settle_others t page old new m other differ;
  counted = λ t page old new m. settle_counted t page old new m;
  left = λ t page old new m. settle_left t page old new m;
  stays = λ t page old new frame m inside differ. settle_stays t page old new m frame inside differ;
  published = λ t page old new m. settle_published t page old new m;
  free = λ t page old new frame m. settle_free t page old new m frame;
  holders = λ t page old new frame m. settle_holders t page old new m frame;
  sound = λ t page old new m few. settle_sound t page old new m few;
}

pub reclaim_laws : ReclaimIsSeen
reclaim_laws = record {
  size = λ t frame. reclaim_size t frame;
  own = λ t frame is inside. reclaim_own t frame is inside;
  free = λ t frame other is inside within differ. reclaim_free t frame other is inside within differ;
  gone = λ t frame is inside. reclaim_gone t frame is inside;
  left = λ t frame other is inside within differ. reclaim_left t frame other is inside within differ;
  published = λ t frame. reclaim_published t frame;
  frame = λ t frame page. reclaim_frame t frame page;
  page = λ t frame other is inside left. reclaim_page t frame other is inside left;
  moves = λ t frame page. reclaim_moves t frame page;
  move = λ t frame. reclaim_move t frame;
  holders = λ t frame other. reclaim_holders t frame other;
  sound = λ t frame is inside left. reclaim_sound t frame is inside left;
}
