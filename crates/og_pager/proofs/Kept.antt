-- A page table stays one: after each change.
use Rattle.std.proofs.Common.{◌≡◌, ℕ, ◌+◌, ◌-◌, ◌*◌, ◌<◌, ◌≤◌, ◌^◌, true, Option, Some, None, List, length, get_or, drop, nat_eq, option_map, refl, sym, ◌∙◌, ap, subst, arith, inl, inr, ◌⊎◌}
use Rattle.std.proofs.Math.ListN.{set, length-set}
use Rattle.std.specs.List.{sum_by, position}
use Rattle.std.proofs.Math.Nat.{mul-le-mul}
use Rattle.std.proofs.lemmas.List.{get_or-take, get_or-drop, length-take}
use Rattle.std.proofs.lemmas.List.Elements.{All-from_get_or}
use Rattle.std.proofs.lemmas.List.Quantifiers.{position-Some}
use Rattle.std.specs.Ordering.{nat_cmp}
use Rattle.std.specs.FinSet as sets
use Rattle.std.proofs.lemmas.List.{get_or-set_same, get_or-set_other}
use Rattle.std.proofs.lemmas.List.Sums.{sum_by-set, sum_by-le}
use Rattle.std.proofs.lemmas.Bool.{cases_eq}
use Rattle.og_base.specs.declared.Frame.{Frame}
use Rattle.og_base.specs.declared.VPage.{VPage}
use Rattle.og_image.proofs.Pages.{number_of as place_in_rising}
use Rattle.og_pager.specs.declared.Role.{Role}
use Rattle.og_pager.specs.declared.Role.TheVariants.{Free, Mapped, Target, Quarantined}
use Rattle.og_pager.specs.declared.Moving.{Moving}
use Rattle.og_pager.specs.PageTable.{PageTable, IsFrame, frame_number, frame_in, role_of, roles_at, at_home, is_free_role, is_quarantined, is_quarantined_role, no_frame, number_of, frame_of, holders_of, move_in, move_of, moves_in, moves_of, walk_of, least_free, with_holder, walked, moving_into, begun, published_move, settled, dropped, reclaimed, IsPageTable}
use Rattle.og_pager.proofs.Frames.{number_below, is_elsewhere, was_elsewhere, is_here, mapped_free, target_free, left_free, mapped_target, target_mapped, mapped_left, left_mapped, target_left, left_target, same_mapped, same_target, same_left, none_some, same_some}

pub same_table : (a b : PageTable) → a ≡ b → IsPageTable b → IsPageTable a
same_table a b same is = subst IsPageTable (sym same) is

module _ (t : PageTable) (is : IsPageTable t) where
  pub number_inside : (frame : Frame) → IsFrame t frame → frame_number t frame < length t.roles
  number_inside frame f = rw is.sized.all_roles (number_below frame.home frame.index t.nodes t.frames f.0 f.1)

  -- other holders
  pub kept_holders : (k : ℕ) (s : sets.FinSet nat_cmp) → IsPageTable (record t { holders = set t.holders k s })
  kept_holders k s = record {
    sized = record {
      some_nodes = is.sized.some_nodes;
      few_nodes = is.sized.few_nodes;
      few_frames = is.sized.few_frames;
      rising = is.sized.rising;
      all_frames = is.sized.all_frames;
      all_moves = is.sized.all_moves;
      all_roles = is.sized.all_roles;
      all_holders = length-set t.holders k s ∙ is.sized.all_holders;
      few_moves = is.sized.few_moves;
      few_pages = is.sized.few_pages;
      counted = is.sized.counted;
    };
    roled = record {
      framed = is.roled.framed;
      mapped = is.roled.mapped;
      targeted = is.roled.targeted;
      moving = is.roled.moving;
      left = is.roled.left;
      once = is.roled.once;
    };
  }

  -- a move begins
  pub kept_moving : (i : ℕ) (new : Frame) → i < length t.pages → IsFrame t new → role_of t new ≡ Free → t.moving ≡ None → IsPageTable (moving_into t (Some i) (Some new))
  kept_moving i new low inside free idle = record {
    sized = record {
      some_nodes = is.sized.some_nodes;
      few_nodes = is.sized.few_nodes;
      few_frames = is.sized.few_frames;
      rising = is.sized.rising;
      all_frames = is.sized.all_frames;
      all_moves = is.sized.all_moves;
      all_roles = length-set t.roles a x ∙ is.sized.all_roles;
      all_holders = is.sized.all_holders;
      few_moves = is.sized.few_moves;
      few_pages = is.sized.few_pages;
      counted = is.sized.counted;
    };
    roled = record {
      framed = λ n lt. ((is.roled.framed n lt).0, is_elsewhere t.roles a x within (frame_number t (frame_in t n)) (Mapped n) Free free (is.roled.framed n lt).1 mapped_free);
      mapped = λ k n here. is.roled.mapped k n (was_elsewhere t.roles a x within k (Mapped n) here mapped_target);
      targeted = λ k n here. by_place k n (is_here t.roles a x within k (Target n) here);
      moving = λ m e. subst (λ (m : Moving). (m.number < length t.pages) × IsFrame t m.new × (get_or (set t.roles a x) (frame_number t m.new) Free ≡ Target m.number)) (same_some e) (low, inside, get_or-set_same t.roles a x Free within);
      left = λ k n here. is.roled.left k n (was_elsewhere t.roles a x within k (Quarantined n) here left_target);
      once = λ k other n here there. is.roled.once k other n (was_elsewhere t.roles a x within k (Quarantined n) here left_target) (was_elsewhere t.roles a x within other (Quarantined n) there left_target);
    };
  }
    where
      a : ℕ
      a = frame_number t new

      x : Role
      x = Target i

      within : frame_number t new < length t.roles
      within = number_inside new inside

      begun_move : Moving
      begun_move = record { number = i; new = new }

      by_place : (k n : ℕ) → ((k ≡ frame_number t new) × (Target i ≡ Target n)) ⊎ (get_or t.roles k Free ≡ Target n) → (moving : Moving) × (Some (record { number = i; new = new }) ≡ Some moving) × (moving.number ≡ n) × (frame_number t moving.new ≡ k)
      by_place k n (inl here) = (record { number = i; new = new }, refl, same_target here.1, sym here.0)
      by_place k n (inr old) = absurd (none_some (sym idle ∙ (is.roled.targeted k n old).1))

  -- a frame in quarantine becomes free
  pub kept_reclaimed : (frame : Frame) (move : ℕ) → IsFrame t frame → role_of t frame ≡ Quarantined move → IsPageTable (reclaimed t frame)
  unfolding reclaimed
  kept_reclaimed frame move inside left = record {
    sized = record {
      some_nodes = is.sized.some_nodes;
      few_nodes = is.sized.few_nodes;
      few_frames = is.sized.few_frames;
      rising = is.sized.rising;
      all_frames = is.sized.all_frames;
      all_moves = is.sized.all_moves;
      all_roles = length-set t.roles a Free ∙ is.sized.all_roles;
      all_holders = is.sized.all_holders;
      few_moves = is.sized.few_moves;
      few_pages = is.sized.few_pages;
      counted = is.sized.counted;
    };
    roled = record {
      framed = λ n lt. ((is.roled.framed n lt).0, is_elsewhere t.roles a Free within (frame_number t (frame_in t n)) (Mapped n) (Quarantined move) left (is.roled.framed n lt).1 mapped_left);
      mapped = λ k n here. is.roled.mapped k n (was_elsewhere t.roles a Free within k (Mapped n) here mapped_free);
      targeted = λ k n here. is.roled.targeted k n (was_elsewhere t.roles a Free within k (Target n) here target_free);
      moving = λ m e. ((is.roled.moving m e).0, (is.roled.moving m e).1, is_elsewhere t.roles a Free within (frame_number t m.new) (Target m.number) (Quarantined move) left (is.roled.moving m e).2 target_left);
      left = λ k n here. is.roled.left k n (was_elsewhere t.roles a Free within k (Quarantined n) here left_free);
      once = λ k other n here there. is.roled.once k other n (was_elsewhere t.roles a Free within k (Quarantined n) here left_free) (was_elsewhere t.roles a Free within other (Quarantined n) there left_free);
    };
  }
    where
      a : ℕ
      a = frame_number t frame

      within : frame_number t frame < length t.roles
      within = number_inside frame inside

  -- a move is published
  pub kept_published : (m : Moving) → t.moving ≡ Some m → get_or t.moves m.number 0 < 2 ^ 32 - 1 → IsPageTable (published_move t (Some m))
  kept_published m e few = record {
    sized = record {
      some_nodes = is.sized.some_nodes;
      few_nodes = is.sized.few_nodes;
      few_frames = is.sized.few_frames;
      rising = is.sized.rising;
      all_frames = length-set t.table m.number m.new ∙ is.sized.all_frames;
      all_moves = length-set t.moves m.number (get_or t.moves m.number 0 + 1) ∙ is.sized.all_moves;
      all_roles = length-set _ b (Mapped m.number) ∙ (length-set t.roles o (Quarantined t.published) ∙ is.sized.all_roles);
      all_holders = is.sized.all_holders;
      few_moves = λ n. few_after n (cases_eq n m.number);
      few_pages = is.sized.few_pages;
      counted = counted_after;
    };
    roled = record {
      framed = λ n lt. framed_after n lt (cases_eq n m.number);
      mapped = λ k n here. mapped_after k n (is_here once_left b (Mapped m.number) new_inside k (Mapped n) here);
      targeted = λ k n here. absurd (no_target k n here);
      moving = λ m e. absurd (none_some e);
      left = λ k n here. left_after k n (is_here t.roles o (Quarantined t.published) old_inside k (Quarantined n) (was_elsewhere once_left b (Mapped m.number) new_inside k (Quarantined n) here left_mapped));
      once = λ k other n here there.
          once_after k other n (is_here t.roles o (Quarantined t.published) old_inside k (Quarantined n) (was_elsewhere once_left b (Mapped m.number) new_inside k (Quarantined n) here left_mapped))
          (is_here t.roles o (Quarantined t.published) old_inside other (Quarantined n) (was_elsewhere once_left b (Mapped m.number) new_inside other (Quarantined n) there left_mapped));
    };
  }
    where
      low : m.number < length t.pages
      low = (is.roled.moving m e).0

      inside : IsFrame t m.new
      inside = (is.roled.moving m e).1

      o : ℕ
      o = frame_number t (frame_in t m.number)

      b : ℕ
      b = frame_number t m.new

      once_left : List Role
      once_left = set t.roles (frame_number t (frame_in t m.number)) (Quarantined t.published)

      old_inside : frame_number t (frame_in t m.number) < length t.roles
      old_inside = number_inside (frame_in t m.number) (is.roled.framed m.number low).0

      new_inside : frame_number t m.new < length (set t.roles (frame_number t (frame_in t m.number)) (Quarantined t.published))
      new_inside = rw length-set (number_inside m.new inside)

      here_old : get_or t.roles (frame_number t (frame_in t m.number)) Free ≡ Mapped m.number
      here_old = (is.roled.framed m.number low).1

      here_new : get_or t.roles (frame_number t m.new) Free ≡ Target m.number
      here_new = (is.roled.moving m e).2

      -- the new frame isn't the old one
      here_new_left : get_or (set t.roles (frame_number t (frame_in t m.number)) (Quarantined t.published)) (frame_number t m.new) Free ≡ Target m.number
      here_new_left = is_elsewhere t.roles o (Quarantined t.published) old_inside b (Target m.number) (Mapped m.number) here_old here_new target_mapped

      in_table : m.number < length t.table
      in_table = rw is.sized.all_frames low

      in_moves : m.number < length t.moves
      in_moves = rw is.sized.all_moves low

      few_after : (n : ℕ) → (n ≡ m.number) ⊎ (n ≡ m.number → ⊥) → get_or (set t.moves m.number (get_or t.moves m.number 0 + 1)) n 0 < 2 ^ 32
      few_after n (inl same) = rw (same, get_or-set_same t.moves m.number (get_or t.moves m.number 0 + 1) 0 in_moves) (omega arith)
      few_after n (inr other) = rw (get_or-set_other t.moves m.number n (get_or t.moves m.number 0 + 1) 0 other) (is.sized.few_moves n)

      counted_after : t.published + 1 ≡ sum_by (λ moves. moves) (set t.moves m.number (get_or t.moves m.number 0 + 1))
      counted_after =
          let more = sum_by-set (λ (moves : ℕ). moves) t.moves m.number (get_or t.moves m.number 0 + 1) 0 in_moves in omega (arith, more, is.sized.counted)

      framed_after : (n : ℕ) → n < length t.pages → (n ≡ m.number) ⊎ (n ≡ m.number → ⊥) →
          IsFrame t (get_or (set t.table m.number m.new) n no_frame) × (get_or (set once_left b (Mapped m.number)) (frame_number t (get_or (set t.table m.number m.new) n no_frame)) Free ≡ Mapped n)
      framed_after n lt (inl same) =
          subst (λ (f : Frame). IsFrame t f × (get_or (set once_left b (Mapped m.number)) (frame_number t f) Free ≡ Mapped n)) (sym (ap (λ j. get_or (set t.table m.number m.new) j no_frame) same ∙ get_or-set_same t.table m.number m.new no_frame in_table))
          (inside, get_or-set_same once_left b (Mapped m.number) Free new_inside ∙ ap Mapped (sym same))
      framed_after n lt (inr other) =
          subst (λ (f : Frame). IsFrame t f × (get_or (set once_left b (Mapped m.number)) (frame_number t f) Free ≡ Mapped n)) (sym (get_or-set_other t.table m.number n m.new no_frame other)) (
            (is.roled.framed n lt).0,
            is_elsewhere once_left b (Mapped m.number) new_inside (frame_number t (frame_in t n)) (Mapped n) (Target m.number) here_new_left
                (is_elsewhere t.roles o (Quarantined t.published) old_inside (frame_number t (frame_in t n)) (Mapped n) (Mapped m.number) here_old (is.roled.framed n lt).1 (λ same. other (same_mapped same)))
                mapped_target,
          )

      mapped_after : (k n : ℕ) → ((k ≡ b) × (Mapped m.number ≡ Mapped n)) ⊎ (get_or once_left k Free ≡ Mapped n) → (n < length t.pages) × (frame_number t (get_or (set t.table m.number m.new) n no_frame) ≡ k)
      mapped_after k n (inl here) =
          subst (λ (j : ℕ). (j < length t.pages) × (frame_number t (get_or (set t.table m.number m.new) j no_frame) ≡ k)) (same_mapped here.1)
          (low, ap (λ f. frame_number t f) (get_or-set_same t.table m.number m.new no_frame in_table) ∙ sym here.0)
      mapped_after k n (inr there) = elsewhere (was_elsewhere t.roles o (Quarantined t.published) old_inside k (Mapped n) there mapped_left)
        where
          elsewhere : get_or t.roles k Free ≡ Mapped n → (n < length t.pages) × (frame_number t (get_or (set t.table m.number m.new) n no_frame) ≡ k)
          elsewhere before =
              ((is.roled.mapped k n before).0, ap (λ f. frame_number t f) (get_or-set_other t.table m.number n m.new no_frame differ) ∙ (is.roled.mapped k n before).1)
            where
              differ : n ≡ m.number → ⊥
              differ same =
                  let old : k ≡ o = sym (is.roled.mapped k n before).1 ∙ ap (λ j. frame_number t (frame_in t j)) same in
                  mapped_left (sym there ∙ ap (λ j. get_or once_left j Free) old ∙ get_or-set_same t.roles o (Quarantined t.published) Free old_inside)

      no_target : (k n : ℕ) → get_or (set once_left b (Mapped m.number)) k Free ≡ Target n → ⊥
      no_target k n here = elsewhere (was_elsewhere t.roles o (Quarantined t.published) old_inside k (Target n) (was_elsewhere once_left b (Mapped m.number) new_inside k (Target n) here target_mapped) target_left)
        where
          elsewhere : get_or t.roles k Free ≡ Target n → ⊥
          elsewhere before = by_move (is.roled.targeted k n before)
            where
              by_move : (moving : Moving) × (t.moving ≡ Some moving) × (moving.number ≡ n) × (frame_number t moving.new ≡ k) → ⊥
              by_move found =
                  let alike : m ≡ found.0 = same_some (sym e ∙ found.1) in
                  let new : k ≡ b = sym found.3 ∙ ap (λ (x : Moving). frame_number t x.new) (sym alike) in
                  target_mapped (sym here ∙ ap (λ j. get_or (set once_left b (Mapped m.number)) j Free) new ∙ get_or-set_same once_left b (Mapped m.number) Free new_inside)

      left_after : (k n : ℕ) → ((k ≡ o) × (Quarantined t.published ≡ Quarantined n)) ⊎ (get_or t.roles k Free ≡ Quarantined n) → n < t.published + 1
      left_after k n (inl here) = let same : t.published ≡ n = same_left here.1 in omega arith
      left_after k n (inr before) = let less : n < t.published = is.roled.left k n before in omega arith

      once_after : (k other n : ℕ) → ((k ≡ o) × (Quarantined t.published ≡ Quarantined n)) ⊎ (get_or t.roles k Free ≡ Quarantined n) → ((other ≡ o) × (Quarantined t.published ≡ Quarantined n)) ⊎ (get_or t.roles other Free ≡ Quarantined n) → k ≡ other
      once_after k other n (inl here) (inl there) = here.0 ∙ sym there.0
      once_after k other n (inl here) (inr before) =
          let same : t.published ≡ n = same_left here.1 in let less : n < t.published = is.roled.left other n before in absurd (omega arith)
      once_after k other n (inr before) (inl there) =
          let same : t.published ≡ n = same_left there.1 in let less : n < t.published = is.roled.left k n before in absurd (omega arith)
      once_after k other n (inr before) (inr again) = is.roled.once k other n before again

module _ (t : PageTable) (is : IsPageTable t) where
  pub kept_holder : (node : ℕ) (o : Option Frame) → IsPageTable (with_holder t node o)
  kept_holder node None = is
  kept_holder node (Some frame) = kept_holders t is (frame_number t frame) (sets.insert (holders_of t frame) node)

  pub kept_walked : (page : VPage) (node : ℕ) → IsPageTable (walked t page node)
  unfolding walked
  kept_walked page node = kept_holder node (walk_of t page)

  pub kept_dropped : (frame : Frame) (node : ℕ) → IsPageTable (dropped t frame node)
  unfolding dropped
  kept_dropped frame node = kept_holders t is (frame_number t frame) (sets.remove (holders_of t frame) node)

  -- a placed page has a number, and a page with a number that number
  pub number_low : (page : VPage) (i : ℕ) → number_of t page ≡ Some i → i < length t.pages
  number_low page i e = (position-Some (nat_eq page.0) t.pages i 0 e).0

  pub numbered : (i : ℕ) → i < length t.pages → number_of t (record { 0 = get_or t.pages i 0 }) ≡ Some i
  numbered i low = place_in_rising t.pages (get_or t.pages i 0) i is.sized.rising low refl

  pub frame_inside : (page : VPage) (frame : Frame) → frame_of t page ≡ Some frame → IsFrame t frame
  unfolding frame_of
  frame_inside page frame e = by_number (number_of t page) refl e
    where
      by_number : (o : Option ℕ) → number_of t page ≡ o → option_map (frame_in t) o ≡ Some frame → IsFrame t frame
      by_number None n e = absurd (none_some e)
      by_number (Some i) n e = subst (λ (f : Frame). IsFrame t f) (same_some e) (is.roled.framed i (number_low page i n)).0

  -- what stands among the roles of a node
  pub role_at_home : (node i : ℕ) → i < t.frames → get_or (roles_at t node) i Free ≡ get_or t.roles (node * t.frames + i) Free
  role_at_home node i low = get_or-take t.frames (drop (node * t.frames) t.roles) i Free low ∙ get_or-drop (node * t.frames) t.roles i Free

  pub roles_few : (node : ℕ) → length (roles_at t node) ≤ t.frames
  roles_few node = rw length-take (omega arith)

  free_role : (r : Role) → is_free_role r ≡ true → r ≡ Free
  free_role Free e = refl
  free_role (Mapped n) e = absurd (cc)
  free_role (Target n) e = absurd (cc)
  free_role (Quarantined n) e = absurd (cc)

  pub least_is_free : (node : ℕ) (new : Frame) → node < t.nodes → least_free t node ≡ Some new → IsFrame t new × (role_of t new ≡ Free) × (new.home ≡ node)
  unfolding least_free
  least_is_free node new inside e = by_place (position is_free_role (roles_at t node)) refl e
    where
      by_place : (o : Option ℕ) → position is_free_role (roles_at t node) ≡ o → option_map (at_home node) o ≡ Some new → IsFrame t new × (role_of t new ≡ Free) × (new.home ≡ node)
      by_place None p e = absurd (none_some e)
      by_place (Some i) p e =
          let found = position-Some is_free_role (roles_at t node) i Free p in
          let low : i < t.frames = omega (arith, found.0, roles_few node) in
          subst (λ (f : Frame). IsFrame t f × (role_of t f ≡ Free) × (f.home ≡ node)) (same_some e) ((inside, low), sym (role_at_home node i low) ∙ free_role (get_or (roles_at t node) i Free) found.1, refl)

  no_move : (o : Option Moving) → move_in t o ≡ None → o ≡ None
  no_move None e = refl
  no_move (Some m) e = absurd (none_some (sym e))

  pub kept_begun : (page : VPage) (node i : ℕ) (new : Frame) → number_of t page ≡ Some i → node < t.nodes → least_free t node ≡ Some new → move_of t ≡ None → IsPageTable (begun t page node)
  unfolding begun move_of
  kept_begun page node i new number inside least idle =
      let free : IsFrame t new × (role_of t new ≡ Free) × (new.home ≡ node) = least_is_free node new inside least in
      subst (λ (o : Option ℕ). IsPageTable (moving_into t o (least_free t node))) (sym number)
      (subst (λ (o : Option Frame). IsPageTable (moving_into t (Some i) o)) (sym least) (kept_moving t is i new (number_low page i number) free.0 free.1 (no_move t.moving idle)))

  pub kept_settled : (m : Moving) → t.moving ≡ Some m → get_or t.moves m.number 0 < 2 ^ 32 - 1 → IsPageTable (settled t)
  unfolding settled
  kept_settled m e few = subst (λ (o : Option Moving). IsPageTable (published_move t o)) (sym e) (kept_published t is m e few)

  -- there are never so many moves that their number doesn't fit
  pub few_published : t.published < 2 ^ 63
  few_published =
      let all : sum_by (λ (moves : ℕ). moves) t.moves ≤ length t.moves * 2 ^ 32 = sum_by-le (λ (moves : ℕ). moves) (2 ^ 32) t.moves (All-from_get_or (λ (x : ℕ). x ≤ 2 ^ 32) t.moves 0 (λ k lt. let few : get_or t.moves k 0 < 2 ^ 32 = is.sized.few_moves k in omega arith)) in
      let most : t.nodes * t.frames ≤ 128 * 1024 = mul-le-mul is.sized.few_nodes is.sized.few_frames in
      omega (arith, all, most, is.sized.counted, is.sized.few_pages, is.sized.all_moves)

  pub few_moved : ((page : VPage) (old new : Frame) → move_of t ≡ Some (page, old, new) → moves_of t page < 2 ^ 32 - 1) → (m : Moving) → t.moving ≡ Some m → get_or t.moves m.number 0 < 2 ^ 32 - 1
  unfolding move_of moves_of
  few_moved few m e =
      subst (λ (o : Option ℕ). moves_in t o < 2 ^ 32 - 1) (numbered m.number (is.roled.moving m e).0) (few (record { 0 = get_or t.pages m.number 0 }) (frame_in t m.number) m.new (ap (λ (o : Option Moving). move_in t o) e))

pub quarantine_move : (t : PageTable) (frame : Frame) → is_quarantined t frame ≡ true → (move : ℕ) × (role_of t frame ≡ Quarantined move)
unfolding is_quarantined
quarantine_move t frame e = by_role (role_of t frame) e
  where
    by_role : (r : Role) → is_quarantined_role r ≡ true → (move : ℕ) × (r ≡ Quarantined move)
    by_role Free e = absurd (cc)
    by_role (Mapped n) e = absurd (cc)
    by_role (Target n) e = absurd (cc)
    by_role (Quarantined n) e = (n, refl)
