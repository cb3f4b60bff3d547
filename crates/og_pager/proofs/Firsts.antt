-- The first table of a layout is one.
use Rattle.std.proofs.Common.{◌≡◌, ℕ, ◌+◌, ◌*◌, ◌/◌, ◌%◌, ◌<◌, ◌≤◌, ◌^◌, Bool, true, false, cond, nat_lt, List, length, map, get_or, replicate, refl, sym, ◌∙◌, ap, subst, arith, inl, inr, ◌⊎◌}
use Rattle.std.specs.List.{sum_by}
use Rattle.std.proofs.Math.Nat.{mod-lt, mod-add-div', div-lt_iff_lt-mul}
use Rattle.std.proofs.lemmas.List.{get_or-map, get_or_past, get_or-replicate, length-map, length-replicate}
use Rattle.std.proofs.lemmas.List.Folds.{sum_by-replicate}
use Rattle.std.proofs.lemmas.Bool.{cases_lt}
use Rattle.std.proofs.lemmas.Bool.Decides.{nat_tests}
use Rattle.std.proofs.lemmas.Nat.{div-mul-add, mod-mul-add}
use Rattle.og_base.specs.declared.Frame.{Frame}
use Rattle.og_base.specs.Numbers.{below}
use Rattle.og_image.specs.Layout.{LayoutState, frame_at}
use Rattle.og_image.proofs.Pages.{below_length, below_at}
use Rattle.og_pager.specs.declared.Role.{Role}
use Rattle.og_pager.specs.declared.Role.TheVariants.{Free, Mapped, Target, Quarantined}
use Rattle.og_pager.specs.PageTable.{no_frame, first_role, first_table, Suits, IsPageTable}
use Rattle.og_pager.proofs.Frames.{number_below, mapped_free, same_mapped, none_some}

-- the k-th of what stands for the numbers below n
pub mapped_at : {X : Type 0} (f : ℕ → X) (n k : ℕ) (d : X) → k < n → get_or (map f (below n)) k d ≡ f k
mapped_at f n k d lt =
    get_or-map f (below n) k 0 d (rw (below_length n) lt) ∙ ap f (below_at n k lt)

pub mapped_length : {X : Type 0} (f : ℕ → X) (n : ℕ) → length (map f (below n)) ≡ n
mapped_length f n = length-map (below n) f ∙ below_length n

replicated_small : (n k z m : ℕ) → z < m → (k < n) ⊎ (n ≤ k) → get_or (replicate n z) k z < m
replicated_small n k z m small (inl lt) = rw (get_or-replicate n k z z lt) small
replicated_small n k z m small (inr past) = rw (get_or_past (replicate n z) k z (rw length-replicate past)) small

-- quotient and rest are below
div_below : (n d q : ℕ) → 0 < d → n < q * d → n / d < q
div_below n d q some lt = (div-lt_iff_lt-mul {k = d} {x = n} {y = q} some).1 lt

by_first : (b : Bool) (n : ℕ) (r : Role) → cond b (Mapped n) Free ≡ r → ((b ≡ true) × (Mapped n ≡ r)) ⊎ (Free ≡ r)
by_first true n r e = inl (refl, e)
by_first false n r e = inr e

module _ (layout : LayoutState) (frames : ℕ) (some : 1 ≤ layout.nodes) (few : layout.nodes ≤ 128) (each : 1 ≤ frames) (most : frames ≤ 1024) (suits : Suits layout layout.nodes frames) where
  nodes : ℕ
  nodes = layout.nodes

  placed : ℕ
  placed = length layout.pages

  role_at : ℕ → Role
  role_at k = first_role layout.nodes frames (length layout.pages) k

  all_roles : List Role
  all_roles = map (first_role layout.nodes frames (length layout.pages)) (below (layout.nodes * frames))

  -- a role at the start: that of a frame, or past the end
  at_start : (k : ℕ) (r : Role) → get_or (map (first_role layout.nodes frames (length layout.pages)) (below (layout.nodes * frames))) k Free ≡ r → ((k < layout.nodes * frames) × (first_role layout.nodes frames (length layout.pages) k ≡ r)) ⊎ (Free ≡ r)
  at_start k r e = elim (cases_lt k (layout.nodes * frames)) [
    | inl inside ↦ inl (inside, sym (mapped_at (first_role layout.nodes frames (length layout.pages)) (layout.nodes * frames) k Free inside) ∙ e)
    | inr past ↦ inr (sym (get_or_past (map (first_role layout.nodes frames (length layout.pages)) (below (layout.nodes * frames))) k Free (rw (mapped_length (first_role layout.nodes frames (length layout.pages)) (layout.nodes * frames)) past)) ∙ e)
  ]

  -- it is free, or has the page that stands there
  of_page : (k : ℕ) (r : Role) → first_role layout.nodes frames (length layout.pages) k ≡ r → ((nat_lt (k % frames * layout.nodes + k / frames) (length layout.pages) ≡ true) × (Mapped (k % frames * layout.nodes + k / frames) ≡ r)) ⊎ (Free ≡ r)
  of_page k r e = by_first (nat_lt (k % frames * layout.nodes + k / frames) (length layout.pages)) (k % frames * layout.nodes + k / frames) r e

  framed : (n : ℕ) → n < length layout.pages → ((n % layout.nodes < layout.nodes) × (n / layout.nodes < frames)) × (get_or (map (first_role layout.nodes frames (length layout.pages)) (below (layout.nodes * frames))) (n % layout.nodes * frames + n / layout.nodes) Free ≡ Mapped n)
  framed n lt =
      ((home, index), mapped_at (first_role layout.nodes frames (length layout.pages)) (layout.nodes * frames) (n % layout.nodes * frames + n / layout.nodes) Free (number_below (n % layout.nodes) (n / layout.nodes) layout.nodes frames home index) ∙ (rw (mod-mul-add (n % layout.nodes) frames (n / layout.nodes) index, div-mul-add (n % layout.nodes) frames (n / layout.nodes) index) (is_page (n / layout.nodes * layout.nodes + n % layout.nodes) whole)))
    where
      home : n % layout.nodes < layout.nodes
      home = mod-lt n (omega arith)

      index : n / layout.nodes < frames
      index = div_below n layout.nodes frames (omega arith) (let room : length layout.pages ≤ layout.nodes * frames = suits.room in omega arith)

      whole : n / layout.nodes * layout.nodes + n % layout.nodes ≡ n
      whole = let sum : n % layout.nodes + n / layout.nodes * layout.nodes ≡ n = mod-add-div' n layout.nodes in omega arith

      is_page : (m : ℕ) → m ≡ n → cond (nat_lt m (length layout.pages)) (Mapped m) Free ≡ Mapped n
      is_page m same = let low : nat_lt m (length layout.pages) ≡ true = grind (arith, nat_tests) in rw low (ap Mapped same)

  -- the page of a frame is placed there
  stands : (k n : ℕ) → k < layout.nodes * frames → nat_lt (k % frames * layout.nodes + k / frames) (length layout.pages) ≡ true → k % frames * layout.nodes + k / frames ≡ n → (n < length layout.pages) × (n % layout.nodes * frames + n / layout.nodes ≡ k)
  stands k n inside low same = subst (λ (m : ℕ). (m < length layout.pages) × (m % layout.nodes * frames + m / layout.nodes ≡ k)) same (grind (arith, nat_tests), rw (mod-mul-add (k % frames) layout.nodes (k / frames) home, div-mul-add (k % frames) layout.nodes (k / frames) home) whole)
    where
      home : k / frames < layout.nodes
      home = div_below k frames layout.nodes (omega arith) inside

      whole : k / frames * frames + k % frames ≡ k
      whole = let sum : k % frames + k / frames * frames ≡ k = mod-add-div' k frames in omega arith

  pub first_sound : IsPageTable (first_table layout frames)
  unfolding first_table
  first_sound = record {
    sized = record {
      some_nodes = some;
      few_nodes = few;
      few_frames = most;
      rising = suits.rising;
      all_frames = mapped_length (frame_at layout.nodes) (length layout.pages);
      all_moves = length-replicate {A = ℕ} (length layout.pages) 0;
      all_roles = mapped_length (first_role layout.nodes frames (length layout.pages)) (layout.nodes * frames);
      all_holders = length-replicate (layout.nodes * frames) _;
      few_moves = λ n. replicated_small (length layout.pages) n 0 (2 ^ 32) (omega arith) (cases_lt n (length layout.pages));
      few_pages = suits.room;
      counted = let none : sum_by (λ (moves : ℕ). moves) (replicate (length layout.pages) 0) ≡ length layout.pages * 0 = sum_by-replicate (λ (moves : ℕ). moves) (length layout.pages) 0 in omega (arith, none);
    };
    roled = record {
      framed = λ n lt. subst (λ (f : Frame). ((f.home < layout.nodes) × (f.index < frames)) × (get_or (map (first_role layout.nodes frames (length layout.pages)) (below (layout.nodes * frames))) (f.home * frames + f.index) Free ≡ Mapped n)) (sym (mapped_at (frame_at layout.nodes) (length layout.pages) n no_frame lt)) (framed n lt);
      mapped = λ k n here. mapped k n (at_start k (Mapped n) here);
      targeted = λ k n here. absurd (no_target k n (at_start k (Target n) here));
      moving = λ m e. absurd (none_some e);
      left = λ k n here. absurd (no_left k n (at_start k (Quarantined n) here));
      once = λ k other n here there. absurd (no_left k n (at_start k (Quarantined n) here));
    };
  }
    where
      mapped : (k n : ℕ) → ((k < layout.nodes * frames) × (first_role layout.nodes frames (length layout.pages) k ≡ Mapped n)) ⊎ (Free ≡ Mapped n) → (n < length layout.pages) × ((get_or (map (frame_at layout.nodes) (below (length layout.pages))) n no_frame).home * frames + (get_or (map (frame_at layout.nodes) (below (length layout.pages))) n no_frame).index ≡ k)
      mapped k n (inr e) = absurd (mapped_free (sym e))
      mapped k n (inl here) = by_page (of_page k (Mapped n) here.1)
        where
          by_page : ((nat_lt (k % frames * layout.nodes + k / frames) (length layout.pages) ≡ true) × (Mapped (k % frames * layout.nodes + k / frames) ≡ Mapped n)) ⊎ (Free ≡ Mapped n) → (n < length layout.pages) × ((get_or (map (frame_at layout.nodes) (below (length layout.pages))) n no_frame).home * frames + (get_or (map (frame_at layout.nodes) (below (length layout.pages))) n no_frame).index ≡ k)
          by_page (inr e) = absurd (mapped_free (sym e))
          by_page (inl there) =
              let at : (n < length layout.pages) × (n % layout.nodes * frames + n / layout.nodes ≡ k) = stands k n here.0 there.0 (same_mapped there.1) in
              (at.0, subst (λ (f : Frame). f.home * frames + f.index ≡ k) (sym (mapped_at (frame_at layout.nodes) (length layout.pages) n no_frame at.0)) at.1)

      no_target : (k n : ℕ) → ((k < layout.nodes * frames) × (first_role layout.nodes frames (length layout.pages) k ≡ Target n)) ⊎ (Free ≡ Target n) → ⊥
      no_target k n (inr e) = cc
      no_target k n (inl here) = elim (of_page k (Target n) here.1) [ inl there ↦ clash there.1 | inr e ↦ none e ]
        where
          clash : {j : ℕ} → Mapped j ≡ Target n → ⊥
          clash e = cc

          none : Free ≡ Target n → ⊥
          none e = cc

      no_left : (k n : ℕ) → ((k < layout.nodes * frames) × (first_role layout.nodes frames (length layout.pages) k ≡ Quarantined n)) ⊎ (Free ≡ Quarantined n) → ⊥
      no_left k n (inr e) = cc
      no_left k n (inl here) = elim (of_page k (Quarantined n) here.1) [ inl there ↦ clash there.1 | inr e ↦ none e ]
        where
          clash : {j : ℕ} → Mapped j ≡ Quarantined n → ⊥
          clash e = cc

          none : Free ≡ Quarantined n → ⊥
          none e = cc
