-- The search for the frame that was left first.
use Rattle.std.proofs.Common.{◌≡◌, ℕ, ◌+◌, ◌<◌, ◌≤◌, Bool, true, false, nat_le, ◌&&◌, Option, Some, None, List, length, get_or, refl, sym, ◌∙◌, ap, arith, inl, inr, ◌⊎◌, option_map}
use Rattle.std.specs.List.{list_all, position}
use Rattle.std.specs.Prelude.{IfSome}
use Rattle.std.proofs.lemmas.List.Quantifiers.{position-Some}
use Rattle.std.proofs.lemmas.List.Folds.{list_all_at}
use Rattle.std.proofs.lemmas.List.Sums.{list_all-from_AllPass}
use Rattle.std.proofs.lemmas.List.Elements.{All-from_get_or}
use Rattle.std.proofs.lemmas.Bool.{cases_eq, cases_Bool}
use Rattle.std.proofs.lemmas.Bool.Decides.{nat_tests}
use Rattle.og_base.proofs.First.{position-is, position-absent}
use Rattle.og_pager.specs.declared.Left.{Left}
use Rattle.og_pager.specs.declared.Role.{Role}
use Rattle.og_pager.specs.declared.Role.TheVariants.{Free, Mapped, Target, Quarantined}
use Rattle.og_pager.specs.PageTable.{is_quarantined_role, is_left_later, is_left_first}
use Rattle.og_pager.specs.Oldest.{older_of}

-- what is known of the place that was left first among those seen
abbrev pub IsEldest : List Role → ℕ → Option Left → Type 0
IsEldest roles seen None = (k : ℕ) → k < seen → is_quarantined_role (get_or roles k Free) ≡ false
IsEldest roles seen (Some left) =
    (left.place < seen) × (get_or roles left.place Free ≡ Quarantined left.moved) × ((k moved : ℕ) → k < seen → get_or roles k Free ≡ Quarantined moved → left.moved ≤ moved) × ((k moved : ℕ) → k < left.place → get_or roles k Free ≡ Quarantined moved → left.moved < moved)

same_left : {n m : ℕ} → Quarantined n ≡ Quarantined m → n ≡ m
same_left e = cc

no_left : (r : Role) (m : ℕ) → is_quarantined_role r ≡ false → r ≡ Quarantined m → ⊥
no_left r m other_role e = clash (sym (ap is_quarantined_role e) ∙ other_role)
  where
    clash : true ≡ false → ⊥
    clash e = cc

module _ (roles : List Role) (i : ℕ) where
  here_at : (k : ℕ) (r : Role) → k ≡ i → get_or roles i Free ≡ r → get_or roles k Free ≡ r
  here_at k r same e = ap (λ j. get_or roles j Free) same ∙ e

  not_left : (r : Role) → get_or roles i Free ≡ r → is_quarantined_role r ≡ false → (oldest : Option Left) → IsEldest roles i oldest → IsEldest roles (i + 1) oldest
  not_left r e other_role None it = λ k lt. by_place k lt (cases_eq k i)
    where
      by_place : (k : ℕ) → k < i + 1 → (k ≡ i) ⊎ (k ≡ i → ⊥) → is_quarantined_role (get_or roles k Free) ≡ false
      by_place k lt (inl same) = ap is_quarantined_role (here_at k r same e) ∙ other_role
      by_place k lt (inr other) = it k (omega arith)
  not_left r e other_role (Some left) it = (omega arith, it.1, λ k moved lt here. by_place k moved lt here (cases_eq k i), it.3)
    where
      by_place : (k moved : ℕ) → k < i + 1 → get_or roles k Free ≡ Quarantined moved → (k ≡ i) ⊎ (k ≡ i → ⊥) → left.moved ≤ moved
      by_place k moved lt here (inl same) = absurd (no_left r moved other_role (sym (here_at k r same e) ∙ here))
      by_place k moved lt here (inr other) = it.2 k moved (omega arith) here

  is_left : (m : ℕ) → get_or roles i Free ≡ Quarantined m → (oldest : Option Left) → IsEldest roles i oldest → IsEldest roles (i + 1) (older_of oldest i (Quarantined m))
  is_left m e None it = (omega arith, e, λ k moved lt here. by_place k moved lt here (cases_eq k i), λ k moved lt here. absurd (no_left (get_or roles k Free) moved (it k lt) here))
    where
      by_place : (k moved : ℕ) → k < i + 1 → get_or roles k Free ≡ Quarantined moved → (k ≡ i) ⊎ (k ≡ i → ⊥) → m ≤ moved
      by_place k moved lt here (inl same) =
          let alike : m ≡ moved = same_left (sym (here_at k (Quarantined m) same e) ∙ here) in omega arith
      by_place k moved lt here (inr other) = absurd (no_left (get_or roles k Free) moved (it k (omega arith)) here)
  is_left m e (Some left) it = by_test (cases_Bool (nat_le left.moved m))
    where
      known : (k moved : ℕ) → k < i + 1 → get_or roles k Free ≡ Quarantined moved → (k ≡ i) ⊎ (k ≡ i → ⊥) → (m ≡ moved) ⊎ (left.moved ≤ moved)
      known k moved lt here (inl same) = inl (same_left (sym (here_at k (Quarantined m) same e) ∙ here))
      known k moved lt here (inr other) = inr (it.2 k moved (omega arith) here)

      stays : left.moved ≤ m → (k moved : ℕ) → (m ≡ moved) ⊎ (left.moved ≤ moved) → left.moved ≤ moved
      stays le k moved (inl same) = omega arith
      stays le k moved (inr known) = known

      goes : m < left.moved → (k moved : ℕ) → (m ≡ moved) ⊎ (left.moved ≤ moved) → m ≤ moved
      goes lt k moved (inl same) = omega arith
      goes lt k moved (inr known) = omega arith

      by_test : (nat_le left.moved m ≡ true) ⊎ (nat_le left.moved m ≡ false) → IsEldest roles (i + 1) (older_of (Some left) i (Quarantined m))
      by_test (inl first) =
          let le : left.moved ≤ m = grind (arith, nat_tests) in
          rw first (omega (arith, it.0), it.1, λ k moved lt here. stays le k moved (known k moved lt here (cases_eq k i)), it.3)
      by_test (inr later) =
          let less : m < left.moved = grind (arith, nat_tests) in
          rw later (omega arith, e, λ k moved lt here. goes less k moved (known k moved lt here (cases_eq k i)), λ k moved lt here. let known : left.moved ≤ moved = it.2 k moved lt here in omega arith)

  pub eldest_more : (r : Role) → get_or roles i Free ≡ r → (oldest : Option Left) → IsEldest roles i oldest → IsEldest roles (i + 1) (older_of oldest i r)
  eldest_more Free e oldest it = not_left Free e refl oldest it
  eldest_more (Mapped n) e oldest it = not_left (Mapped n) e refl oldest it
  eldest_more (Target n) e oldest it = not_left (Target n) e refl oldest it
  eldest_more (Quarantined m) e oldest it = is_left m e oldest it

module _ (roles : List Role) where
  pub eldest_found : (oldest : Option Left) → IsEldest roles (length roles) oldest → position (is_left_first roles) roles ≡ option_map (λ left. left.place) oldest
  eldest_found None it = position-absent (is_left_first roles) roles Free (λ k lt. ap (λ b. b && list_all (is_left_later (get_or roles k Free)) roles) (it k lt))
  eldest_found (Some left) it = position-is (is_left_first roles) roles left.place Free it.0 (ap (is_left_first roles) it.1 ∙ all_later) (λ k lt. earlier k lt (get_or roles k Free) refl)
    where
      later : (k : ℕ) → k < length roles → (r : Role) → get_or roles k Free ≡ r → is_left_later (Quarantined left.moved) r ≡ true
      later k lt Free e = refl
      later k lt (Mapped n) e = refl
      later k lt (Target n) e = refl
      later k lt (Quarantined m) e = let le : left.moved ≤ m = it.2 k m lt e in grind (arith, nat_tests)

      all_later : list_all (is_left_later (Quarantined left.moved)) roles ≡ true
      all_later = list_all-from_AllPass (is_left_later (Quarantined left.moved)) roles (All-from_get_or (λ x. is_left_later (Quarantined left.moved) x ≡ true) roles Free (λ k lt. later k lt (get_or roles k Free) refl))

      earlier : (k : ℕ) → k < left.place → (r : Role) → get_or roles k Free ≡ r → is_left_first roles r ≡ false
      earlier k lt Free e = refl
      earlier k lt (Mapped n) e = refl
      earlier k lt (Target n) e = refl
      earlier k lt (Quarantined m) e = list_all_at (is_left_later (Quarantined m)) roles left.place Free it.0 (ap (is_left_later (Quarantined m)) it.1 ∙ earlier_than)
        where
          earlier_than : nat_le m left.moved ≡ false
          earlier_than = let less : left.moved < m = it.3 k m lt e in grind (arith, nat_tests)

pub position_inside : {X : Type 0} (p : X → Bool) (xs : List X) (d : X) (o : Option ℕ) → o ≡ position p xs → IfSome o (λ i. i < length xs)
position_inside p xs d None e = tt
position_inside p xs d (Some i) e = (position-Some p xs i d (sym e)).0
