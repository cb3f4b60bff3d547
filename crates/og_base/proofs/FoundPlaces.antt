-- What a look-up finds in a row of places, after one of them has changed.
use Rattle.std.proofs.Common.{◌≡◌, ℕ, ◌<◌, Bool, true, false, Option, Some, None, List, length, get_or, refl, sym, ◌∙◌, ap, arith, inl, inr, subst, ◌⊎◌}
use Rattle.std.proofs.Math.ListN.{set, length-set}
use Rattle.std.proofs.lemmas.List.{get_or-set_same, get_or-set_other, get_or_past}
use Rattle.std.proofs.lemmas.List.Quantifiers.{position-Some}
use Rattle.std.proofs.lemmas.Bool.{false≢true, cases_eq, cases_lt}
use Rattle.std.specs.List.{position}
use Rattle.og_base.specs.Places.{held_by, found_in, PassesOnce}
use Rattle.og_base.proofs.First.{position-is, position-absent, position-set, position-none}

pub not_true : (test : Bool) → (test ≡ true → ⊥) → test ≡ false
not_true true h = absurd (h refl)
not_true false h = refl

module _ {A : Type 0} (passes : Option A → Bool) (places : List (Option A)) (nothing_fails : passes None ≡ false) where
  -- a place that doesn't pass changes to one that doesn't
  pub found-set_other : (k : ℕ) (held : Option A) → passes (get_or places k None) ≡ false → passes held ≡ false → found_in (set places k held) passes ≡ found_in places passes
  found-set_other k held before after =
      rw (position-set passes places k held None (after ∙ sym before)) (by_place (position passes places) refl)
    where
      by_place : (place : Option ℕ) → position passes places ≡ place → held_by (set places k held) place ≡ held_by places place
      by_place None e = refl
      by_place (Some i) e =
          get_or-set_other places k i held None (λ same. false≢true (sym before ∙ ap (λ n. passes (get_or places n None)) (sym same) ∙ (position-Some passes places i None e).1))

  -- a place changes to the first one that passes
  pub found-set_first : (k : ℕ) (held : Option A) → k < length places → passes held ≡ true → ((j : ℕ) → j < k → passes (get_or places j None) ≡ false) → found_in (set places k held) passes ≡ held
  found-set_first k held inside here before =
      let there : passes (get_or (set places k held) k None) ≡ true = rw (get_or-set_same places k held None inside) here in
      let nowhere : (j : ℕ) → j < k → passes (get_or (set places k held) j None) ≡ false = λ j h. rw (get_or-set_other places k j held None (λ e. absurd (omega arith))) (before j h) in
      let first : position passes (set places k held) ≡ Some k = position-is passes (set places k held) k None (rw length-set inside) there nowhere in
      rw first (get_or-set_same places k held None inside)

  -- where no place passes nothing is found
  pub found-nowhere : ((j : ℕ) → j < length places → passes (get_or places j None) ≡ false) → found_in places passes ≡ None
  found-nowhere none = rw (position-absent passes places None none)

  -- where nothing is found no place passes
  pub found-None : found_in places passes ≡ None → position passes places ≡ None
  found-None h = by_place (position passes places) refl h
    where
      none_fails : (held : Option A) → held ≡ None → passes held ≡ false
      none_fails None e = nothing_fails
      none_fails (Some copy) e = absurd (cc)

      by_place : (place : Option ℕ) → position passes places ≡ place → held_by places place ≡ None → place ≡ None
      by_place None e h = refl
      by_place (Some i) e h = absurd (false≢true (sym (none_fails _ h) ∙ (position-Some passes places i None e).1))

  -- the one place that passes is what is found
  pub found-at : (k : ℕ) → k < length places → passes (get_or places k None) ≡ true → PassesOnce places passes → found_in places passes ≡ get_or places k None
  found-at k inside here once = rw (position-is passes places k None inside here (λ j h. not_true (passes (get_or places j None)) (λ there. absurd (omega (arith, once j k there here)))))

  -- the one place that passes is emptied
  pub found-emptied : (k : ℕ) → passes (get_or places k None) ≡ true → PassesOnce places passes → found_in (set places k None) passes ≡ None
  found-emptied k here once = nowhere (set places k None) (λ j inside. at_place j (rw length-set at inside) (cases_eq j k))
    where
      nowhere : (left : List (Option A)) → ((j : ℕ) → j < length left → passes (get_or left j None) ≡ false) → found_in left passes ≡ None
      nowhere left none = rw (position-absent passes left None none)

      at_place : (j : ℕ) → j < length places → (j ≡ k) ⊎ (j ≡ k → ⊥) → passes (get_or (set places k None) j None) ≡ false
      at_place j inside (inl same) = rw (same, get_or-set_same places k None None (subst (λ n. n < length places) same inside)) nothing_fails
      at_place j inside (inr other) = rw (get_or-set_other places k j None None other) (not_true _ (λ there. other (once j k there here)))

  -- where no place passes none does, also past the end
  pub fails_everywhere : (j : ℕ) → position passes places ≡ None → passes (get_or places j None) ≡ false
  fails_everywhere j e =
      elim (cases_lt j (length places)) [ inl inside ↦ position-none passes places j None e inside | inr past ↦ rw (get_or_past places j None past) nothing_fails ]

  -- a place changes to what no other place passes as
  pub once-set : (k : ℕ) (held : Option A) → k < length places → (passes held ≡ true → (j : ℕ) → passes (get_or places j None) ≡ true → j ≡ k) → PassesOnce places passes → PassesOnce (set places k held) passes
  once-set k held inside alone once first second there again = by_places (before_set first there) (before_set second again)
    where
      before_set : (j : ℕ) → passes (get_or (set places k held) j None) ≡ true → ((j ≡ k) × (passes held ≡ true)) ⊎ (passes (get_or places j None) ≡ true)
      before_set j h = by_place (cases_eq j k)
        where
          by_place : (j ≡ k) ⊎ (j ≡ k → ⊥) → ((j ≡ k) × (passes held ≡ true)) ⊎ (passes (get_or places j None) ≡ true)
          by_place (inl same) = inl (same, sym (ap passes (ap (λ n. get_or (set places k held) n None) same ∙ get_or-set_same places k held None inside)) ∙ h)
          by_place (inr other) = inr (sym (ap passes (get_or-set_other places k j held None other)) ∙ h)

      by_places : ((first ≡ k) × (passes held ≡ true)) ⊎ (passes (get_or places first None) ≡ true) → ((second ≡ k) × (passes held ≡ true)) ⊎ (passes (get_or places second None) ≡ true) → first ≡ second
      by_places (inl a) (inl b) = a.0 ∙ sym b.0
      by_places (inl a) (inr b) = a.0 ∙ sym (alone a.1 second b)
      by_places (inr a) (inl b) = alone b.1 first a ∙ sym b.0
      by_places (inr a) (inr b) = once first second a b
