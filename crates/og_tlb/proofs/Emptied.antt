-- What a look-up finds after some slots were emptied.
use Rattle.std.proofs.Common.{◌≡◌, ℕ, ◌<◌, ◌≤◌, Bool, true, false, cond, Option, Some, None, List, [], ◌∷◌, length, get_or, take, drop, ◌++◌, ◌+◌, refl, sym, ◌∙◌, ap, arith, inl, inr, ◌⊎◌}
use Rattle.std.proofs.Math.ListN.{set}
use Rattle.std.proofs.lemmas.List.{length-map, get_or-map, get_or_past, drop_more, set_at, map_more, append_assoc, length-take-le, get_or_at}
use Rattle.std.proofs.lemmas.List.Quantifiers.{position-Some}
use Rattle.std.proofs.lemmas.Bool.{false≢true, cases_lt}
use Rattle.std.specs.List.{position}
use Rattle.og_base.specs.Places.{found_in, PassesOnce}
use Rattle.og_base.proofs.First.{position-is, position-absent}
use Rattle.og_base.proofs.FoundPlaces.{not_true, fails_everywhere}
use Rattle.og_tlb.specs.declared.Translation.{Translation}
use Rattle.og_tlb.specs.Tlb.{emptied}

abbrev nothing : Option Translation
nothing = None

-- one more slot
pub emptied_more : (goes : Option Translation → Bool) (slots : List (Option Translation)) (i : ℕ) (d : Option Translation) → i < length slots → set (emptied goes (take i slots) ++ drop i slots) i (cond (goes (get_or slots i d)) None (get_or slots i d)) ≡ emptied goes (take (i + 1) slots) ++ drop (i + 1) slots
emptied_more goes slots i d inside =
    rw (drop_more slots i d inside, set_at (emptied goes (take i slots)) (get_or slots i d) (drop (i + 1) slots) _ i (simp length-map (length-take-le i slots (omega arith))), map_more (λ slot. cond (goes slot) None slot) slots i d inside) (sym (append_assoc (emptied goes (take i slots)) (cond (goes (get_or slots i d)) None (get_or slots i d) ∷ []) (drop (i + 1) slots)))

pub emptied_step : (goes : Option Translation → Bool) (slots now : List (Option Translation)) (i : ℕ) (d new : Option Translation) → i < length slots → now ≡ emptied goes (take i slots) ++ drop i slots → new ≡ cond (goes (get_or now i d)) None (get_or now i d) → set now i new ≡ emptied goes (take (i + 1) slots) ++ drop (i + 1) slots
emptied_step goes slots now i d new inside so_far e =
    let read : get_or now i d ≡ get_or slots i d = rw (so_far, drop_more slots i d inside) (get_or_at (emptied goes (take i slots)) (get_or slots i d) (drop (i + 1) slots) d i (simp length-map (length-take-le i slots (omega arith)))) in
    rw (e, read, so_far) (emptied_more goes slots i d inside)

module _ (passes goes : Option Translation → Bool) (slots : List (Option Translation)) (nothing_fails : passes None ≡ false) where
  left : Option Translation → Option Translation
  left slot = cond (goes slot) None slot

  -- each slot afterwards
  emptied-at : (j : ℕ) → get_or (emptied goes slots) j None ≡ cond (goes (get_or slots j None)) None (get_or slots j None)
  emptied-at j = by_place (cases_lt j (length slots))
    where
      stays_none : (test : Bool) → nothing ≡ cond test nothing nothing
      stays_none true = refl
      stays_none false = refl

      by_place : (j < length slots) ⊎ (length slots ≤ j) → get_or (emptied goes slots) j None ≡ cond (goes (get_or slots j None)) None (get_or slots j None)
      by_place (inl inside) = get_or-map (λ slot. cond (goes slot) None slot) slots j None None inside
      by_place (inr past) = rw (get_or_past (emptied goes slots) j None (rw length-map past), get_or_past slots j None past) (stays_none (goes None))

  -- what passes afterwards passed before, and stayed
  passed_before : (slot : Option Translation) (test : Bool) → passes (cond test None slot) ≡ true → (passes slot ≡ true) × (test ≡ false)
  passed_before slot true h = absurd (false≢true (sym nothing_fails ∙ h))
  passed_before slot false h = (h, refl)

  passed_at : (j : ℕ) → passes (get_or (emptied goes slots) j None) ≡ true → (passes (get_or slots j None) ≡ true) × (goes (get_or slots j None) ≡ false)
  passed_at j h = passed_before (get_or slots j None) (goes (get_or slots j None)) (sym (ap passes (emptied-at j)) ∙ h)

  fails_at : (j : ℕ) → passes (get_or slots j None) ≡ false → passes (get_or (emptied goes slots) j None) ≡ false
  fails_at j h = not_true _ (λ there. false≢true (sym h ∙ (passed_at j there).0))

  -- where nothing was found nothing is
  pub emptied-none : position passes slots ≡ None → found_in (emptied goes slots) passes ≡ None
  emptied-none e = rw (position-absent passes (emptied goes slots) None (λ j h. fails_at j (fails_everywhere passes slots nothing_fails j e)))

  -- what was found and stays is found
  pub emptied-kept : (i : ℕ) → position passes slots ≡ Some i → goes (get_or slots i None) ≡ false → found_in (emptied goes slots) passes ≡ get_or slots i None
  emptied-kept i e stays =
      let there = position-Some passes slots i None e in
      let same : get_or (emptied goes slots) i None ≡ get_or slots i None = emptied-at i ∙ ap (λ test. cond test None (get_or slots i None)) stays in
      let first : position passes (emptied goes slots) ≡ Some i = position-is passes (emptied goes slots) i None (rw length-map there.0) (ap passes same ∙ there.1) (λ j h. fails_at j (there.2 j h)) in
      rw first same

  -- what was found and goes isn't found, where no other slot passes
  pub emptied-gone : (i : ℕ) → position passes slots ≡ Some i → goes (get_or slots i None) ≡ true → PassesOnce slots passes → found_in (emptied goes slots) passes ≡ None
  emptied-gone i e goes_it once =
      let there = position-Some passes slots i None e in
      rw (position-absent passes (emptied goes slots) None (λ j h. not_true _ (λ passed. false≢true (sym (passed_at j passed).1 ∙ (ap (λ n. goes (get_or slots n None)) (once j i (passed_at j passed).0 there.1) ∙ goes_it)))))

  pub emptied-once : PassesOnce slots passes → PassesOnce (emptied goes slots) passes
  emptied-once once first second there again = once first second (passed_at first there).0 (passed_at second again).0
