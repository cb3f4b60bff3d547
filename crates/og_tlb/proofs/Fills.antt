-- What a fill leaves, and that each change leaves a TLB.
use Rattle.std.proofs.Common.{◌≡◌, ◌≢◌, ℕ, ◌<◌, ◌+◌, ◌%◌, ◌||◌, Bool, true, false, cond, Option, Some, None, length, get_or, refl, sym, ◌∙◌, ap, subst, arith, inl, inr, ◌⊎◌, is_some, is_none, unwrap_or}
use Rattle.std.proofs.Math.ListN.{set, length-set}
use Rattle.std.proofs.lemmas.List.{length-map, get_or-set_same, get_or-set_other}
use Rattle.std.proofs.lemmas.List.Quantifiers.{position-Some}
use Rattle.std.proofs.lemmas.Bool.{false≢true, cases_eq}
use Rattle.og_base.specs.declared.Frame.{Frame}
use Rattle.og_base.specs.declared.VPage.{VPage}
use Rattle.og_base.specs.Places.{found_in}
use Rattle.og_base.proofs.First.{position-absent}
use Rattle.og_base.proofs.FoundPlaces.{not_true, fails_everywhere, found-set_first, found-set_other, once-set}
use Rattle.og_base.proofs.SameNames.{is_same_page-self, same_page}
use Rattle.og_tlb.specs.declared.Translation.{Translation}
use Rattle.og_tlb.specs.Tlb.{Translations, IsTlb, is_for, is_to, slot_of, empty_slot_of, place_for, next_after, filled, emptied, without_page, without_frame}
use Rattle.og_tlb.proofs.Emptied.{emptied-once}

-- a slot that has a page has no other
pub other_page : (page other : VPage) (slot : Option Translation) → other ≢ page → is_for page slot ≡ true → is_for other slot ≡ false
other_page page other None differ here = refl
other_page page other (Some translation) differ here = not_true _ (λ there. differ (sym (same_page translation.page other there) ∙ same_page translation.page page here))

module _ (t : Translations) (sound : IsTlb t) (page : VPage) where
  -- the slot that a fill writes is one
  pub place_below : place_for t page < length t.slots
  place_below = by_places (slot_of t page) (empty_slot_of t) refl refl
    where
      by_places : (there empty : Option ℕ) → slot_of t page ≡ there → empty_slot_of t ≡ empty → unwrap_or there (unwrap_or empty t.next) < length t.slots
      by_places (Some i) empty e f = (position-Some (is_for page) t.slots i None e).0
      by_places None (Some i) e f = (position-Some is_none t.slots i None f).0
      by_places None None e f = sound.next_is_slot

  -- another slot that has the page is none
  pub only_place : (j : ℕ) → is_for page (get_or t.slots j None) ≡ true → j ≡ place_for t page
  only_place j there = by_place (slot_of t page) refl
    where
      by_place : (found : Option ℕ) → slot_of t page ≡ found → j ≡ unwrap_or found (unwrap_or (empty_slot_of t) t.next)
      by_place None e = absurd (false≢true (sym (fails_everywhere (is_for page) t.slots refl j e) ∙ there))
      by_place (Some i) e = sound.once page j i there (position-Some (is_for page) t.slots i None e).1

  pub next_below : next_after t page < length t.slots
  next_below = by_test (is_some (slot_of t page) || is_some (empty_slot_of t))
    where
      by_test : (test : Bool) → cond test t.next ((t.next + 1) % length t.slots) < length t.slots
      by_test true = sound.next_is_slot
      by_test false = omega (arith, sound.has_slots)

  pub found-filled : (frame : Frame) → found_in (set t.slots (place_for t page) (Some (record { page = page; frame = frame }))) (is_for page) ≡ Some (record { page = page; frame = frame })
  found-filled frame = found-set_first (is_for page) t.slots refl (place_for t page) _ place_below (is_same_page-self page) (λ j h. not_true _ (λ there. absurd (omega (arith, only_place j there))))

  pub found-filled_other : (frame : Frame) (other : VPage) → other ≢ page → is_for other (get_or t.slots (place_for t page) None) ≡ false → found_in (set t.slots (place_for t page) (Some (record { page = page; frame = frame }))) (is_for other) ≡ found_in t.slots (is_for other)
  found-filled_other frame other differ before =
      found-set_other (is_for other) t.slots refl (place_for t page) _ before (other_page page other (Some (record { page = page; frame = frame })) differ (is_same_page-self page))

  -- the page that is written over
  pub found-overwritten : (frame : Frame) (other : VPage) → other ≢ page → is_for other (get_or t.slots (place_for t page) None) ≡ true → found_in (set t.slots (place_for t page) (Some (record { page = page; frame = frame }))) (is_for other) ≡ None
  found-overwritten frame other differ before =
      rw (position-absent (is_for other) (set t.slots (place_for t page) new) None (λ j h. at_place j (cases_eq j (place_for t page))))
    where
      new : Option Translation
      new = Some (record { page = page; frame = frame })

      at_place : (j : ℕ) → (j ≡ place_for t page) ⊎ (j ≡ place_for t page → ⊥) → is_for other (get_or (set t.slots (place_for t page) new) j None) ≡ false
      at_place j (inl same) = ap (is_for other) (ap (λ n. get_or (set t.slots (place_for t page) new) n None) same ∙ get_or-set_same t.slots (place_for t page) new None place_below) ∙ other_page page other new differ (is_same_page-self page)
      at_place j (inr apart) = ap (is_for other) (get_or-set_other t.slots (place_for t page) j new None apart) ∙ not_true _ (λ there. apart (sound.once other j (place_for t page) there before))

  pub kept-filled : (frame : Frame) → IsTlb (filled t page frame)
  unfolding filled
  kept-filled frame = record {
    has_slots = rw length-set sound.has_slots;
    next_is_slot = rw length-set next_below;
    once = λ other. once-set (is_for other) t.slots refl (place_for t page) _ place_below (λ here j there. only_place j (subst (λ p. is_for p (get_or t.slots j None) ≡ true) (sym (same_page page other here)) there)) (sound.once other);
  }

module _ (t : Translations) (sound : IsTlb t) where
  emptied_sound : (goes : Option Translation → Bool) → IsTlb (record t { slots = emptied goes t.slots })
  emptied_sound goes = record {
    has_slots = rw length-map sound.has_slots;
    next_is_slot = rw length-map sound.next_is_slot;
    once = λ page. emptied-once (is_for page) goes t.slots refl (sound.once page);
  }

  pub kept-without_page : (page : VPage) → IsTlb (without_page t page)
  unfolding without_page
  kept-without_page page = emptied_sound (is_for page)

  pub kept-without_frame : (frame : Frame) → IsTlb (without_frame t frame)
  unfolding without_frame
  kept-without_frame frame = emptied_sound (is_to frame)

pub same_tlb : (a b : Translations) → a ≡ b → IsTlb b → IsTlb a
same_tlb a b same sound = subst IsTlb (sym same) sound
