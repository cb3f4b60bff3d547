-- The laws on look-ups, from what is found in the slots.
use Rattle.std.proofs.Common.{◌≡◌, ◌≢◌, ℕ, ◌≤◌, Bool, true, false, Option, Some, None, get_or, replicate, refl, sym, ◌∙◌, ap, subst, arith, inl, inr, ◌⊎◌, option_map}
use Rattle.std.proofs.lemmas.List.{get_or-replicate, get_or_past, length-replicate}
use Rattle.std.proofs.lemmas.List.Quantifiers.{position-Some}
use Rattle.std.proofs.lemmas.Bool.{false≢true, cases_lt}
use Rattle.og_base.specs.declared.Frame.{Frame}
use Rattle.og_base.specs.declared.VPage.{VPage}
use Rattle.og_base.specs.Names.{is_same_frame}
use Rattle.og_base.specs.Places.{held_by, found_in}
use Rattle.og_base.proofs.First.{position-absent}
use Rattle.og_base.proofs.FoundPlaces.{not_true}
use Rattle.og_base.proofs.SameNames.{is_same_page-self, same_page, is_same_frame-self, same_frame}
use Rattle.og_tlb.specs.declared.Translation.{Translation}
use Rattle.og_tlb.specs.Tlb.{Translations, IsTlb, is_for, is_to, look_of, empty_tlb, slot_of, place_for, filled, overwritten, emptied, without_page, without_frame}
use Rattle.og_tlb.specs.Laws.{NewIsEmpty, FillIsSeen, PageDropIsSeen, FrameDropIsSeen}
use Rattle.og_tlb.proofs.Emptied.{emptied-none, emptied-kept, emptied-gone}
use Rattle.og_tlb.proofs.Fills.{other_page, found-filled, found-filled_other, found-overwritten, kept-filled, kept-without_page, kept-without_frame}

abbrev frame_in : Option Translation → Option Frame
frame_in slot = option_map (λ translation. translation.frame) slot

found-at : (t : Translations) (page : VPage) (place : Option ℕ) → slot_of t page ≡ place → found_in t.slots (is_for page) ≡ held_by t.slots place
found-at t page place e = ap (held_by t.slots) e

module _ (t : Translations) (sound : IsTlb t) where
  fill_own : (page : VPage) (frame : Frame) → look_of (filled t page frame) page ≡ Some frame
  unfolding look_of filled
  fill_own page frame = ap (option_map (λ translation. translation.frame)) (found-filled t sound page frame)

  fill_forgets : (page : VPage) (frame : Frame) (old : Translation) → overwritten t page ≡ Some old → old.page ≢ page → look_of (filled t page frame) old.page ≡ None
  unfolding look_of filled overwritten
  fill_forgets page frame old e differ = ap (option_map (λ translation. translation.frame)) (found-overwritten t sound page frame old.page differ (ap (is_for old.page) e ∙ is_same_page-self old.page))

  fill_others : (page other : VPage) (frame : Frame) → other ≢ page → ((old : Translation) → overwritten t page ≡ Some old → old.page ≢ other) → look_of (filled t page frame) other ≡ look_of t other
  unfolding look_of filled overwritten
  fill_others page other frame differ stays = ap (option_map (λ translation. translation.frame)) (found-filled_other t sound page frame other differ (by_slot (get_or t.slots (place_for t page) None) refl))
    where
      by_slot : (slot : Option Translation) → get_or t.slots (place_for t page) None ≡ slot → is_for other slot ≡ false
      by_slot None e = refl
      by_slot (Some old) e = not_true _ (λ there. stays old e (same_page old.page other there))

  page_own : (page : VPage) → look_of (without_page t page) page ≡ None
  unfolding look_of without_page
  page_own page = ap (option_map (λ translation. translation.frame)) (by_place (slot_of t page) refl)
    where
      by_place : (place : Option ℕ) → slot_of t page ≡ place → found_in (emptied (is_for page) t.slots) (is_for page) ≡ None
      by_place None e = emptied-none (is_for page) (is_for page) t.slots refl e
      by_place (Some i) e = emptied-gone (is_for page) (is_for page) t.slots refl i e (position-Some (is_for page) t.slots i None e).1 (sound.once page)

  page_others : (page other : VPage) → other ≢ page → look_of (without_page t page) other ≡ look_of t other
  unfolding look_of without_page
  page_others page other differ = ap (option_map (λ translation. translation.frame)) (by_place (slot_of t other) refl)
    where
      by_place : (place : Option ℕ) → slot_of t other ≡ place → found_in (emptied (is_for page) t.slots) (is_for other) ≡ found_in t.slots (is_for other)
      by_place None e = emptied-none (is_for other) (is_for page) t.slots refl e ∙ sym (found-at t other None e)
      by_place (Some i) e = emptied-kept (is_for other) (is_for page) t.slots refl i e (other_page other page _ (λ same. differ (sym same)) (position-Some (is_for other) t.slots i None e).1) ∙ sym (found-at t other (Some i) e)

  frame_own : (frame : Frame) (page : VPage) → look_of t page ≡ Some frame → look_of (without_frame t frame) page ≡ None
  unfolding look_of without_frame
  frame_own frame page there = ap (option_map (λ translation. translation.frame)) (by_place (slot_of t page) refl there)
    where
      leads : (slot : Option Translation) → option_map (λ translation. translation.frame) slot ≡ Some frame → is_to frame slot ≡ true
      leads None h = absurd (cc)
      leads (Some old) h = subst (λ f. is_same_frame f frame ≡ true) (sym (same_some old.frame h)) (is_same_frame-self frame)
        where
          same_some : (f : Frame) → Some f ≡ Some frame → f ≡ frame
          same_some f e = cc

      by_place : (place : Option ℕ) → slot_of t page ≡ place → option_map (λ translation. translation.frame) (held_by t.slots place) ≡ Some frame → found_in (emptied (is_to frame) t.slots) (is_for page) ≡ None
      by_place None e h = absurd (cc)
      by_place (Some i) e h = emptied-gone (is_for page) (is_to frame) t.slots refl i e (leads (get_or t.slots i None) h) (sound.once page)

  frame_others : (frame : Frame) (page : VPage) → look_of t page ≢ Some frame → look_of (without_frame t frame) page ≡ look_of t page
  unfolding look_of without_frame
  frame_others frame page differ = ap (option_map (λ translation. translation.frame)) (by_place (slot_of t page) refl)
    where
      leads : (slot : Option Translation) → is_to frame slot ≡ true → option_map (λ translation. translation.frame) slot ≡ Some frame
      leads None h = absurd (false≢true h)
      leads (Some old) h = ap Some (same_frame old.frame frame h)

      by_place : (place : Option ℕ) → slot_of t page ≡ place → found_in (emptied (is_to frame) t.slots) (is_for page) ≡ found_in t.slots (is_for page)
      by_place None e = emptied-none (is_for page) (is_to frame) t.slots refl e ∙ sym (found-at t page None e)
      by_place (Some i) e = emptied-kept (is_for page) (is_to frame) t.slots refl i e (not_true _ (λ there. differ (ap (option_map (λ translation. translation.frame)) (found-at t page (Some i) e) ∙ leads (get_or t.slots i None) there))) ∙ sym (found-at t page (Some i) e)

same_frame_test : (a b : Frame) → (a ≡ b) ⊎ (a ≢ b)
same_frame_test a b = by_test (is_same_frame a b) refl
  where
    by_test : (test : Bool) → is_same_frame a b ≡ test → (a ≡ b) ⊎ (a ≢ b)
    by_test true e = inl (same_frame a b e)
    by_test false e = inr (λ same. false≢true (sym e ∙ subst (λ f. is_same_frame a f ≡ true) same (is_same_frame-self a)))

-- a new TLB
abbrev nothing : Option Translation
nothing = None

all_empty : (n j : ℕ) (passes : Option Translation → Bool) → passes nothing ≡ false → passes (get_or (replicate n nothing) j nothing) ≡ false
all_empty n j passes e = elim (cases_lt j n) [ inl inside ↦ rw (get_or-replicate n j nothing nothing inside) e | inr past ↦ rw (get_or_past (replicate n nothing) j nothing (rw length-replicate past)) e ]

new_nothing : (entries : ℕ) (page : VPage) → look_of (empty_tlb entries) page ≡ None
unfolding look_of empty_tlb
new_nothing entries page = ap (λ place. frame_in (held_by (replicate entries nothing) place)) (position-absent (is_for page) (replicate entries nothing) nothing (λ j h. all_empty entries j (is_for page) refl))

pub new_sound : (entries : ℕ) → 1 ≤ entries → IsTlb (empty_tlb entries)
unfolding empty_tlb
new_sound entries some = record {
  has_slots = rw length-replicate some;
  next_is_slot = rw length-replicate (omega arith);
  once = λ page first second there again. absurd (false≢true (sym (all_empty entries first (is_for page) refl) ∙ there));
}

none_left : (t : Translations) (frame : Frame) (page : VPage) → IsTlb t → look_of (without_frame t frame) page ≢ Some frame
none_left t frame page sound there = by_look (look_of t page) refl
  where
    by_look : (found : Option Frame) → look_of t page ≡ found → ⊥
    by_look None e = no_some (sym (frame_others t sound frame page (λ h. no_some (sym e ∙ h)) ∙ e) ∙ there)
      where
        no_some : {f : Frame} → None ≡ Some f → ⊥
        no_some h = cc
    by_look (Some f) e = by_test (same_frame_test f frame)
      where
        by_test : (f ≡ frame) ⊎ (f ≢ frame) → ⊥
        by_test (inl same) = gone (sym (frame_own t sound frame page (e ∙ ap Some same)) ∙ there)
          where
            gone : None ≡ Some frame → ⊥
            gone h = cc
        by_test (inr differ) = differ (same_some (sym e ∙ (sym (frame_others t sound frame page (λ h. differ (same_some (sym e ∙ h)))) ∙ there)))
          where
            same_some : Some f ≡ Some frame → f ≡ frame
            same_some h = cc

-- the laws
pub new_laws : NewIsEmpty
new_laws = record { sound = new_sound; nothing = new_nothing }

pub fill_laws : FillIsSeen
fill_laws = record {
  own = λ t page frame sound. fill_own t sound page frame;
  forgets = λ t page frame old sound. fill_forgets t sound page frame old;
  others = λ t page other frame sound. fill_others t sound page other frame;
  sound = λ t page frame sound. kept-filled t sound page frame;
}

pub page_drop_laws : PageDropIsSeen
page_drop_laws = record {
  own = λ t page sound. page_own t sound page;
  others = λ t page other sound. page_others t sound page other;
  sound = λ t page sound. kept-without_page t sound page;
}

pub frame_drop_laws : FrameDropIsSeen
frame_drop_laws = record {
  own = λ t frame page sound. frame_own t sound frame page;
  others = λ t frame page sound. frame_others t sound frame page;
  none = λ t frame page sound. none_left t frame page sound;
  sound = λ t frame sound. kept-without_frame t sound frame;
}
