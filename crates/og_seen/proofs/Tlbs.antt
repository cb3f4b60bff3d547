-- A change of a TLB is seen as that of one entry, or two.
use Rattle.std.proofs.Common.{◌≡◌, ◌≢◌, ℕ, Bool, true, false, cond, nat_eq, arith, inl, inr, refl, sym, ap, ◌∙◌, Option, None, Some, slice_get}
use Rattle.std.proofs.lemmas.Bool.{cases_Bool}
use Rattle.std.proofs.lemmas.Bool.Decides.{nat_tests}
use Rattle.og_base.specs.declared.Frame.{Frame}
use Rattle.og_base.specs.declared.VPage.{VPage}
use Rattle.og_pages.specs.State.{put, NoEntry, To}
use Rattle.og_pages.specs.Rows.{points_to}
use Rattle.og_tlb.specs.declared.Translation.{Translation}
use Rattle.og_tlb.specs.Tlb.{Translations, IsTlb, look_of, empty_tlb, filled, overwritten, without_page, without_frame}
use Rattle.og_tlb.proofs.Seen.{new_laws, fill_laws, page_drop_laws, frame_drop_laws}
use Rattle.og_seen.specs.Numbers.{Sizes, is_there, frame_number, frame_at}
use Rattle.og_seen.specs.Tlbs.{entry_seen, page_seen, tlb_seen, IsNumbered, PagesDiffer, NamesFrames}
use Rattle.og_seen.proofs.Numbers.{at_number}

same_functions : {A : Type 0} → (f g : ℕ → A) → ((a : ℕ) → f a ≡ g a) → f ≡ g
same_functions f g h = λ i. λ a. h a i

same_some : {A : Type 0} → (a b : A) → Some a ≡ Some b → a ≡ b
same_some a b e = cc

-- what is seen of a page with a number
pub numbered : (s : Sizes) (tlb : Translations) (page : VPage) (y : ℕ) → IsNumbered s page y → tlb_seen s tlb y ≡ entry_seen s (look_of tlb page)
numbered s tlb page y n = ap (page_seen s tlb) n

-- of a page with another number another page is meant
other_page : (s : Sizes) (page : VPage) (y z a : ℕ) → PagesDiffer s → IsNumbered s page y → slice_get s.pages z ≡ Some a → nat_eq z y ≡ false → record { 0 = a } ≢ page
other_page s page y z a differ n e ne same = absurd (let b : a ≡ page.0 = ap (λ (p : VPage). p.0) same in let c : slice_get s.pages z ≡ Some page.0 = e ∙ ap Some b in let d : z ≡ y = differ z y page.0 c n in grind (arith, nat_tests))

pub new_seen : (s : Sizes) (entries y : ℕ) → tlb_seen s (empty_tlb entries) y ≡ NoEntry
new_seen s entries y = by (slice_get s.pages y)
  where
    by : (o : Option ℕ) → page_seen s (empty_tlb entries) o ≡ NoEntry
    by None = refl
    by (Some a) = ap (entry_seen s) (new_laws.nothing entries (record { 0 = a }))

pub own_seen : (s : Sizes) (tlb : Translations) (page : VPage) (frame : Frame) (y : ℕ) → IsNumbered s page y → look_of tlb page ≡ Some frame → tlb_seen s tlb y ≡ To (frame_number s frame)
own_seen s tlb page frame y n e = numbered s tlb page y n ∙ ap (entry_seen s) e

pub absent_seen : (s : Sizes) (tlb : Translations) (page : VPage) (y : ℕ) → IsNumbered s page y → look_of tlb page ≡ None → tlb_seen s tlb y ≡ NoEntry
absent_seen s tlb page y n e = numbered s tlb page y n ∙ ap (entry_seen s) e

pub fill_seen : (s : Sizes) (tlb : Translations) (page : VPage) (frame : Frame) (y : ℕ) → PagesDiffer s → IsTlb tlb → IsNumbered s page y → ((old : Translation) → overwritten tlb page ≡ Some old → old.page ≡ page) →
    tlb_seen s (filled tlb page frame) ≡ put (tlb_seen s tlb) y (To (frame_number s frame))
fill_seen s tlb page frame y differ is n over = same_functions (tlb_seen s (filled tlb page frame)) (put (tlb_seen s tlb) y (To (frame_number s frame))) (λ z. by z (nat_eq z y) refl)
  where
    by : (z : ℕ) (t : Bool) → nat_eq z y ≡ t → tlb_seen s (filled tlb page frame) z ≡ cond t (To (frame_number s frame)) (tlb_seen s tlb z)
    by z true e = let same : z ≡ y = grind (arith, nat_tests) in ap (tlb_seen s (filled tlb page frame)) same ∙ own_seen s (filled tlb page frame) page frame y n (fill_laws.own tlb page frame is)
    by z false e = of (slice_get s.pages z) refl
      where
        of : (o : Option ℕ) → slice_get s.pages z ≡ o → page_seen s (filled tlb page frame) o ≡ page_seen s tlb o
        of None g = refl
        of (Some a) g = let ne = other_page s page y z a differ n g e in ap (entry_seen s) (fill_laws.others tlb page (record { 0 = a }) frame is ne (λ old ov same. ne (sym same ∙ over old ov)))

pub fill_over_seen : (s : Sizes) (tlb : Translations) (page : VPage) (frame : Frame) (y z : ℕ) (old : Translation) → PagesDiffer s → IsTlb tlb → IsNumbered s page y → overwritten tlb page ≡ Some old → old.page ≢ page → IsNumbered s old.page z →
    tlb_seen s (filled tlb page frame) ≡ put (put (tlb_seen s tlb) z NoEntry) y (To (frame_number s frame))
fill_over_seen s tlb page frame y z old differ is n over other nz = same_functions (tlb_seen s (filled tlb page frame)) (put (put (tlb_seen s tlb) z NoEntry) y (To (frame_number s frame))) (λ x. by x (nat_eq x y) refl (nat_eq x z) refl)
  where
    by : (x : ℕ) (t : Bool) → nat_eq x y ≡ t → (u : Bool) → nat_eq x z ≡ u → tlb_seen s (filled tlb page frame) x ≡ cond t (To (frame_number s frame)) (cond u NoEntry (tlb_seen s tlb x))
    by x true e u d = let same : x ≡ y = grind (arith, nat_tests) in ap (tlb_seen s (filled tlb page frame)) same ∙ own_seen s (filled tlb page frame) page frame y n (fill_laws.own tlb page frame is)
    by x false e true d = let same : x ≡ z = grind (arith, nat_tests) in ap (tlb_seen s (filled tlb page frame)) same ∙ absent_seen s (filled tlb page frame) old.page z nz (fill_laws.forgets tlb page frame old is over other)
    by x false e false d = of (slice_get s.pages x) refl
      where
        of : (o : Option ℕ) → slice_get s.pages x ≡ o → page_seen s (filled tlb page frame) o ≡ page_seen s tlb o
        of None g = refl
        of (Some a) g =
            let ne = other_page s page y x a differ n g e in
            let no = other_page s old.page z x a differ nz g d in
            ap (entry_seen s) (fill_laws.others tlb page (record { 0 = a }) frame is ne (λ old2 ov same. no (sym same ∙ ap (λ (t : Translation). t.page) (same_some old2 old (sym ov ∙ over)))))

pub drop_page_seen : (s : Sizes) (tlb : Translations) (page : VPage) (y : ℕ) → PagesDiffer s → IsTlb tlb → IsNumbered s page y → tlb_seen s (without_page tlb page) ≡ put (tlb_seen s tlb) y NoEntry
drop_page_seen s tlb page y differ is n = same_functions (tlb_seen s (without_page tlb page)) (put (tlb_seen s tlb) y NoEntry) (λ z. by z (nat_eq z y) refl)
  where
    by : (z : ℕ) (t : Bool) → nat_eq z y ≡ t → tlb_seen s (without_page tlb page) z ≡ cond t NoEntry (tlb_seen s tlb z)
    by z true e = let same : z ≡ y = grind (arith, nat_tests) in ap (tlb_seen s (without_page tlb page)) same ∙ absent_seen s (without_page tlb page) page y n (page_drop_laws.own tlb page is)
    by z false e = of (slice_get s.pages z) refl
      where
        of : (o : Option ℕ) → slice_get s.pages z ≡ o → page_seen s (without_page tlb page) o ≡ page_seen s tlb o
        of None g = refl
        of (Some a) g = ap (entry_seen s) (page_drop_laws.others tlb page (record { 0 = a }) is (other_page s page y z a differ n g e))

pub drop_frame_seen : (s : Sizes) (tlb : Translations) (frame : Frame) (y : ℕ) → IsTlb tlb → NamesFrames s tlb → is_there s frame ≡ true →
    tlb_seen s (without_frame tlb frame) y ≡ cond (points_to (frame_number s frame) (tlb_seen s tlb y)) NoEntry (tlb_seen s tlb y)
drop_frame_seen s tlb frame y is names there = of (slice_get s.pages y)
  where
    of : (o : Option ℕ) → page_seen s (without_frame tlb frame) o ≡ cond (points_to (frame_number s frame) (page_seen s tlb o)) NoEntry (page_seen s tlb o)
    of None = refl
    of (Some a) = at (look_of tlb page) refl
      where
        page : VPage
        page = record { 0 = a }

        at : (o : Option Frame) → look_of tlb page ≡ o → entry_seen s (look_of (without_frame tlb frame) page) ≡ cond (points_to (frame_number s frame) (entry_seen s (look_of tlb page))) NoEntry (entry_seen s (look_of tlb page))
        at None e =
            let ne : look_of tlb page ≢ Some frame = λ x. absurd (cc) in
            let o : look_of (without_frame tlb frame) page ≡ None = frame_drop_laws.others tlb frame page is ne ∙ e in
            ap (entry_seen s) o ∙ sym (ap (λ u. cond (points_to (frame_number s frame) (entry_seen s u)) NoEntry (entry_seen s u)) e)
        at (Some g) e = elim (cases_Bool (nat_eq (frame_number s frame) (frame_number s g))) [
          | inl t ↦ (let n : frame_number s frame ≡ frame_number s g = grind (arith, nat_tests) in
              let same : g ≡ frame = sym (at_number s g (names page g e)) ∙ ap (frame_at s) (sym n) ∙ at_number s frame there in
              let o : look_of (without_frame tlb frame) page ≡ None = frame_drop_laws.own tlb frame page is (e ∙ ap Some same) in
              ap (entry_seen s) o ∙ sym (ap (λ u. cond (points_to (frame_number s frame) (entry_seen s u)) NoEntry (entry_seen s u)) e ∙ ap (λ b. cond b NoEntry (To (frame_number s g))) t))
          | inr t ↦ (let ne : look_of tlb page ≢ Some frame = (λ x. absurd (let q : g ≡ frame = same_some g frame (sym e ∙ x) in let r : frame_number s g ≡ frame_number s frame = ap (frame_number s) q in grind (arith, nat_tests))) in
              let o : look_of (without_frame tlb frame) page ≡ Some g = frame_drop_laws.others tlb frame page is ne ∙ e in
              ap (entry_seen s) o ∙ sym (ap (λ u. cond (points_to (frame_number s frame) (entry_seen s u)) NoEntry (entry_seen s u)) e ∙ ap (λ b. cond b NoEntry (To (frame_number s g))) t))
        ]
