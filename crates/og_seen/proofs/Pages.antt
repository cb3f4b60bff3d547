-- Placed pages have their numbers, each its own; and each page that a hart needs is placed.
use Rattle.std.proofs.Common.{◌≡◌, ◌≢◌, ◌∙◌, ℕ, ◌<◌, ◌/◌, nat_eq, arith, refl, sym, ap, subst, Option, None, Some, slice_get, get_or, length, unwrap_or}
use Rattle.std.specs.List.{position}
use Rattle.std.proofs.lemmas.Bool.Decides.{nat_tests}
use Rattle.std.proofs.lemmas.List.Quantifiers.{position-Some}
use Rattle.std.proofs.lemmas.Option.{slice_get_within, get_or_from_slice_get, slice_get-get_or}
use Rattle.og_base.specs.declared.VPage.{VPage}
use Rattle.og_line.specs.declared.Access.{Access}
use Rattle.og_line.specs.Access.{addr_of}
use Rattle.og_image.specs.Image.{ImageState}
use Rattle.og_image.specs.Layout.{pages_of}
use Rattle.og_image.proofs.Pages.{number_of}
use Rattle.og_image.proofs.Placed.{placed_page}
use Rattle.rv_hart.specs.declared.hart.Need.TheVariants as need
use Rattle.rv_hart.specs.Hart.{need_of}
use Rattle.rv_hart.proofs.HartFacts.{need_mapped}
use Rattle.og_processor.specs.State.{ProcessorState}
use Rattle.og_processor.specs.Access.{page_of}
use Rattle.og_seen.specs.Numbers.{Sizes, page_number}
use Rattle.og_seen.specs.Tlbs.{IsNumbered, PagesDiffer}
use Rattle.og_seen.specs.Sound.{AreSizes, IsPlaced, IsProcessorOf}

-- the number of a page that has a place
pub number_is : (s : Sizes) (page : VPage) (y : ℕ) → position (nat_eq page.0) s.pages ≡ Some y → page_number s page ≡ y
number_is s page y e = ap (λ (o : Option ℕ). unwrap_or o (length s.pages)) e

-- a placed page has a place
pub placed_at : (s : Sizes) (page : VPage) → IsPlaced s page → position (nat_eq page.0) s.pages ≡ Some (page_number s page)
placed_at s page lt = by (position (nat_eq page.0) s.pages) refl
  where
    by : (o : Option ℕ) → position (nat_eq page.0) s.pages ≡ o → position (nat_eq page.0) s.pages ≡ Some (page_number s page)
    by None e = absurd (let n : page_number s page ≡ length s.pages = ap (λ (o : Option ℕ). unwrap_or o (length s.pages)) e in omega arith)
    by (Some y) e = e ∙ ap Some (sym (number_is s page y e))

-- and its number
pub is_numbered : (s : Sizes) (page : VPage) → IsPlaced s page → IsNumbered s page (page_number s page)
is_numbered s page lt =
    let at = position-Some (nat_eq page.0) s.pages (page_number s page) 0 (placed_at s page lt) in
    let same : get_or s.pages (page_number s page) 0 ≡ page.0 = (let t = at.1 in grind (arith, nat_tests)) in
    slice_get-get_or s.pages (page_number s page) 0 at.0 ∙ ap Some same

-- two placed pages with one number are one
pub one_page : (s : Sizes) (a b : VPage) → IsPlaced s a → IsPlaced s b → page_number s a ≡ page_number s b → a ≡ b
one_page s a b there too e =
    let x : slice_get s.pages (page_number s b) ≡ Some a.0 = subst (λ (y : ℕ). slice_get s.pages y ≡ Some a.0) e (is_numbered s a there) in
    let y : slice_get s.pages (page_number s b) ≡ Some b.0 = is_numbered s b too in
    let same : a.0 ≡ b.0 = cc in
    ap (λ (n : ℕ). record { 0 = n }) same

-- each placed page has one number
pub pages_differ : (s : Sizes) → AreSizes s → PagesDiffer s
pages_differ s sizes y z page here there =
    let a = number_of s.pages page y sizes.rising (slice_get_within s.pages y page here) (get_or_from_slice_get s.pages y page 0 here) in
    let b = number_of s.pages page z sizes.rising (slice_get_within s.pages z page there) (get_or_from_slice_get s.pages z page 0 there) in
    let same : Some y ≡ Some z = sym a ∙ b in
    cc

-- the page of an access that a hart needs
pub needed_placed : (image : ImageState) (s : Sizes) (x : ProcessorState) (access : Access) → IsProcessorOf image s x → need_of image x.hart ≡ need.Access access → IsPlaced s (page_of (addr_of access))
needed_placed image s x access is needs =
    let there : position (nat_eq (addr_of access / 4096)) (pages_of image) ≢ None = placed_page image (addr_of access / 4096) is.loadable (need_mapped image x.hart access needs) in
    by (position (nat_eq (addr_of access / 4096)) s.pages) refl (λ e. there (ap (position (nat_eq (addr_of access / 4096))) (sym is.pages) ∙ e))
  where
    by : (o : Option ℕ) → position (nat_eq (addr_of access / 4096)) s.pages ≡ o → (position (nat_eq (addr_of access / 4096)) s.pages ≡ None → ⊥) → IsPlaced s (page_of (addr_of access))
    by None e none = absurd (none e)
    by (Some y) e none =
        let n : page_number s (page_of (addr_of access)) ≡ y = number_is s (page_of (addr_of access)) y e in
        let lt : y < length s.pages = (position-Some (nat_eq (addr_of access / 4096)) s.pages y 0 e).0 in
        subst (λ (k : ℕ). k < length s.pages) (sym n) lt
