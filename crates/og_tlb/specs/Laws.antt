-- What a look-up answers after each call that changes a TLB: for the page of the call, and for every other page.
use Rattle.std.specs.Prelude.{◌≡◌, ◌≢◌, ◌≤◌, ℕ, Some, None}
use Rattle.og_base.specs.declared.Frame.{Frame}
use Rattle.og_base.specs.declared.VPage.{VPage}
use Rattle.og_tlb.specs.declared.Translation.{Translation}
use Rattle.og_tlb.specs.Tlb.{Translations, IsTlb, look_of, empty_tlb, filled, overwritten, without_page, without_frame}

-- a new TLB is one, and has no page
pub record NewIsEmpty : Type 0 where
  pub sound : (entries : ℕ) → 1 ≤ entries → IsTlb (empty_tlb entries)
  pub nothing : (entries : ℕ) (page : VPage) → look_of (empty_tlb entries) page ≡ None

-- a fill leaves the page with its frame. The page of the slot that it wrote over is gone, and every other page is as it was
pub record FillIsSeen : Type 0 where
  pub own : (tlb : Translations) (page : VPage) (frame : Frame) → IsTlb tlb → look_of (filled tlb page frame) page ≡ Some frame
  pub forgets : (tlb : Translations) (page : VPage) (frame : Frame) (old : Translation) → IsTlb tlb → overwritten tlb page ≡ Some old → old.page ≢ page → look_of (filled tlb page frame) old.page ≡ None
  pub others : (tlb : Translations) (page other : VPage) (frame : Frame) → IsTlb tlb → other ≢ page → ((old : Translation) → overwritten tlb page ≡ Some old → old.page ≢ other) → look_of (filled tlb page frame) other ≡ look_of tlb other
  pub sound : (tlb : Translations) (page : VPage) (frame : Frame) → IsTlb tlb → IsTlb (filled tlb page frame)

-- a page that was dropped isn't there, and every other page is as it was
pub record PageDropIsSeen : Type 0 where
  pub own : (tlb : Translations) (page : VPage) → IsTlb tlb → look_of (without_page tlb page) page ≡ None
  pub others : (tlb : Translations) (page other : VPage) → IsTlb tlb → other ≢ page → look_of (without_page tlb page) other ≡ look_of tlb other
  pub sound : (tlb : Translations) (page : VPage) → IsTlb tlb → IsTlb (without_page tlb page)

-- no page is in a frame that was dropped, and a page in another frame is as it was
pub record FrameDropIsSeen : Type 0 where
  pub own : (tlb : Translations) (frame : Frame) (page : VPage) → IsTlb tlb → look_of tlb page ≡ Some frame → look_of (without_frame tlb frame) page ≡ None
  pub others : (tlb : Translations) (frame : Frame) (page : VPage) → IsTlb tlb → look_of tlb page ≢ Some frame → look_of (without_frame tlb frame) page ≡ look_of tlb page
  pub none : (tlb : Translations) (frame : Frame) (page : VPage) → IsTlb tlb → look_of (without_frame tlb frame) page ≢ Some frame
  pub sound : (tlb : Translations) (frame : Frame) → IsTlb tlb → IsTlb (without_frame tlb frame)
