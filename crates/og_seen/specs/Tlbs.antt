-- A TLB seen as a function of the number of a page.
use Rattle.std.specs.Prelude.{◌≡◌, ℕ, true, Option, None, Some, slice_get}
use Rattle.og_base.specs.declared.Frame.{Frame}
use Rattle.og_base.specs.declared.VPage.{VPage}
use Rattle.og_pages.specs.State.{TlbEntry, NoEntry, To}
use Rattle.og_tlb.specs.Tlb.{Translations, look_of}
use Rattle.og_seen.specs.Numbers.{Sizes, is_there, frame_number}

abbrev pub entry_seen : Sizes → Option Frame → TlbEntry
entry_seen s None = NoEntry
entry_seen s (Some frame) = To (frame_number s frame)

abbrev pub page_seen : Sizes → Translations → Option ℕ → TlbEntry
page_seen s tlb None = NoEntry
page_seen s tlb (Some page) = entry_seen s (look_of tlb (record { 0 = page }))

-- what it has for the placed pages
abbrev pub tlb_seen : Sizes → Translations → ℕ → TlbEntry
tlb_seen s tlb y = page_seen s tlb (slice_get s.pages y)

-- the page has this number
abbrev pub IsNumbered : Sizes → VPage → ℕ → Type 0
IsNumbered s page y = slice_get s.pages y ≡ Some page.0

-- each placed page has one number
abbrev pub PagesDiffer : Sizes → Type 0
PagesDiffer s = (y z page : ℕ) → slice_get s.pages y ≡ Some page → slice_get s.pages z ≡ Some page → y ≡ z

-- the frames that it names are there
abbrev pub NamesFrames : Sizes → Translations → Type 0
NamesFrames s tlb = (page : VPage) (frame : Frame) → look_of tlb page ≡ Some frame → is_there s frame ≡ true
