-- What contracts see of a TLB: its slots, each with a page and its frame or empty, and the slot that is used next when all
-- are full. Above this crate a TLB is `look_of`.
use Rattle.std.specs.Prelude.{ℕ, ◌+◌, ◌%◌, ◌<◌, ◌≤◌, ◌||◌, Bool, false, Option, Some, None, List, length, map, slice_index_or, slice_set, position, is_none, is_some, unwrap_or, option_map, replicate, if◌then◌else◌}
use Rattle.og_base.specs.declared.Frame.{Frame}
use Rattle.og_base.specs.declared.VPage.{VPage}
use Rattle.og_base.specs.Names.{is_same_page, is_same_frame}
use Rattle.og_base.specs.Places.{found_in, PassesOnce}
use Rattle.og_tlb.specs.declared.Translation.{Translation}

pub record Translations : Type 0 where
  pub slots : List (Option Translation)
  -- the slot that a fill uses when all are full
  pub next : ℕ

-- a slot has the page
abbrev pub is_for : VPage → Option Translation → Bool
is_for page None = false
is_for page (Some translation) = is_same_page translation.page page

-- a slot has the frame
abbrev pub is_to : Frame → Option Translation → Bool
is_to frame None = false
is_to frame (Some translation) = is_same_frame translation.frame frame

-- the frame that the TLB has for a page, if a slot has the page: what a TLB is
unfoldable pub look_of : Translations → VPage → Option Frame
look_of tlb page = option_map (λ translation. translation.frame) (found_in tlb.slots (is_for page))

-- a TLB of empty slots
unfoldable pub empty_tlb : ℕ → Translations
empty_tlb entries = record { slots = replicate entries None; next = 0 }

-- the slot of a page, if one has it
abbrev pub slot_of : Translations → VPage → Option ℕ
slot_of tlb page = position (is_for page) tlb.slots

-- the lowest empty slot, if there is one
abbrev pub empty_slot_of : Translations → Option ℕ
empty_slot_of tlb = position is_none tlb.slots

-- the slot that a fill writes: the page's, else the lowest empty one, else the next
abbrev pub place_for : Translations → VPage → ℕ
place_for tlb page = unwrap_or (slot_of tlb page) (unwrap_or (empty_slot_of tlb) tlb.next)

-- the next slot after a fill: it moves on, round the slots, exactly where it was used
abbrev pub next_after : Translations → VPage → ℕ
next_after tlb page =
    if is_some (slot_of tlb page) || is_some (empty_slot_of tlb) then tlb.next else (tlb.next + 1) % length tlb.slots

-- the TLB with the page and its frame
unfoldable pub filled : Translations → VPage → Frame → Translations
filled tlb page frame = record {
  slots = slice_set tlb.slots (place_for tlb page) (Some (record { page = page; frame = frame }));
  next = next_after tlb page;
}

-- what a fill of the page writes over
unfoldable pub overwritten : Translations → VPage → Option Translation
overwritten tlb page = slice_index_or tlb.slots (place_for tlb page) None

-- the slots, those that pass emptied
abbrev pub emptied : (Option Translation → Bool) → List (Option Translation) → List (Option Translation)
emptied goes slots = map (λ slot. if goes slot then None else slot) slots

-- the TLB without the page
unfoldable pub without_page : Translations → VPage → Translations
without_page tlb page = record tlb { slots = emptied (is_for page) tlb.slots }

-- the TLB without all pages that it has in the frame
unfoldable pub without_frame : Translations → Frame → Translations
without_frame tlb frame = record tlb { slots = emptied (is_to frame) tlb.slots }

-- what every TLB is: it has slots, one of them is the next, and no page stands in two
pub record IsTlb (tlb : Translations) : Type 0 where
  pub has_slots : 1 ≤ length tlb.slots
  pub next_is_slot : tlb.next < length tlb.slots
  pub once : (page : VPage) → PassesOnce tlb.slots (is_for page)
