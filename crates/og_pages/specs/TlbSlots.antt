-- A node's TLB as a list of slots, and the rows that a fill of a slot makes.
use Rattle.std.specs.Prelude.{◌≡◌, ℕ, zero, suc, Bool, true, false, cond, nat_eq, List, [], ◌∷◌}
use Rattle.og_pages.specs.State.{State, TlbEntry, NoEntry, To}
use Rattle.og_pages.specs.Rows.{apply, points_to, Tlb_forget, Walk_fill, Drop_answer}

pub data Slot : Type 0 where
  Empty : Slot
  Filled : (page frame : ℕ) → Slot

abbrev pub is_for : Slot → ℕ → Bool
is_for Empty page = false
is_for (Filled other frame) page = nat_eq other page

abbrev pub entry_of : Slot → TlbEntry
entry_of Empty = NoEntry
entry_of (Filled page frame) = To frame

-- what the slots have for a page: the first slot for it counts
abbrev pub look_up : ℕ → List Slot → TlbEntry
look_up page [] = NoEntry
look_up page (slot ∷ slots) = cond (is_for slot page) (entry_of slot) (look_up page slots)

abbrev pub IsAbsent : Slot → List Slot → Type 0
IsAbsent Empty slots = Unit {0}
IsAbsent (Filled page frame) slots = look_up page slots ≡ NoEntry

-- no page stands in two slots
abbrev pub IsDistinct : List Slot → Type 0
IsDistinct [] = Unit {0}
IsDistinct (slot ∷ slots) = IsAbsent slot slots × IsDistinct slots

abbrev pub has_slot : List Slot → ℕ → Bool
has_slot [] index = false
has_slot (slot ∷ slots) zero = true
has_slot (slot ∷ slots) (suc index) = has_slot slots index

abbrev pub slot_at : List Slot → ℕ → Slot
slot_at [] index = Empty
slot_at (slot ∷ slots) zero = slot
slot_at (slot ∷ slots) (suc index) = slot_at slots index

abbrev pub with_slot : List Slot → ℕ → Slot → List Slot
with_slot [] index new = []
with_slot (slot ∷ slots) zero new = new ∷ slots
with_slot (slot ∷ slots) (suc index) new = slot ∷ with_slot slots index new

-- the state after the rows of a fill: the page that stood in the slot is forgotten, and the walk's page is filled
abbrev pub after_fill : {L : Type 0} → (node page frame : ℕ) → Slot → State L → State L
after_fill node page frame Empty s = apply (Walk_fill node page frame) s
after_fill node page frame (Filled old other) s = apply (Walk_fill node page frame) (apply (Tlb_forget node old) s)

-- the slots show the node's entries
abbrev pub Shows : {L : Type 0} → List Slot → State L → (node : ℕ) → Type 0
Shows slots s node = (page : ℕ) → look_up page slots ≡ s.tlb node page

-- a fill of any slot with a page that stood in none is these rows, and no page stands twice afterwards
abbrev pub FillIsRows : (L : Type 0) → Type 0
FillIsRows L = (s : State L) (slots : List Slot) (index node page frame : ℕ) → IsDistinct slots → has_slot slots index ≡ true → look_up page slots ≡ NoEntry → Shows slots s node →
    Shows (with_slot slots index (Filled page frame)) (after_fill node page frame (slot_at slots index) s) node × IsDistinct (with_slot slots index (Filled page frame))

-- a slot for the page, or with the frame, becomes empty
abbrev pub without_page : ℕ → List Slot → List Slot
without_page page [] = []
without_page page (slot ∷ slots) = cond (is_for slot page) Empty slot ∷ without_page page slots

abbrev pub without_frame : ℕ → List Slot → List Slot
without_frame frame [] = []
without_frame frame (slot ∷ slots) = cond (points_to frame (entry_of slot)) Empty slot ∷ without_frame frame slots

-- dropping the slot of a page is the row that forgets the page
abbrev pub ForgetIsRow : (L : Type 0) → Type 0
ForgetIsRow L = (s : State L) (slots : List Slot) (node page : ℕ) → IsDistinct slots → Shows slots s node →
    Shows (without_page page slots) (apply (Tlb_forget node page) s) node × IsDistinct (without_page page slots)

-- dropping all slots with a frame is what answering a drop request does to the TLB
abbrev pub DropIsRow : (L : Type 0) → Type 0
DropIsRow L = (s : State L) (slots : List Slot) (node frame : ℕ) → IsDistinct slots → Shows slots s node →
    Shows (without_frame frame slots) (apply (Drop_answer node frame) s) node × IsDistinct (without_frame frame slots)
