-- The entry that a home has. In the layer of blocks a block that was poisoned and collected stays the mover's until a copy
-- gives it a line. At its home a cleaning makes the blocks of a frame Unowned, and there they wait for a copy.
use Rattle.std.specs.Prelude.{◌≡◌, ◌≢◌, ℕ, ◌<◌, Bool, true, false}
use Rattle.og_block.specs.State.{Entry, Unowned, PoisonBy}
use Rattle.og_pages.specs.State.{State as Pages, Role, Free, Mapped, Target, Quarantined, Job, Command, Cleaning, CleanFrame, FrameClean, Wait, CopyIn, Outstanding, Collecting}
use Rattle.og_pages.specs.Rows.{Row as PageRow, Clean_serve}
use Rattle.og_pages.specs.Invariant.{is_cleaned}
use Rattle.og_block.specs.Rows.{Row as BlockRow}
use Rattle.og_whole.specs.Events.{World, Page, On, guard, apply, Reached}

-- the frame is blank at its home: free, the target of a move, or cleaned
abbrev pub is_blank : {L : Type 0} → Role → Job L → Command L → (frame : ℕ) → Bool
is_blank Free job sent frame = true
is_blank (Target page) job sent frame = true
is_blank (Quarantined page) job sent frame = is_cleaned job sent frame
is_blank (Mapped page) job sent frame = false

abbrev pub is_blank_in : {L : Type 0} → Pages L → (frame : ℕ) → Bool
is_blank_in s frame = is_blank (s.role frame) s.job s.command frame

-- a block that is the mover's in the layer of blocks is Unowned at the home of a blank frame
abbrev pub home_entry : Bool → Entry → Entry
home_entry true (PoisonBy mover) = Unowned
home_entry blank entry = entry

abbrev pub home_entry_in : {L : Type 0} → Pages L → (frame : ℕ) → Entry → Entry
home_entry_in s frame entry = home_entry (is_blank_in s frame) entry

abbrev pub home_entry_at : {L : Type 0} → World L → (frame number : ℕ) → Entry
home_entry_at w frame number = home_entry_in w.pages frame (w.block frame number).entry

abbrev pub cleans : {L : Type 0} → PageRow L → Bool
cleans (Clean_serve frame) = true
cleans row = false

-- what the mover's messages, and requests, meet at the homes
pub record EntriesMet (L : Type 0) (actors mover pages blocks : ℕ) (w : World L) : Type 0 where
  -- a cleaning finds each block of the frame poisoned, and leaves it Unowned
  pub clean_finds : (frame number : ℕ) → number < blocks → w.pages.job ≡ Cleaning frame → w.pages.command ≡ CleanFrame → home_entry_at w frame number ≡ PoisonBy mover
  pub clean_leaves : (frame number : ℕ) → number < blocks → w.pages.job ≡ Cleaning frame → w.pages.command ≡ FrameClean → home_entry_at w frame number ≡ Unowned
  -- a copy comes in at an Unowned block
  pub copy_finds : (page old frame number : ℕ) (line : L) → number < blocks → w.pages.job ≡ Wait page old frame number → w.pages.command ≡ CopyIn line → home_entry_at w frame number ≡ Unowned
  -- each block of a blank frame is Unowned at its home
  pub blank_is : (frame number : ℕ) → number < blocks → is_blank_in w.pages frame ≡ true → home_entry_at w frame number ≡ Unowned
  -- a request, and the mover's poisoning, meet the block's own entry: their frame isn't blank
  pub request_meets : (node page frame number : ℕ) → w.pages.request node ≡ Outstanding page frame number → is_blank_in w.pages frame ≡ false
  pub poison_meets : (frame number : ℕ) → number < blocks → w.pages.phase frame number ≡ Collecting → is_blank_in w.pages frame ≡ false

-- no row of the page layer that concerns no block changes an entry at a home, but the cleaning of the frame
abbrev pub PageRowsKeepEntries : (L : Type 0) → Type 0
PageRowsKeepEntries L = (actors mover pages blocks : ℕ) (w : World L) (row : PageRow L) (frame number : ℕ) → Reached L actors mover pages blocks w → guard actors mover pages blocks (Page row) w → cleans row ≡ false → number < blocks → home_entry_at (apply actors mover (Page row) w) frame number ≡ home_entry_at w frame number

-- a cleaning leaves the entries of all other frames
abbrev pub CleaningKeepsOthers : (L : Type 0) → Type 0
CleaningKeepsOthers L = (actors mover pages blocks : ℕ) (w : World L) (cleaned frame number : ℕ) → guard actors mover pages blocks (Page (Clean_serve cleaned)) w → frame ≢ cleaned → home_entry_at (apply actors mover (Page (Clean_serve cleaned)) w) frame number ≡ home_entry_at w frame number

-- no row of a block makes its own frame or another blank, or ends its being so
abbrev pub BlockRowsKeepBlank : (L : Type 0) → Type 0
BlockRowsKeepBlank L = (actors mover pages blocks : ℕ) (w : World L) (page other frame number : ℕ) (row : BlockRow L) (g : ℕ) → guard actors mover pages blocks (On page other frame number row) w → is_blank_in (apply actors mover (On page other frame number row) w).pages g ≡ is_blank_in w.pages g
