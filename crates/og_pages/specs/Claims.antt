-- What is claimed of each state that rows lead to.
use Rattle.std.specs.Prelude.{◌≡◌, ℕ, ◌<◌, Bool, true, false, cond, nat_eq, ◌≢◌, ◌⊎◌, List}
use Rattle.og_pages.specs.State.{State, Role, Job, Free, Mapped, Target, Idle, Ask, Collect, Hold, Wait, Publish, Tell, Gather, Clean, Cleaning, NoCommand, CopyIn, CopyDone, CleanFrame, FrameClean, To, Walking, Walked, NoDrop, DropFrame, Dropped, Outstanding, VictimOf, Collecting, Dead, NoNotice, NoRequest, NoWalk, NoVictim, NoEntry}
use Rattle.og_pages.specs.Rows.{Row, guard, apply, Walk_answer, Walk_refuse, Walk_fill, Drop_answer, Drop_take, Copy_serve, Copy_next, Copy_last, Clean_serve, Frame_free}
use Rattle.og_pages.specs.Invariant.{Invariant, place, is_left}
use Rattle.og_pages.specs.Run.{Laid, start, Runs, AllAnswered, Reached}

-- no node, and no message of a node or a home, names the frame
pub record Unnamed (L : Type 0) (s : State L) (frame node page number : ℕ) : Type 0 where
  pub holder : s.holder frame node ≡ false
  pub entry : s.tlb node page ≢ To frame
  pub walk_answer : s.walk node ≢ Walked page frame
  pub request : s.request node ≢ Outstanding page frame number
  pub victim : s.victim node ≢ VictimOf frame number
  pub copy : s.cached frame number node ≡ false
  pub drop : s.drop node ≢ DropFrame frame
  pub dropped : s.drop node ≢ Dropped frame
  pub notice : s.notice frame ≡ NoNotice
  pub noticed : s.noticed frame ≡ false

-- the job, and so each message for it that is in flight, names the frame
abbrev pub job_names : {L : Type 0} → Job L → ℕ → Bool
job_names Idle frame = false
job_names (Ask page old new number) frame = cond (nat_eq old frame) true (nat_eq new frame)
job_names (Collect page old new number) frame = cond (nat_eq old frame) true (nat_eq new frame)
job_names (Hold page old new number line) frame = cond (nat_eq old frame) true (nat_eq new frame)
job_names (Wait page old new number) frame = cond (nat_eq old frame) true (nat_eq new frame)
job_names (Publish page old new) frame = cond (nat_eq old frame) true (nat_eq new frame)
job_names (Tell other) frame = nat_eq other frame
job_names (Gather other) frame = nat_eq other frame
job_names (Clean other) frame = nat_eq other frame
job_names (Cleaning other) frame = nat_eq other frame

-- the frame is free, and so named by nothing at all
pub record FreeFrame (L : Type 0) (blocks : ℕ) (s : State L) (frame : ℕ) : Type 0 where
  pub unnamed : (node page number : ℕ) → Unnamed L s frame node page number
  pub no_job : job_names s.job frame ≡ false
  pub dead : (number : ℕ) → number < blocks → s.phase frame number ≡ Dead

-- ---- each message meets its row

-- a copy comes in at a dead block of the move's target, whose old block is dead, and it carries the page's line
pub record CopyMeets (L : Type 0) (pages blocks : ℕ) (s : State L) (page old new number : ℕ) (line : L) : Type 0 where
  pub row : guard pages blocks (Copy_serve page old new number line) s
  pub target : s.role new ≡ Target page
  pub new_dead : s.phase new number ≡ Dead
  pub old_dead : s.phase old number ≡ Dead
  pub line_is : line ≡ s.memory page number

-- a cleaning finds a frame of which each block is dead and no node is a holder
pub record CleaningMeets (L : Type 0) (pages blocks : ℕ) (s : State L) (frame : ℕ) : Type 0 where
  pub row : guard pages blocks (Clean_serve frame) s
  pub dead : (number : ℕ) → number < blocks → s.phase frame number ≡ Dead
  pub no_holder : (node : ℕ) → s.holder frame node ≡ false

-- the node has something outstanding, for which a request to drop waits
abbrev pub IsOccupied : (L : Type 0) → State L → (node : ℕ) → Type 0
IsOccupied L s node = (s.request node ≢ NoRequest) ⊎ ((s.walk node ≢ NoWalk) ⊎ (s.victim node ≢ NoVictim))

-- a message of the mover's table, and of the nodes' part in it, meets a row that may be taken
pub record Served (L : Type 0) (pages blocks : ℕ) (s : State L) : Type 0 where
  -- a walk is for a page that has a frame: it is answered with the frame, or refused where the page is moving
  pub walk : (node page : ℕ) → s.walk node ≡ Walking page → s.role (s.page_table page) ≡ Mapped page
  pub walk_row : (node page : ℕ) → s.walk node ≡ Walking page → guard pages blocks (Walk_answer node page (s.page_table page)) s ⊎ guard pages blocks (Walk_refuse node page) s
  -- the answer to a walk finds a holder of the frame without a request, whose TLB lacks the page
  pub walk_answer : (node page frame : ℕ) → s.walk node ≡ Walked page frame → (s.holder frame node ≡ true) × (s.request node ≡ NoRequest) × (s.tlb node page ≡ NoEntry) × guard pages blocks (Walk_fill node page frame) s
  -- a request to drop is for the frame that is gathered, and finds a holder: it answers at once, or holds the request since a
  -- request, a walk or a victim of its own is outstanding
  pub drop : (node frame : ℕ) → s.drop node ≡ DropFrame frame → (s.job ≡ Gather frame) × (s.holder frame node ≡ true)
  pub drop_row : (node frame : ℕ) → s.drop node ≡ DropFrame frame → guard pages blocks (Drop_answer node frame) s ⊎ IsOccupied L s node
  -- so is an answer to it
  pub dropped : (node frame : ℕ) → s.drop node ≡ Dropped frame → (s.holder frame node ≡ true) × guard pages blocks (Drop_take node frame) s
  -- where requests to drop are sent, no node holds one or has one in flight
  pub no_held_drop : (frame node : ℕ) → s.job ≡ Tell frame → s.drop node ≡ NoDrop
  -- a notice names a frame that has a page, which isn't moving: an idle mover may begin the move where there is a free frame
  pub notice : (frame : ℕ) → s.notice frame ≢ NoNotice → (page : ℕ) × (s.role frame ≡ Mapped page) × (s.page_table page ≡ frame) × (is_left s.job frame ≡ false)
  -- a home sends a notice only where none of the frame is open, in flight in either direction
  pub one_notice : (frame : ℕ) → s.noticed frame ≡ false → s.notice frame ≡ NoNotice
  -- a block is collected for the job that names it
  pub collect : (frame number : ℕ) → number < blocks → s.phase frame number ≡ Collecting → (page : ℕ) × (new : ℕ) × (s.job ≡ Collect page frame new number)
  pub copy_in : (line : L) → s.command ≡ CopyIn line → (page : ℕ) × (old : ℕ) × (new : ℕ) × (number : ℕ) × CopyMeets L pages blocks s page old new number line
  -- the answers of homes find the job in the phase that waits for them
  pub copy_done : s.command ≡ CopyDone → (page : ℕ) × (old : ℕ) × (new : ℕ) × (number : ℕ) × (guard pages blocks (Copy_next page old new number) s ⊎ guard pages blocks (Copy_last page old new number) s)
  pub clean_frame : s.command ≡ CleanFrame → (frame : ℕ) × CleaningMeets L pages blocks s frame
  pub frame_clean : s.command ≡ FrameClean → (frame : ℕ) × guard pages blocks (Frame_free frame) s

-- a mover without an act waits for something that is there: a reply, a copy, a cleaning, or each holder's answer
abbrev pub Awaited : {L : Type 0} → State L → Job L → Type 0
Awaited s (Collect page old new number) = s.phase old number ≡ Collecting
Awaited s (Wait page old new number) = s.command ≢ NoCommand
Awaited s (Cleaning frame) = s.command ≢ NoCommand
Awaited s (Gather frame) = (node : ℕ) → s.holder frame node ≡ true → s.drop node ≢ NoDrop
Awaited s job = Unit {0}

abbrev pub MoverWaits : (L : Type 0) → (pages blocks : ℕ) → State L → Type 0
MoverWaits L pages blocks s = Awaited s s.job

-- ---- lines and copies

-- the line of each page's block, where it lives, is the flat memory's
abbrev pub LinesHeld : (L : Type 0) → (pages blocks : ℕ) → State L → Type 0
LinesHeld L pages blocks s = (page number : ℕ) → page < pages → number < blocks → s.newest (place s.job (s.page_table page) page number) number ≡ s.memory page number

-- a copy is of a block where a page's block lives
abbrev pub CopiesPlaced : (L : Type 0) → (pages blocks : ℕ) → State L → Type 0
CopiesPlaced L pages blocks s = (frame number node : ℕ) → s.cached frame number node ≡ true → (page : ℕ) × (page < pages) × (place s.job (s.page_table page) page number ≡ frame)

-- no two pages have one frame
abbrev pub FramesApart : (L : Type 0) → (pages blocks : ℕ) → State L → Type 0
FramesApart L pages blocks s = (y z : ℕ) → y < pages → z < pages → s.page_table y ≡ s.page_table z → y ≡ z

-- ---- names of frames

-- a free frame is named by nothing at all
abbrev pub FreeUnnamed : (L : Type 0) → (pages blocks : ℕ) → State L → Type 0
FreeUnnamed L pages blocks s = (frame : ℕ) → s.role frame ≡ Free → FreeFrame L blocks s frame

-- the target of a move is named by the move alone
abbrev pub TargetUnnamed : (L : Type 0) → (pages blocks : ℕ) → State L → Type 0
TargetUnnamed L pages blocks s = (frame other node page number : ℕ) → s.role frame ≡ Target other → Unnamed L s frame node page number

-- whoever names a frame is a holder of it
pub record OnlyHolders (L : Type 0) (pages blocks : ℕ) (s : State L) : Type 0 where
  pub entry : (node page frame : ℕ) → s.tlb node page ≡ To frame → s.holder frame node ≡ true
  pub walk_answer : (node page frame : ℕ) → s.walk node ≡ Walked page frame → s.holder frame node ≡ true
  pub request : (node page frame number : ℕ) → s.request node ≡ Outstanding page frame number → s.holder frame node ≡ true
  pub victim : (node frame number : ℕ) → s.victim node ≡ VictimOf frame number → s.holder frame node ≡ true
  pub copy : (frame number node : ℕ) → s.cached frame number node ≡ true → s.holder frame node ≡ true

-- ---- laws

-- P holds in each state that rows lead to
abbrev pub InEachState : (L : Type 0) → ((L : Type 0) → (pages blocks : ℕ) → State L → Type 0) → Type 0
InEachState L P = (pages blocks : ℕ) (s : State L) → Reached L pages blocks s → P L pages blocks s

-- from each such state on, every access answers the flat memory of that moment
abbrev pub AccessesAnswered : (L : Type 0) → Type 0
AccessesAnswered L = (pages blocks : ℕ) (s end : State L) (rows : List (Row L)) → Reached L pages blocks s → Runs pages blocks s rows end → AllAnswered s rows

-- the invariant holds at the start, and each row that may be taken keeps it
abbrev pub Starts : (L : Type 0) → Type 0
Starts L = (pages blocks : ℕ) (blank : L) (page_table : ℕ → ℕ) (role : ℕ → Role) (memory : ℕ → ℕ → L) → Laid pages page_table role → Invariant L pages blocks (start blank page_table role memory)

abbrev pub IsKept : (L : Type 0) → Type 0
IsKept L = (pages blocks : ℕ) (s : State L) (row : Row L) → guard pages blocks row s → Invariant L pages blocks s → Invariant L pages blocks (apply row s)

-- a run that goes on from such a state leads to such a state
abbrev pub GoesOn : (L : Type 0) → Type 0
GoesOn L = (pages blocks : ℕ) (s end : State L) (rows : List (Row L)) → Reached L pages blocks s → Runs pages blocks s rows end → Reached L pages blocks end
