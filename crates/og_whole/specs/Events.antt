-- The world: the page layer's state and a block for each frame and number. An event is a row of the page layer, or a row of
-- one block together with the page layer's row that goes with it. One event of the machine is a short list of these.
use Rattle.std.specs.Prelude.{◌≡◌, ℕ, ◌<◌, Bool, true, false, cond, nat_eq, ◌≢◌, List, [], ◌∷◌}
use Rattle.og_block.specs.State.{Sharing, Block, start as block_start}
use Rattle.og_block.specs.Rows.{Row as BlockRow, guard as block_guard, apply as block_apply, actor_of}
use Rattle.og_block.specs.Access.{Answers as BlockAnswers}
use Rattle.og_pages.specs.State.{State as Pages, Ask, Collect, Wait, CopyIn, To, NoWalk, NoRequest, Outstanding, NoVictim, put_pair, Role, Mapped}
use Rattle.og_pages.specs.Rows.{Row as PageRow, guard as page_guard, apply as page_apply, Load_hit, Store_hit, Request_send, Fill_load, Fill_store, Request_end, Victim_put, Victim_free, Poison_send, Poison_refuse, Poison_collect, Copy_serve}
use Rattle.og_pages.specs.Run.{Laid, start as pages_start}
use Rattle.og_whole.specs.Kind.{Kind, Loads, Stores, Sends, Fills, Fills_store, Ends, Evicts, Settles, Poisons, Collects, Copies, Inner, kind, fresh}
use Rattle.og_block.specs.Roles.{OwnBit}

pub record World (L : Type 0) : Type 0 where
  pub pages : Pages L
  pub block : ℕ → ℕ → Block L  -- of a frame and a number

pub data Above (L : Type 0) : Type 0 where
  Nothing : Above L
  Does : (row : PageRow L) → Above L

-- the page layer's row that goes with a row of block number of a frame, where the access is on the page. A move's other
-- frame is other: the target where the block is of the old frame, and the old frame where the block is of the target
abbrev pub above : {L : Type 0} → (mover page other frame number : ℕ) → Kind L → Above L
above mover page other frame number (Loads p) = Does (Load_hit p page frame number)
above mover page other frame number (Stores p line) = Does (Store_hit p page frame number line)
above mover page other frame number (Sends p) = Does (Request_send p page frame number)
above mover page other frame number (Fills p) = Does (Fill_load p page frame number)
above mover page other frame number (Fills_store p line) = Does (Fill_store p page frame number line)
above mover page other frame number (Ends p) = cond (nat_eq p mover) (Does (Poison_refuse page frame other number)) (Does (Request_end p page frame number))
above mover page other frame number (Evicts p) = Does (Victim_put p frame number)
above mover page other frame number (Settles p) = Does (Victim_free p frame number)
above mover page other frame number (Poisons p) = Does (Poison_send page frame other number)
above mover page other frame number (Collects p line) = Does (Poison_collect page frame other number line)
above mover page other frame number (Copies p line) = Does (Copy_serve page other frame number line)
above mover page other frame number Inner = Nothing

abbrev pub after_above : {L : Type 0} → Above L → Pages L → Pages L
after_above Nothing s = s
after_above (Does row) s = page_apply row s

-- what the page layer asks of an event of this kind, besides the block's own guard: an access goes through the TLB, a node
-- has one request in all and one victim slot, and the mover does what its job says
abbrev pub Asked : {L : Type 0} → (mover page other frame number : ℕ) → Kind L → Pages L → Type 0
Asked mover page other frame number (Loads p) s = s.tlb p page ≡ To frame
Asked mover page other frame number (Stores p line) s = s.tlb p page ≡ To frame
Asked mover page other frame number (Sends p) s = (s.tlb p page ≡ To frame) × (s.request p ≡ NoRequest) × (s.walk p ≡ NoWalk) × (p ≢ mover)
Asked mover page other frame number (Fills p) s = s.request p ≡ Outstanding page frame number
Asked mover page other frame number (Fills_store p line) s = s.request p ≡ Outstanding page frame number
Asked mover page other frame number (Ends p) s = (p ≡ mover → s.job ≡ Collect page frame other number) × (p ≢ mover → s.request p ≡ Outstanding page frame number)
Asked mover page other frame number (Evicts p) s = s.victim p ≡ NoVictim
Asked mover page other frame number (Settles p) s = Unit {0}
Asked mover page other frame number (Poisons p) s = (p ≡ mover) × (s.job ≡ Ask page frame other number)
Asked mover page other frame number (Collects p line) s = s.job ≡ Collect page frame other number
Asked mover page other frame number (Copies p line) s = (p ≡ mover) × (s.job ≡ Wait page other frame number) × (s.command ≡ CopyIn line)
Asked mover page other frame number Inner s = Unit {0}

-- a row of the page layer that concerns no block
abbrev pub is_of_pages : {L : Type 0} → PageRow L → Bool
is_of_pages (Load_hit p page frame number) = false
is_of_pages (Store_hit p page frame number line) = false
is_of_pages (Request_send p page frame number) = false
is_of_pages (Fill_load p page frame number) = false
is_of_pages (Fill_store p page frame number line) = false
is_of_pages (Request_end p page frame number) = false
is_of_pages (Victim_put p frame number) = false
is_of_pages (Victim_free p frame number) = false
is_of_pages (Poison_send page old new number) = false
is_of_pages (Poison_refuse page old new number) = false
is_of_pages (Poison_collect page old new number line) = false
is_of_pages (Copy_serve page old new number line) = false
is_of_pages row = true

pub data Event (L : Type 0) : Type 0 where
  Page : (row : PageRow L) → Event L
  On : (page other frame number : ℕ) (row : BlockRow L) → Event L

-- of this many actors, the mover among them, with this many pages, and blocks in each
abbrev pub guard : {L : Type 0} → (actors mover pages blocks : ℕ) → Event L → World L → Type 0
guard actors mover pages blocks (Page row) w = page_guard pages blocks row w.pages × (is_of_pages row ≡ true)
guard actors mover pages blocks (On page other frame number row) w = block_guard row (w.block frame number) × (actor_of row < actors) × (number < blocks) × Asked mover page other frame number (kind row) w.pages

abbrev pub apply : {L : Type 0} → (actors mover : ℕ) → Event L → World L → World L
apply actors mover (Page row) w = record w { pages = page_apply row w.pages }
apply actors mover (On page other frame number row) w = record w { pages = after_above (above mover page other frame number (kind row)) w.pages; block = put_pair w.block frame number (block_apply actors row (w.block frame number)) }

-- ---- runs

-- the events may happen one after another, and lead from w to end
abbrev pub Runs : {L : Type 0} → (actors mover pages blocks : ℕ) → World L → List (Event L) → World L → Type 0
Runs actors mover pages blocks w [] end = w ≡ end
Runs actors mover pages blocks w (event ∷ events) end = guard actors mover pages blocks event w × Runs actors mover pages blocks (apply actors mover event w) events end

-- the blocks of pages' frames have the pages' lines, and are Unowned; those of free frames are the mover's
abbrev pub start_block : {L : Type 0} → Sharing → (mover : ℕ) → (blank : L) → (memory : ℕ → ℕ → L) → Role → (number : ℕ) → Block L
start_block sharing mover blank memory (Mapped page) number = block_start sharing (memory page number)
start_block sharing mover blank memory role number = fresh sharing mover blank

abbrev pub start : {L : Type 0} → Sharing → (mover : ℕ) → (blank : L) → (page_table : ℕ → ℕ) → (role : ℕ → Role) → (memory : ℕ → ℕ → L) → World L
start sharing mover blank page_table role memory = record { pages = pages_start blank page_table role memory; block = λ frame number. start_block sharing mover blank memory (role frame) number }

-- events lead to the world from a start in which each page has a frame of its own
pub record Reached (L : Type 0) (actors mover pages blocks : ℕ) (w : World L) : Type 0 where
  pub inside : mover < actors
  pub sharing : Sharing
  pub apart : OwnBit sharing mover
  pub blank : L
  pub page_table : ℕ → ℕ
  pub role : ℕ → Role
  pub memory : ℕ → ℕ → L
  pub events : List (Event L)
  pub laid : Laid pages page_table role
  pub run : Runs actors mover pages blocks (start sharing mover blank page_table role memory) events w

-- ---- the flat memory of pages

abbrev pub memory_by : {L : Type 0} → (page number : ℕ) → Kind L → (ℕ → ℕ → L) → ℕ → ℕ → L
memory_by page number (Stores p line) memory = put_pair memory page number line
memory_by page number (Fills_store p line) memory = put_pair memory page number line
memory_by page number d memory = memory

-- only an access that stores changes the flat memory
abbrev pub memory_after : {L : Type 0} → Event L → (ℕ → ℕ → L) → ℕ → ℕ → L
memory_after (Page row) memory = memory
memory_after (On page other frame number row) memory = memory_by page number (kind row) memory

abbrev pub memory_of : {L : Type 0} → List (Event L) → (ℕ → ℕ → L) → ℕ → ℕ → L
memory_of [] memory = memory
memory_of (event ∷ events) memory = memory_of events (memory_after event memory)

abbrev pub is_access : {L : Type 0} → Kind L → Bool
is_access (Loads p) = true
is_access (Stores p line) = true
is_access (Fills p) = true
is_access (Fills_store p line) = true
is_access d = false

-- an access answers what the flat memory has for the block of the page
abbrev pub Answers : {L : Type 0} → (memory : ℕ → ℕ → L) → Event L → Type 0
Answers memory (Page row) = Unit {0}
Answers memory (On page other frame number row) = is_access (kind row) ≡ true → BlockAnswers (memory page number) row

-- the accesses, in their order, are a run of one flat memory of pages
abbrev pub FlatRun : {L : Type 0} → (memory : ℕ → ℕ → L) → List (Event L) → Type 0
FlatRun memory [] = Unit {0}
FlatRun memory (event ∷ events) = Answers memory event × FlatRun (memory_after event memory) events
