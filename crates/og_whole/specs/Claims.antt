-- What is claimed of each world that events lead to.
use Rattle.std.specs.Prelude.{◌≡◌, ℕ, ◌<◌, Bool, true, false, ◌≢◌, ◌⊎◌, List}
use Rattle.og_block.specs.State.{Sharing, Block, NoCopy, NoAsk, PoisonRead, NoResponse, NoBack, WriteBack, Free, NoIntervention, NoInvalidation, NoRevision, Exclusive, BusyPoison, PoisonBy}
use Rattle.og_block.specs.Rows.{Row as BlockRow, guard as block_guard, apply as block_apply, Send_poison_read, Copy_in}
use Rattle.og_block.specs.Run.{OneWriter}
use Rattle.og_block.specs.Held.{Held}
use Rattle.og_block.specs.Message.{Message as BlockMessage, Stands, MayWait}
use Rattle.og_block.specs.Moves.{SomethingMoves, Moves}
use Rattle.og_block.specs.Balance.{Finds_ready, Balanced, due}
use Rattle.og_block.specs.Races.{Races}
use Rattle.og_pages.specs.State.{State as Pages, Ask, Collect, Wait, NoCommand, CopyIn, NoNotice, NoDrop, Role, Free as FreeRole, Outstanding}
use Rattle.og_pages.specs.Rows.{guard as page_guard, is_dead, Copy_send, Clean_send, Notice_send, Drop_send_all}
use Rattle.og_pages.specs.Run.{Laid}
use Rattle.og_pages.specs.Invariant.{place}
use Rattle.og_whole.specs.Kind.{Kind, Stores, Fills_store, kind, has_copy, is_idle}
use Rattle.og_block.specs.Roles.{OwnBit}
use Rattle.og_whole.specs.Events.{World, Event, On, guard, apply, Runs, start, Answers, memory_after, memory_of, FlatRun, Reached}
use Rattle.og_whole.specs.Link.{Invariant}

-- ---- one flat memory of pages

-- the line of each page's block, found in the block where it lives, is the flat memory's
abbrev pub LinesHeld : (L : Type 0) → (actors mover pages blocks : ℕ) → World L → Type 0
LinesHeld L actors mover pages blocks w = (page number : ℕ) → page < pages → number < blocks → Held actors (w.pages.memory page number) (w.block (place w.pages.job (w.pages.page_table page) page number) number)

abbrev pub is_store : {L : Type 0} → Kind L → Bool
is_store (Stores p line) = true
is_store (Fills_store p line) = true
is_store d = false

-- a store that may happen is never to a dead block, and is where the page's block lives
abbrev pub StoresLand : (L : Type 0) → (actors mover pages blocks : ℕ) → World L → Type 0
StoresLand L actors mover pages blocks w = (page other frame number : ℕ) (row : BlockRow L) → guard actors mover pages blocks (On page other frame number row) w → is_store (kind row) ≡ true →
    (is_dead (w.pages.phase frame number) ≡ false) × (page < pages) × (place w.pages.job (w.pages.page_table page) page number ≡ frame)

-- ---- one writer

-- no other copy beside one that may be written
abbrev pub WriterAlone : (L : Type 0) → (actors mover pages blocks : ℕ) → World L → Type 0
WriterAlone L actors mover pages blocks w = (frame number : ℕ) → number < blocks → OneWriter actors (w.block frame number)

-- a copy of a block of a frame is only where the frame is the place of some page's block
abbrev pub CopiesPlaced : (L : Type 0) → (actors mover pages blocks : ℕ) → World L → Type 0
CopiesPlaced L actors mover pages blocks w = (frame number q : ℕ) → number < blocks → q < actors → has_copy ((w.block frame number).copy q) ≡ true → (page : ℕ) × (page < pages) × (place w.pages.job (w.pages.page_table page) page number ≡ frame)

-- ---- free frames

-- nothing of the block is at the actor, or in flight to it or from it, or at the home
pub record Clear (L : Type 0) (b : Block L) (q : ℕ) : Type 0 where
  pub copy : b.copy q ≡ NoCopy
  pub ask : b.ask q ≡ NoAsk
  pub response : b.response q ≡ NoResponse
  pub acks : b.acks q ≡ 0
  pub back : b.back q ≡ NoBack
  pub victim : b.victim q ≡ Free
  pub intervention : b.intervention q ≡ NoIntervention
  pub invalidation : b.invalidation q ≡ NoInvalidation
  pub revision : b.revision ≡ NoRevision

abbrev pub FreeClear : (L : Type 0) → (actors mover pages blocks : ℕ) → World L → Type 0
FreeClear L actors mover pages blocks w = (frame number q : ℕ) → number < blocks → q < actors → w.pages.role frame ≡ FreeRole → Clear L (w.block frame number) q

-- ---- messages between the layers meet their rows

pub record PoisonServed (L : Type 0) (actors mover pages blocks : ℕ) (w : World L) : Type 0 where
  -- the mover's act in Ask: its request to poison the block may be sent
  pub ask : (page frame other number : ℕ) → number < blocks → w.pages.job ≡ Ask page frame other number → block_guard (Send_poison_read mover) (w.block frame number)
  -- the request meets no block that is poisoned or being poisoned, and is the mover's
  pub poison_read : (frame number q : ℕ) → number < blocks → q < actors → (w.block frame number).ask q ≡ PoisonRead → (q ≡ mover) × ((owner requester : ℕ) → (w.block frame number).entry ≢ BusyPoison owner requester) × ((requester : ℕ) → (w.block frame number).entry ≢ PoisonBy requester) × ((w.block frame number).entry ≢ Exclusive q)
  -- a write-back meets no poisoned block
  pub write_back : (frame number q : ℕ) (line : L) → number < blocks → q < actors → (w.block frame number).back q ≡ WriteBack line → (requester : ℕ) → (w.block frame number).entry ≢ PoisonBy requester
  -- a copy comes in at a block that may take it
  pub copy_in : (page old frame number : ℕ) (line : L) → number < blocks → w.pages.job ≡ Wait page old frame number → w.pages.command ≡ CopyIn line → block_guard (Copy_in mover line) (w.block frame number)
  -- whoever has something outstanding for a block has its one request for that block
  pub request : (frame number q : ℕ) → number < blocks → q < actors → q ≢ mover → is_idle ((w.block frame number).want q) ≡ false → (page : ℕ) × (w.pages.request q ≡ Outstanding page frame number)

-- an event may happen now that takes the message of the block from its place
pub record MeetsEvent (L : Type 0) (actors mover pages blocks : ℕ) (w : World L) (frame number : ℕ) (m : BlockMessage L) : Type 0 where
  pub page : ℕ
  pub other : ℕ
  pub row : BlockRow L
  pub may : guard actors mover pages blocks (On page other frame number row) w
  pub taken : ¬ Stands actors (block_apply actors row (w.block frame number)) m

-- each message of a block meets an event, or waits for the other parts of its request, or is held while its node has a request
abbrev pub BlocksServed : (L : Type 0) → (actors mover pages blocks : ℕ) → World L → Type 0
BlocksServed L actors mover pages blocks w = (frame number : ℕ) (m : BlockMessage L) → number < blocks → Stands actors (w.block frame number) m → MeetsEvent L actors mover pages blocks w frame number m ⊎ MayWait (w.block frame number) m

-- ---- blocks in each world

-- what a message of a block finds at its receiver, and what balances there
abbrev pub BlocksReady : (L : Type 0) → (actors mover pages blocks : ℕ) → World L → Type 0
BlocksReady L actors mover pages blocks w = (frame number q : ℕ) → number < blocks → q < actors → Finds_ready actors (w.block frame number) q × Balanced actors (w.block frame number) q

-- how the races of a block stand, whose memory cell is the page layer's newest line
abbrev pub BlocksRace : (L : Type 0) → (actors mover pages blocks : ℕ) → World L → Type 0
BlocksRace L actors mover pages blocks w = (frame number : ℕ) → number < blocks → Races actors (w.pages.newest frame number) (w.block frame number)

-- a reply names fewer acknowledgements than there are actors
abbrev pub RepliesBounded : (L : Type 0) → (actors mover pages blocks : ℕ) → World L → Type 0
RepliesBounded L actors mover pages blocks w = (frame number q : ℕ) → number < blocks → q < actors → due ((w.block frame number).ask q) < actors

-- whoever waits for a block, waits for a message of it that doesn't itself only wait
abbrev pub WaitersMove : (L : Type 0) → (actors mover pages blocks : ℕ) → World L → Type 0
WaitersMove L actors mover pages blocks w = (frame number q : ℕ) → number < blocks → q < actors → Moves L actors (w.block frame number) q

-- so does the mover that collects a block
abbrev pub CollectMoves : (L : Type 0) → (actors mover pages blocks : ℕ) → World L → Type 0
CollectMoves L actors mover pages blocks w = (page old new number : ℕ) → w.pages.job ≡ Collect page old new number → (number < blocks) × SomethingMoves L actors (w.block old number)

-- an event that may happen answers the flat memory of this very moment, and leaves it changed by its own store alone
abbrev pub EventsAnswered : (L : Type 0) → (actors mover pages blocks : ℕ) → World L → Type 0
EventsAnswered L actors mover pages blocks w = (event : Event L) → guard actors mover pages blocks event w → Answers w.pages.memory event × ((apply actors mover event w).pages.memory ≡ memory_after event w.pages.memory)

-- what the mover, a home or the mover's telling sends on the page layer, it sends into an empty place
pub record PagesSend (L : Type 0) (actors mover pages blocks : ℕ) (w : World L) : Type 0 where
  pub copy : (page old new number : ℕ) (line : L) → page_guard pages blocks (Copy_send page old new number line) w.pages → w.pages.command ≡ NoCommand
  pub clean : (frame : ℕ) → page_guard pages blocks (Clean_send frame) w.pages → w.pages.command ≡ NoCommand
  pub notice : (node page frame number : ℕ) → page_guard pages blocks (Notice_send node page frame number) w.pages → w.pages.notice frame ≡ NoNotice
  pub drop : (frame node : ℕ) → page_guard pages blocks (Drop_send_all frame) w.pages → w.pages.drop node ≡ NoDrop

-- what a bit of the sharers stands for is the same in every block, and no event changes it
abbrev pub SharingStays : (L : Type 0) → Type 0
SharingStays L = (actors mover : ℕ) (event : Event L) (w : World L) (frame number : ℕ) → ((apply actors mover event w).block frame number).sharing ≡ (w.block frame number).sharing

-- ---- laws

-- P holds in each world that events lead to
abbrev pub InEachWorld : (L : Type 0) → ((L : Type 0) → (actors mover pages blocks : ℕ) → World L → Type 0) → Type 0
InEachWorld L P = (actors mover pages blocks : ℕ) (w : World L) → Reached L actors mover pages blocks w → P L actors mover pages blocks w

-- P holds of the page layer in each such world
abbrev pub InEachPages : (L : Type 0) → ((L : Type 0) → (pages blocks : ℕ) → Pages L → Type 0) → Type 0
InEachPages L P = (actors mover pages blocks : ℕ) (w : World L) → Reached L actors mover pages blocks w → P L pages blocks w.pages

-- from a start on, the accesses of any events are a run of one flat memory
abbrev pub AccessesFlat : (L : Type 0) → Type 0
AccessesFlat L = (actors mover pages blocks : ℕ) (sharing : Sharing) (blank : L) (page_table : ℕ → ℕ) (role : ℕ → Role) (memory : ℕ → ℕ → L) (events : List (Event L)) (end : World L) → mover < actors → OwnBit sharing mover → Laid pages page_table role → Runs actors mover pages blocks (start sharing mover blank page_table role memory) events end → FlatRun memory events

-- and the flat memory at the end is what the stores in them have made of it
abbrev pub MemoryFollows : (L : Type 0) → Type 0
MemoryFollows L = (actors mover pages blocks : ℕ) (sharing : Sharing) (blank : L) (page_table : ℕ → ℕ) (role : ℕ → Role) (memory : ℕ → ℕ → L) (events : List (Event L)) (end : World L) → mover < actors → OwnBit sharing mover → Laid pages page_table role → Runs actors mover pages blocks (start sharing mover blank page_table role memory) events end → end.pages.memory ≡ memory_of events memory

-- the invariant holds at the start, and each event that may happen keeps it
abbrev pub Starts : (L : Type 0) → Type 0
Starts L = (actors mover pages blocks : ℕ) (sharing : Sharing) (blank : L) (page_table : ℕ → ℕ) (role : ℕ → Role) (memory : ℕ → ℕ → L) → mover < actors → OwnBit sharing mover → Laid pages page_table role → Invariant L actors mover pages blocks (start sharing mover blank page_table role memory)

abbrev pub IsKept : (L : Type 0) → Type 0
IsKept L = (actors mover pages blocks : ℕ) (w : World L) (event : Event L) → mover < actors → guard actors mover pages blocks event w → Invariant L actors mover pages blocks w → Invariant L actors mover pages blocks (apply actors mover event w)

-- events that go on from such a world lead to such a world
abbrev pub GoesOn : (L : Type 0) → Type 0
GoesOn L = (actors mover pages blocks : ℕ) (w end : World L) (events : List (Event L)) → Reached L actors mover pages blocks w → Runs actors mover pages blocks w events end → Reached L actors mover pages blocks end
