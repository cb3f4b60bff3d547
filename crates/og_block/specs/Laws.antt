-- What is claimed of one block, and of many, in every run from the start: whatever rows are taken, in any order in which
-- they may be taken, by any number of actors, with one node for a bit of the sharers or a group.
use Rattle.std.specs.Prelude.{◌≡◌, ℕ, ◌<◌, true, false, List}
use Rattle.og_block.specs.State.{Sharing, Block, start}
use Rattle.og_block.specs.Rows.{Row, guard, apply, actor_of}
use Rattle.og_block.specs.Access.{FlatRun, flat_after, flat_end}
use Rattle.og_block.specs.Invariant.{Invariant}
use Rattle.og_block.specs.Slots.{writes, takes, is_in}
use Rattle.og_block.specs.Moves.{Moves}
use Rattle.og_block.specs.Held.{Held}
use Rattle.og_block.specs.Message.{Message, Stands, Served, DistinctCharges}
use Rattle.og_block.specs.Balance.{Balanced, Finds_ready, due}
use Rattle.og_block.specs.Races.{Races}
use Rattle.og_block.specs.Roles.{OwnBit, Plays}
use Rattle.og_block.specs.Run.{Step, Reaches, OneWriter, Runs_all, FlatRun_all, flat_end_all}

-- the accesses, in the order in which they were completed, are a run of one memory cell
abbrev pub AccessesAreFlat : (L : Type 0) → Type 0
AccessesAreFlat L = (n : ℕ) (sharing : Sharing) (memory : L) (rows : List (Row L)) (b : Block L) → Reaches n sharing memory rows b → FlatRun memory rows

-- a copy that may be written excludes every other copy
abbrev pub WriterIsAlone : (L : Type 0) → Type 0
WriterIsAlone L = (n : ℕ) (sharing : Sharing) (memory : L) (rows : List (Row L)) (b : Block L) → Reaches n sharing memory rows b → OneWriter n b

-- the line that is held is the cell's, at each moment
abbrev pub HeldIsFlat : (L : Type 0) → Type 0
HeldIsFlat L = (n : ℕ) (sharing : Sharing) (memory : L) (rows : List (Row L)) (b : Block L) → Reaches n sharing memory rows b → Held n (flat_end memory rows) b

-- the invariant holds at the start, each row keeps it, and so it holds at the end of each run
abbrev pub InvariantStarts : (L : Type 0) → Type 0
InvariantStarts L = (n : ℕ) (sharing : Sharing) (memory : L) → Invariant n memory (start sharing memory)

abbrev pub InvariantKept : (L : Type 0) → Type 0
InvariantKept L = (n : ℕ) (cell : L) (b : Block L) (row : Row L) → guard row b → actor_of row < n → Invariant n cell b → Invariant n (flat_after row cell) (apply n row b)

abbrev pub InvariantHolds : (L : Type 0) → Type 0
InvariantHolds L = (n : ℕ) (sharing : Sharing) (memory : L) (rows : List (Row L)) (b : Block L) → Reaches n sharing memory rows b → Invariant n (flat_end memory rows) b

-- a row changes no slot but those that it writes
abbrev pub RowsLeaveOthers : (L : Type 0) → Type 0
RowsLeaveOthers L = (n : ℕ) (b : Block L) (row : Row L) (m : Message L) → is_in (writes row) m ≡ false → Stands n b m → Stands n (apply n row b) m

-- what it sends, it sends into a slot that is empty, or from which it takes
abbrev pub RowsSendIntoEmpty : (L : Type 0) → Type 0
RowsSendIntoEmpty L = (n : ℕ) (cell : L) (b : Block L) (row : Row L) (m : Message L) → Invariant n cell b → guard row b → actor_of row < n → is_in (writes row) m ≡ true → is_in (takes row) m ≡ false → ¬ Stands n b m

-- so each message that stands, stands after it, but those that it takes
abbrev pub OthersStay : (L : Type 0) → Type 0
OthersStay L = (n : ℕ) (cell : L) (b : Block L) (row : Row L) (m : Message L) → Invariant n cell b → guard row b → actor_of row < n → is_in (takes row) m ≡ false → Stands n b m → Stands n (apply n row b) m

-- what a bit of the sharers stands for never changes
abbrev pub SharingStays : (L : Type 0) → Type 0
SharingStays L = (n : ℕ) (row : Row L) (b : Block L) → (apply n row b).sharing ≡ b.sharing

-- a reply names fewer acknowledgements than there are actors
abbrev pub RepliesBounded : (L : Type 0) → Type 0
RepliesBounded L = (n : ℕ) (sharing : Sharing) (memory : L) (rows : List (Row L)) (b : Block L) → Reaches n sharing memory rows b → (q : ℕ) → q < n → due (b.ask q) < n

-- where an actor has something outstanding, or a victim, a message of the block stands that doesn't only wait
abbrev pub WaitersMove : (L : Type 0) → Type 0
WaitersMove L = (n : ℕ) (sharing : Sharing) (memory : L) (rows : List (Row L)) (b : Block L) → Reaches n sharing memory rows b → (q : ℕ) → q < n → Moves L n b q

-- messages that stand at one moment have different keys
abbrev pub ChargesDiffer : (L : Type 0) → Type 0
ChargesDiffer L = (n : ℕ) (sharing : Sharing) (memory : L) (rows : List (Row L)) (b : Block L) → Reaches n sharing memory rows b → DistinctCharges n b

-- replies, acknowledgements, victim slots and interventions balance
abbrev pub MessagesBalance : (L : Type 0) → Type 0
MessagesBalance L = (n : ℕ) (sharing : Sharing) (memory : L) (rows : List (Row L)) (b : Block L) → Reaches n sharing memory rows b → (q : ℕ) → q < n → Balanced n b q

-- each message finds what its table's row asks for
abbrev pub MessagesFindReady : (L : Type 0) → Type 0
MessagesFindReady L = (n : ℕ) (sharing : Sharing) (memory : L) (rows : List (Row L)) (b : Block L) → Reaches n sharing memory rows b → (q : ℕ) → q < n → Finds_ready n b q

-- while a block is between two states, the races stand as the tables' rows suppose
abbrev pub RacesStand : (L : Type 0) → Type 0
RacesStand L = (n : ℕ) (sharing : Sharing) (memory : L) (rows : List (Row L)) (b : Block L) → Reaches n sharing memory rows b → Races n (flat_end memory rows) b

-- no message is ever met without a row, where one actor m is the mover and the others are nodes
abbrev pub MessagesAreServed : (L : Type 0) → Type 0
MessagesAreServed L = (n m : ℕ) (sharing : Sharing) (memory : L) (rows : List (Row L)) (b : Block L) → m < n → OwnBit sharing m → Plays n m (start sharing memory) rows b → Served n b

-- many blocks: the accesses are a run of a memory with a cell for each block
abbrev pub AllAccessesAreFlat : (L : Type 0) → Type 0
AllAccessesAreFlat L = (n : ℕ) (sharing : Sharing) (memory : ℕ → L) (steps : List (Step L)) (b : ℕ → Block L) → Runs_all n (λ k. start sharing (memory k)) steps b → FlatRun_all memory steps

-- and in each block the writer is alone, and the line that is held is the cell's
abbrev pub AllAreHeld : (L : Type 0) → Type 0
AllAreHeld L = (n : ℕ) (sharing : Sharing) (memory : ℕ → L) (steps : List (Step L)) (b : ℕ → Block L) → Runs_all n (λ k. start sharing (memory k)) steps b → (k : ℕ) → OneWriter n (b k) × Held n (flat_end_all memory steps k) (b k)
