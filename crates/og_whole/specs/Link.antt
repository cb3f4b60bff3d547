-- The invariant of the whole: the page layer's, each block's, and that the page layer sees of each block what there is.
use Rattle.std.specs.Prelude.{◌≡◌, ℕ, ◌<◌, Bool, true, false, not, ◌&&◌, nat_eq, ◌≢◌}
use Rattle.og_block.specs.State.{Block, Unowned}
use Rattle.og_block.specs.Invariant.{Invariant as BlockInvariant}
use Rattle.og_pages.specs.State.{State as Pages, Request, NoRequest, Outstanding, VictimSlot, NoVictim, VictimOf, Phase, Live, Role, Target}
use Rattle.og_pages.specs.Invariant.{Invariant as PagesInvariant}
use Rattle.og_whole.specs.Kind.{phase_of, is_idle, is_taken, has_copy}
use Rattle.og_block.specs.Roles.{Roles}
use Rattle.og_whole.specs.Events.{World}

abbrev pub asks_for : Request → (frame number : ℕ) → Bool
asks_for NoRequest frame number = false
asks_for (Outstanding page g j) frame number = nat_eq g frame && nat_eq j number

abbrev pub stands_for : VictimSlot → (frame number : ℕ) → Bool
stands_for NoVictim frame number = false
stands_for (VictimOf g j) frame number = nat_eq g frame && nat_eq j number

-- a block, and what the page layer has of it: its newest line, its phase, whose request is for it, whose victim slot holds
-- it, and who may have a copy
pub record Linked (L : Type 0) (actors mover : ℕ) (newest : L) (phase : Phase) (request victim cached : ℕ → Bool) (b : Block L) : Type 0 where
  -- the block keeps its own invariant, with the page layer's newest line as its memory cell
  pub invariant : BlockInvariant actors newest b
  -- the mover only poisons and copies, and a node never does
  pub parts : Roles actors mover b
  -- the mover's job knows the block's phase: so a move meets no block that another move has poisoned
  pub phase_is : phase_of mover b ≡ phase
  -- a node has something outstanding for the block exactly where its one request is for it: so no two blocks answer one node
  pub want_is : (q : ℕ) → q < actors → q ≢ mover → is_idle (b.want q) ≡ not (request q)
  -- a node's one victim slot holds the block exactly where the block says so: so a reclaim waits for the write-back
  pub slot_is : (q : ℕ) → q < actors → q ≢ mover → is_taken (b.victim q) ≡ victim q
  -- a copy is one of which the page layer knows: so it is at a holder, of a block that isn't dead
  pub copy_is : (q : ℕ) → q < actors → has_copy (b.copy q) ≡ true → cached q ≡ true

abbrev pub Link : {L : Type 0} → (actors mover : ℕ) → Pages L → Block L → (frame number : ℕ) → Type 0
Link {L} actors mover s b frame number = Linked L actors mover (s.newest frame number) (s.phase frame number) (λ q. asks_for (s.request q) frame number) (λ q. stands_for (s.victim q) frame number) (s.cached frame number) b

abbrev pub is_targeted : Role → Bool
is_targeted (Target page) = true
is_targeted role = false

-- a block that was copied into the target of a move is Unowned until the page is published: nobody can have asked for it
abbrev pub IsUntouched : {L : Type 0} → Pages L → Block L → (frame number : ℕ) → Type 0
IsUntouched s b frame number = is_targeted (s.role frame) ≡ true → s.phase frame number ≡ Live → b.entry ≡ Unowned

pub record Invariant (L : Type 0) (actors mover pages blocks : ℕ) (w : World L) : Type 0 where
  pub of_pages : PagesInvariant L pages blocks w.pages
  pub link : (frame number : ℕ) → number < blocks → Link actors mover w.pages (w.block frame number) frame number
  pub untouched : (frame number : ℕ) → number < blocks → IsUntouched w.pages (w.block frame number) frame number
