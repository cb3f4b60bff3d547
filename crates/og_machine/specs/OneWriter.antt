-- No block ever has two writable copies.
use Rattle.std.specs.Prelude.{◌≡◌, ◌≢◌, ◌⊎◌, ℕ, Option, None, Some, IsSome, slice_get}
use Rattle.og_base.specs.declared.Block.{Block}
use Rattle.og_base.specs.declared.VPage.{VPage}
use Rattle.og_line.specs.declared.Mode.{Mode}
use Rattle.og_line.specs.declared.Mode.TheVariants.{Clean, Dirty}
use Rattle.og_cache.specs.Cache.{mode_of}
use Rattle.og_runs.specs.declared.Seat.{Seat}
use Rattle.og_machine.specs.Machine.{ActorState, Node, Mover, Machine}
use Rattle.og_machine.specs.Held.{place}

-- the mode in which an actor has a block, if it is a node that has it
abbrev pub mode_at : ActorState → Block → Option Mode
mode_at (Node x) block = mode_of x.processor.cache block
mode_at (Mover m) block = None

-- the mode in which an actor of the machine has a block
abbrev pub mode_by : Option (Seat ActorState) → Block → Option Mode
mode_by None block = None
mode_by (Some x) block = mode_at x.local block

abbrev pub mode_in : Machine → (actor : ℕ) → Block → Option Mode
mode_in w actor block = mode_by (slice_get w.seats actor) block

-- a node that has a block clean or dirty is the only one that has it
abbrev pub OnlyCopy : Machine → Type 0
OnlyCopy w =
    (p q : ℕ) (block : Block)
    → (mode_in w p block ≡ Some Clean) ⊎ (mode_in w p block ≡ Some Dirty)
    → p ≢ q
    → mode_in w q block ≡ None

-- a node has a copy only of a block that some page has in its place
abbrev pub CopiesInPlace : Machine → Type 0
CopiesInPlace w =
    (p : ℕ) (block : Block)
    → IsSome (mode_in w p block)
    → (page : VPage) × (place w page block.number ≡ Some block.frame)

pub record OneWriter (w : Machine) : Type 0 where
  pub only_copy : OnlyCopy w
  pub in_place : CopiesInPlace w
