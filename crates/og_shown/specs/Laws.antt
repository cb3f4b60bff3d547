-- What is claimed of each machine that shows a world.
use Rattle.std.specs.Prelude.{◌≡◌, ◌≢◌, ℕ, ◌<◌, ◌≤◌, true, length}
use Rattle.og_block.specs.State.{NoCopy}
use Rattle.og_block.specs.Rows.{has_exclusive}
use Rattle.og_whole.specs.Kind.{has_copy}
use Rattle.og_whole.specs.Events.{World}
use Rattle.og_whole.specs.Messages.{key_count}
use Rattle.og_relate.specs.Data.{Unused, Machine, Harts, Setup}
use Rattle.og_relate.specs.Sim.{Sim}
use Rattle.og_shown.specs.Shown.{place_of, LineIs, IsUnnamed}

-- a node that has a block clean or dirty is the only one that has it
abbrev pub WritersAreAlone : (L H : Type 0) → Type 0
WritersAreAlone L H =
    (s : Setup) (harts : Harts L H) (m : Machine L H) (w : World L) (p q frame number : ℕ)
    → Sim s harts m w → p < s.nodes → q < s.nodes → p ≢ q → number < s.blocks
    → has_exclusive ((m.cpu p).cache frame number) ≡ true
    → (m.cpu q).cache frame number ≡ NoCopy

-- a node has a copy only of a block that some page has in its place
abbrev pub CopiesAreInPlace : (L H : Type 0) → Type 0
CopiesAreInPlace L H =
    (s : Setup) (harts : Harts L H) (m : Machine L H) (w : World L) (p frame number : ℕ)
    → Sim s harts m w → p < s.nodes → number < s.blocks
    → has_copy ((m.cpu p).cache frame number) ≡ true
    → (page : ℕ) × (page < s.pages) × (place_of m page number ≡ frame)

-- the line of each block of each page is the flat memory's, before, during and after every move
abbrev pub LinesAreHeld : (L H : Type 0) → Type 0
LinesAreHeld L H =
    (s : Setup) (harts : Harts L H) (m : Machine L H) (w : World L) (page number : ℕ)
    → Sim s harts m w → page < s.pages → number < s.blocks → place_of m page number < s.frames
    → LineIs s m (place_of m page number) number (w.pages.memory page number)

-- a free frame is named by nothing
abbrev pub FreeFramesAreUnnamed : (L H : Type 0) → Type 0
FreeFramesAreUnnamed L H =
    (s : Setup) (harts : Harts L H) (m : Machine L H) (w : World L) (frame : ℕ)
    → Sim s harts m w → m.mover.role frame ≡ Unused
    → IsUnnamed s m frame

-- at most so many messages are in flight
abbrev pub MessagesHaveRoom : (L H : Type 0) → Type 0
MessagesHaveRoom L H =
    (s : Setup) (harts : Harts L H) (m : Machine L H) (w : World L)
    → Sim s harts m w
    → length m.flight ≤ key_count s.nodes s.frames s.blocks
