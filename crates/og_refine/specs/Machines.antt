-- A machine of nodes and mover seen as a machine of functions, actor by actor.
use Rattle.std.specs.Prelude.{◌≡◌, ℕ, ◌+◌, ◌*◌, ◌<◌, ◌≤◌, Option, None, Some, List, length, map, slice_get}
use Rattle.og_line.specs.declared.Line.{Line}
use Rattle.og_line.specs.Line.{zero_line}
use Rattle.og_runs.specs.declared.Seat.{Seat}
use Rattle.og_elf.specs.Segment.{IsLoadable}
use Rattle.og_image.specs.Image.{ImageState}
use Rattle.og_image.specs.Layout.{layout_of}
use Rattle.rv_hart.specs.Hart.{start_of}
use Rattle.og_node.specs.Node.{NodeState}
use Rattle.og_mover.specs.Table.{MoverState}
use Rattle.og_machine.specs.Machine.{Setup, ActorState, Node, Mover, Machine}
use Rattle.og_relate.specs.Data.{Post, Cpu, HomeSide, Mover as SeenMover, Unused}
use Rattle.og_relate.specs.Begin.{cpu_start, home_start, mover_start}
use Rattle.og_seen.specs.Numbers.{Sizes}
use Rattle.og_seen.specs.Messages.{post_seen}
use Rattle.og_seen.specs.Harts.{Hart}
use Rattle.og_seen.specs.Processors.{cpu_seen}
use Rattle.og_seen.specs.Homes.{home_seen}
use Rattle.og_seen.specs.Movers.{mover_seen}
use Rattle.og_seen.specs.Sound.{IsProcessorOf, IsHomeOf, IsMoverOf}

abbrev pub sizes_of : Setup → Sizes
sizes_of setup = record { nodes = setup.settings.nodes; frames = setup.settings.frames; pages = setup.layout.pages }

-- ---- where no such actor sits, what does nothing

abbrev pub no_cpu : Cpu Line Hart
no_cpu = cpu_start (record { state = start_of 0 0 0 0 0; reserved = None })

abbrev pub no_home : HomeSide Line
no_home = home_start (λ f k. zero_line)

abbrev pub no_mover : SeenMover Line
no_mover = mover_start (λ y. 0) (λ f. Unused)

abbrev pub cpu_of : Sizes → ActorState → Cpu Line Hart
cpu_of s (Node x) = cpu_seen s x.processor
cpu_of s (Mover m) = no_cpu

abbrev pub home_of : Sizes → ActorState → HomeSide Line
home_of s (Node x) = home_seen s x.home
home_of s (Mover m) = no_home

abbrev pub mover_of : Sizes → ActorState → SeenMover Line
mover_of s (Node x) = no_mover
mover_of s (Mover m) = mover_seen s m

abbrev pub cpu_in : Sizes → Option (Seat ActorState) → Cpu Line Hart
cpu_in s None = no_cpu
cpu_in s (Some seat) = cpu_of s seat.local

abbrev pub home_in : Sizes → Option (Seat ActorState) → HomeSide Line
home_in s None = no_home
home_in s (Some seat) = home_of s seat.local

abbrev pub mover_in : Sizes → Option (Seat ActorState) → SeenMover Line
mover_in s None = no_mover
mover_in s (Some seat) = mover_of s seat.local

-- ---- all of a machine

abbrev pub cpus : Sizes → Machine → ℕ → Cpu Line Hart
cpus s w q = cpu_in s (slice_get w.seats q)

abbrev pub homes : Sizes → Machine → ℕ → HomeSide Line
homes s w q = home_in s (slice_get w.seats q)

abbrev pub mover_at : Sizes → Machine → SeenMover Line
mover_at s w = mover_in s (slice_get w.seats s.nodes)

abbrev pub posts : Sizes → Machine → List (Post Line)
posts s w = map (post_seen s) w.flight

-- ---- who sits where

abbrev pub IsNodeAt : ImageState → Sizes → Machine → ℕ → NodeState → Type 0
IsNodeAt image s w q x = (seat : Seat ActorState) × (slice_get w.seats q ≡ Some seat) × (seat.local ≡ Node x) × IsProcessorOf image s x.processor × IsHomeOf s q x.home

abbrev pub IsMoverAt : Sizes → Machine → MoverState → Type 0
IsMoverAt s w m = (seat : Seat ActorState) × (slice_get w.seats s.nodes ≡ Some seat) × (seat.local ≡ Mover m) × IsMoverOf s m

-- nodes, and behind them the mover
pub record AreActors (image : ImageState) (s : Sizes) (w : Machine) : Type 0 where
  pub count : length w.seats ≡ s.nodes + 1
  pub nodes : (q : ℕ) → q < s.nodes → (x : NodeState) × IsNodeAt image s w q x
  pub mover : (m : MoverState) × IsMoverAt s w m

-- the program may be loaded, its pages stand where the layout puts them, and the sizes are those of a machine that has frames for all
pub record IsRunnable (setup : Setup) : Type 0 where
  pub loadable : IsLoadable setup.image.entry setup.image.segments
  pub layout : setup.layout ≡ layout_of setup.image
  pub nodes : setup.image.nodes ≡ setup.settings.nodes
  pub some_nodes : 1 ≤ setup.settings.nodes
  pub few_nodes : setup.settings.nodes ≤ 128
  pub some_frames : 1 ≤ setup.settings.frames
  pub few_frames : setup.settings.frames ≤ 1024
  pub some_sets : 1 ≤ setup.settings.sets
  pub some_ways : 1 ≤ setup.settings.ways
  pub some_entries : 1 ≤ setup.settings.tlb
  pub room : length setup.layout.pages ≤ setup.settings.nodes * setup.settings.frames
