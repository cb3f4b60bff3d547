-- An event of the machine is one of the machine of functions: what is claimed of a processor's, of a home's and of the mover's.
use Rattle.std.specs.Prelude.{ℕ, List, ◌++◌}
use Rattle.og_line.specs.declared.Line.{Line}
use Rattle.og_image.specs.Image.{ImageState}
use Rattle.og_block.specs.State.{put}
use Rattle.og_whole.specs.Events.{World}
use Rattle.og_home.specs.Home.{Served}
use Rattle.og_processor.specs.State.{ProcessorState, Given}
use Rattle.og_mover.specs.Table.{Done}
use Rattle.og_relate.specs.Data.{Post, Cpu, HomeSide, Mover}
use Rattle.og_relate.specs.Sim.{Sim}
use Rattle.og_relate.specs.Goes.{Made, Makes, Goes}
use Rattle.og_relate.specs.Laws.{machine}
use Rattle.og_seen.specs.Numbers.{Sizes, setup_seen}
use Rattle.og_seen.specs.Messages.{letters_seen}
use Rattle.og_seen.specs.Harts.{Hart, harts_seen}
use Rattle.og_seen.specs.Processors.{cpu_seen, Notes}
use Rattle.og_seen.specs.Homes.{home_seen}
use Rattle.og_seen.specs.Movers.{mover_seen}

-- these processors, homes and mover, with these messages in flight, show a world
abbrev pub Shows : ImageState → Sizes → (ℕ → Cpu Line Hart) → (ℕ → HomeSide Line) → Mover Line → List (Post Line) → World Line → Type 0
Shows image s cpu home mover flight w = Sim (setup_seen s) (harts_seen image s) (machine cpu home mover flight) w

-- the processor x of node p does this, by rows of the theory; its access is noted
abbrev pub ProcessorGoes : ImageState → Sizes → (ℕ → Cpu Line Hart) → (ℕ → HomeSide Line) → Mover Line → List (Post Line) → World Line → (p : ℕ) → ProcessorState → Given → Type 0
ProcessorGoes image s cpu home mover rest w p x given =
    (made : List (Made Line))
    × Makes (setup_seen s) (harts_seen image s) (machine (put cpu p (cpu_seen s given.state)) home mover (rest ++ letters_seen s p given.letters)) w made
    × Notes image s x made given

-- the home of node p does this
abbrev pub HomeGoes : ImageState → Sizes → (ℕ → Cpu Line Hart) → (ℕ → HomeSide Line) → Mover Line → List (Post Line) → World Line → (p : ℕ) → Served → Type 0
HomeGoes image s cpu home mover rest w p served =
    Goes (setup_seen s) (harts_seen image s) (machine cpu (put home p (home_seen s served.home)) mover (rest ++ letters_seen s p served.letters)) w

-- the mover does this
abbrev pub MoverGoes : ImageState → Sizes → (ℕ → Cpu Line Hart) → (ℕ → HomeSide Line) → List (Post Line) → World Line → Done → Type 0
MoverGoes image s cpu home rest w done =
    Goes (setup_seen s) (harts_seen image s) (machine cpu home (mover_seen s done.mover) (rest ++ letters_seen s s.nodes done.letters)) w
