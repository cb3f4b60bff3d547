-- How the command answers for a simulation, a replay and a storm. How each of them ends, what it reads and what it prints, is said in
-- `og_print`; here is the answer to each of these ends.
use Rattle.std.specs.Prelude.{◌≡◌, ℕ, Bool, true, false, List, Result, Ok, Err}
use Rattle.og_base.specs.declared.Settings.{Settings}
use Rattle.og_io.specs.Outside.{ShelfState, SinkState}
use Rattle.og_words.specs.declared.job.Given.{Given}
use Rattle.og_print.specs.declared.fault.RunFault.{RunFault}
use Rattle.og_print.specs.declared.fault.RunFault.TheVariants as fault
use Rattle.og_print.specs.Files.{SimulationEnds, ReplayEnds}
use Rattle.og_print.specs.Storm.{StormEnds}
use Rattle.og_cli.specs.declared.exit.Exit.{Exit}
use Rattle.og_cli.specs.declared.exit.Exit.TheVariants as exit
use Rattle.og_cli.specs.declared.exit.WordsFile.TheVariants as file

-- the answer to a run that ended so: whether it ended quiet, or why it wasn't printed
abbrev pub run_exit : Result Bool RunFault → Exit
run_exit (Ok true) = exit.Quiet
run_exit (Ok false) = exit.Limit
run_exit (Err fault.Unread) = exit.ShelfFault file.First
run_exit (Err fault.ChoicesUnread) = exit.ShelfFault file.Choices
run_exit (Err (fault.Image f)) = exit.Image f
run_exit (Err (fault.Choices f)) = exit.Choices f
run_exit (Err fault.Memory) = exit.Memory
run_exit (Err fault.Unwritten) = exit.SinkFault

-- a simulation of the program in the file with this name ended in some way, and this is the answer to it
abbrev pub Simulates : (raw : Bool) → List ℕ → Settings → (number most : ℕ) → ShelfState → ShelfState → SinkState → SinkState → Exit → Type 0
Simulates raw name settings number most shelf after old new answer =
    (ended : Result Bool RunFault) × SimulationEnds raw name settings number most shelf after old new ended × (answer ≡ run_exit ended)

-- a replay of the choices in one file on the program in another ended in some way, and this is the answer to it
abbrev pub Replays : (raw : Bool) → (image choices : List ℕ) → Settings → Given → ShelfState → ShelfState → SinkState → SinkState → Exit → Type 0
Replays raw image choices words given shelf after old new answer =
    (ended : Result Bool RunFault) × ReplayEnds raw image choices words given shelf after old new ended × (answer ≡ run_exit ended)

-- the storm of a number ended in some way, and this is the answer to it
abbrev pub Storms : (number loops : ℕ) → Settings → (most : ℕ) → SinkState → SinkState → Exit → Type 0
Storms number loops settings most old new answer = (ended : Result Bool RunFault) × StormEnds number loops settings most old new ended × (answer ≡ run_exit ended)
