-- Which run is printed that began in threads, and how the command answers for it.
use Rattle.std.specs.Prelude.{◌≡◌, ℕ, ◌*◌, Bool, List, length, Result}
use Rattle.og_base.specs.declared.Settings.{Settings}
use Rattle.og_runs.specs.declared.Event.{Event}
use Rattle.og_runs.specs.declared.Log.{Log}
use Rattle.og_runs.specs.declared.Msg.{Msg}
use Rattle.og_runs.specs.Runs.{joined, IsSorted}
use Rattle.og_runs.specs.World.{events_of}
use Rattle.og_msg.specs.declared.Kind.{Kind}
use Rattle.og_msg.specs.declared.Note.{Note}
use Rattle.og_io.specs.Outside.{ShelfState, SinkState}
use Rattle.og_machine.specs.Machine.{Setup}
use Rattle.og_actors.specs.declared.rounds.Rounds.{Rounds}
use Rattle.og_actors.specs.Rounds.{Counted}
use Rattle.og_threads.specs.Threads.{actors_of, AreLogsOf, IsRunOfAll}
use Rattle.og_finish.specs.Finish.{IsThreadRun}
use Rattle.og_print.specs.declared.fault.RunFault.{RunFault}
use Rattle.og_print.specs.Runs.{Course}
use Rattle.og_print.specs.Files.{FileEnds}
use Rattle.og_cli.specs.declared.exit.Exit.{Exit}
use Rattle.og_cli.specs.Runs.{run_exit}

-- how many turns all actors make in so many rounds, each of so many turns of each actor
abbrev pub turns_of_all : Setup → (rounds turns : ℕ) → ℕ
turns_of_all setup rounds turns = rounds * turns * actors_of setup

-- the run began with what the actors noted in threads, in so many rounds of so many turns each
pub record IsThreaded (setup : Setup) (rounds turns : ℕ) (events : List (Event Note)) (quiet : Bool) : Type 0 where
  -- the actors' logs, each by the rules from the actor's start, consistent with one another; and what nobody took
  pub logs : List (Log Note)
  pub left : List (Msg Kind)
  pub are_logs : AreLogsOf setup logs left
  -- their events by stamp, which are a run of the machine
  pub merged : List (Event Note)
  pub are_merged : IsSorted (joined (events_of logs)) merged
  -- why the rounds ended, and how many events and idle turns were made
  pub ended : Rounds
  pub run : IsRunOfAll setup ended merged left
  pub counted : Counted (turns_of_all setup rounds turns) ended (length merged)
  -- the run that begins with them, with as many events at most as turns before its drain
  pub finished : IsThreadRun setup (turns_of_all setup rounds turns) merged events quiet

-- the choices come from threads
abbrev pub by_threads : (rounds turns : ℕ) → Course
by_threads rounds turns setup events quiet = IsThreaded setup rounds turns events quiet

-- a run in threads of the program in the file with this name ended in some way, and this is the answer to it
abbrev pub RunsInThreads : (raw : Bool) → List ℕ → Settings → (rounds turns : ℕ) → ShelfState → ShelfState → SinkState → SinkState → Exit → Type 0
RunsInThreads raw name settings rounds turns shelf after old new answer =
    (ended : Result Bool RunFault) × FileEnds raw name settings (by_threads rounds turns) shelf after old new ended × (answer ≡ run_exit ended)
