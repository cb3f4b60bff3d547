-- The command from its words to its answer, a run in threads among them.
use Rattle.std.specs.Prelude.{◌≡◌, ℕ, ◌⊎◌, Option, Some, IfSome, List, [], drop}
use Rattle.og_base.specs.declared.Settings.{Settings}
use Rattle.og_base.specs.Settings.{settings_seen}
use Rattle.og_io.specs.Outside.{ShelfState, SinkState, Files, IsAsBefore}
use Rattle.og_words.specs.Words.{JobState, run, job_of}
use Rattle.og_cli.specs.declared.exit.Exit.{Exit}
use Rattle.og_cli.specs.declared.exit.Exit.TheVariants as exit
use Rattle.og_cli.specs.Exit.{status_of, error_line, IsReported}
use Rattle.og_cli.specs.Accepted.{Tells, IsAcceptedImage}
use Rattle.og_cli.specs.Command as alone
use Rattle.og_run.specs.Threaded.{RunsInThreads}

-- how the command ends: a run in threads as such; all else as where nothing is run in threads
abbrev pub CommandEnds : Option JobState → ShelfState → ShelfState → SinkState → SinkState → Exit → Type 0
CommandEnds (Some (run image raw settings rounds turns)) shelf after old new answer =
    alone.IsLeft exit.Memory shelf after old new answer ⊎ ((s : Settings) × (settings_seen s ≡ settings) × RunsInThreads raw image s rounds turns shelf after old new answer)
CommandEnds asked shelf after old new answer = alone.CommandEnds asked shelf after old new answer

-- ------------------------------------------------------------ a command that nothing hinders

-- the files of a job are there and are what the command takes
abbrev pub IsAccepted : JobState → Option Files → Type 0
IsAccepted (run image raw settings rounds turns) files = (s : Settings) → settings_seen s ≡ settings → Tells files image (IsAcceptedImage raw s)
IsAccepted job files = alone.IsAccepted job files

-- all is accepted, no name was added to the failed ones, and the sink didn't fail
pub record IsUnhindered (job : JobState) (shelf after : ShelfState) (old new : SinkState) : Type 0 where
  pub accepted : IsAccepted job shelf.files
  pub read : after.failed ≡ shelf.failed
  pub written : IsAsBefore old.faults new.faults

-- what nothing hinders is done, but for want of memory
abbrev pub EndsUnhindered : Option JobState → ShelfState → ShelfState → SinkState → SinkState → Exit → Type 0
EndsUnhindered asked shelf after old new answer = IfSome asked (λ job. IsUnhindered job shelf after old new → alone.IsDone job answer ⊎ (answer ≡ exit.Memory))

-- ------------------------------------------------------------ the status

-- the status is that of an answer with which the command ends, and of which the standard error tells
abbrev pub EndsWithStatus : Option JobState → ShelfState → ShelfState → SinkState → SinkState → SinkState → SinkState → ℕ → Type 0
EndsWithStatus asked shelf after old new err_before err_after status =
    (answer : Exit) × (status ≡ status_of answer) × CommandEnds asked shelf after old new answer × EndsUnhindered asked shelf after old new answer
    × IsReported (error_line (alone.names_of asked) answer) err_before err_after

-- ------------------------------------------------------------ the program

-- a program with these arguments, the first of them its name, ends with this status: it is that of the command on the
-- words after it, over files of which no fetch had failed, and streams that had no fault
abbrev pub ProgramEnds : List (List ℕ) → ℕ → Type 0
ProgramEnds arguments status =
    (shelf after : ShelfState) × (old new err_before err_after : SinkState) × (shelf.failed ≡ []) × (old.faults ≡ 0) × (err_before.faults ≡ 0)
    × EndsWithStatus (job_of (drop 1 arguments)) shelf after old new err_before err_after status
