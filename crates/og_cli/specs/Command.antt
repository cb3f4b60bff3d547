-- The command from its words to its answer.
use Rattle.std.specs.Prelude.{◌≡◌, ℕ, ◌⊎◌, List, [], Option, None, Some, IfSome}
use Rattle.og_base.specs.declared.Settings.{Settings}
use Rattle.og_base.specs.Settings.{settings_seen}
use Rattle.og_io.specs.Outside.{ShelfState, SinkState, Files, TellsLongFile, IsAsBefore}
use Rattle.og_words.specs.declared.job.Given.{Given}
use Rattle.og_words.specs.Words.{given_seen, JobState, simulate, run, replay, storm, assemble, disassemble}
use Rattle.og_load.specs.declared.image.ImageFault.TheVariants as fault
use Rattle.og_cli.specs.declared.exit.Exit.{Exit}
use Rattle.og_cli.specs.declared.exit.Exit.TheVariants as exit
use Rattle.og_cli.specs.declared.exit.WordsFile.TheVariants as file
use Rattle.og_cli.specs.declared.exit.SourceFault.TheVariants as source
use Rattle.og_cli.specs.Exit.{FileNames}
use Rattle.og_cli.specs.Runs.{Simulates, Replays, Storms}
use Rattle.og_cli.specs.Tools.{Assembles, Disassembles, HasSource, HasRawImage}
use Rattle.og_cli.specs.Accepted.{Tells, IsAcceptedImage, AreAccepted, IsAcceptedStorm}

-- ------------------------------------------------------------ what the answer's line may name

-- no file
abbrev pub no_names : FileNames
no_names = record { first = []; choices = [] }

-- the files that a job names
abbrev pub files_of : JobState → FileNames
files_of (simulate image raw settings draw events) = record { first = image; choices = [] }
files_of (run image raw settings rounds turns) = record { first = image; choices = [] }
files_of (replay image choices raw settings given) = record { first = image; choices = choices }
files_of (storm number settings loops events) = no_names
files_of (assemble source) = record { first = source; choices = [] }
files_of (disassemble image) = record { first = image; choices = [] }

-- the files of the words, of which this is the job
abbrev pub names_of : Option JobState → FileNames
names_of None = no_names
names_of (Some job) = files_of job

-- ------------------------------------------------------------ how the command ends

-- nothing was begun, and this is the answer
abbrev pub IsLeft : Exit → ShelfState → ShelfState → SinkState → SinkState → Exit → Type 0
IsLeft why shelf after old new answer = (answer ≡ why) × (new ≡ old) × (after ≡ shelf)

-- how a job is answered. A run in threads isn't begun, since who waits for nobody runs none; a storm reads no file
abbrev pub JobEnds : JobState → ShelfState → ShelfState → SinkState → SinkState → Exit → Type 0
JobEnds (simulate image raw settings draw events) shelf after old new answer = (s : Settings) × (settings_seen s ≡ settings) × Simulates raw image s draw events shelf after old new answer
JobEnds (run image raw settings rounds turns) shelf after old new answer = IsLeft exit.Words shelf after old new answer
JobEnds (replay image choices raw settings given) shelf after old new answer =
    (s : Settings) × (g : Given) × (settings_seen s ≡ settings) × (given_seen g ≡ given) × Replays raw image choices s g shelf after old new answer
JobEnds (storm number settings loops events) shelf after old new answer = (after ≡ shelf) × ((s : Settings) × (settings_seen s ≡ settings) × Storms number loops s events old new answer)
JobEnds (assemble source) shelf after old new answer = Assembles source shelf after old new answer
JobEnds (disassemble image) shelf after old new answer = Disassembles image shelf after old new answer

-- how the command ends: words that ask for nothing are answered just so; of words that ask for a job memory may be wanting before it stands
abbrev pub CommandEnds : Option JobState → ShelfState → ShelfState → SinkState → SinkState → Exit → Type 0
CommandEnds None shelf after old new answer = IsLeft exit.Words shelf after old new answer
CommandEnds (Some job) shelf after old new answer = IsLeft exit.Memory shelf after old new answer ⊎ JobEnds job shelf after old new answer

-- an image that is told to be too long is told so, or it couldn't be read
abbrev pub LongImageIsTold : List ℕ → Option Files → Exit → Type 0
LongImageIsTold name files answer = TellsLongFile files name 67108864 → (answer ≡ exit.ShelfFault file.First) ⊎ (answer ≡ exit.Image fault.TooLong)

-- and so of the file that a job names first
abbrev pub LongFileIsTold : JobState → Option Files → Exit → Type 0
LongFileIsTold (simulate image raw settings draw events) files answer = LongImageIsTold image files answer
LongFileIsTold (run image raw settings rounds turns) files answer = Unit {0}
LongFileIsTold (replay image choices raw settings given) files answer = LongImageIsTold image files answer
LongFileIsTold (storm number settings loops events) files answer = Unit {0}
LongFileIsTold (assemble name) files answer = TellsLongFile files name 16777216 → (answer ≡ exit.ShelfFault file.First) ⊎ (answer ≡ exit.Source source.TooLong)
LongFileIsTold (disassemble name) files answer = LongImageIsTold name files answer

-- ------------------------------------------------------------ a command that nothing hinders

-- the files of a job are there and are what the command takes
abbrev pub IsAccepted : JobState → Option Files → Type 0
IsAccepted (simulate image raw settings draw events) files = (s : Settings) → settings_seen s ≡ settings → Tells files image (IsAcceptedImage raw s)
IsAccepted (run image raw settings rounds turns) files = ⊥
IsAccepted (replay image choices raw settings given) files = (s : Settings) (g : Given) → settings_seen s ≡ settings → given_seen g ≡ given → AreAccepted raw image choices s g files
IsAccepted (storm number settings loops events) files = (s : Settings) → settings_seen s ≡ settings → IsAcceptedStorm number loops s
IsAccepted (assemble name) files = HasSource name files
IsAccepted (disassemble name) files = HasRawImage name files

-- all is accepted, no name was added to the failed ones, and the sink didn't fail
pub record IsUnhindered (job : JobState) (shelf after : ShelfState) (old new : SinkState) : Type 0 where
  pub accepted : IsAccepted job shelf.files
  pub read : after.failed ≡ shelf.failed
  pub written : IsAsBefore old.faults new.faults

-- a run ended quiet or at its limit
abbrev pub HasRun : Exit → Type 0
HasRun answer = (answer ≡ exit.Quiet) ⊎ (answer ≡ exit.Limit)

-- what was asked for was done
abbrev pub IsDone : JobState → Exit → Type 0
IsDone (assemble source) answer = answer ≡ exit.Done
IsDone (disassemble image) answer = answer ≡ exit.Done
IsDone other answer = HasRun answer

-- what nothing hinders is done, but for want of memory
abbrev pub EndsUnhindered : Option JobState → ShelfState → ShelfState → SinkState → SinkState → Exit → Type 0
EndsUnhindered asked shelf after old new answer = IfSome asked (λ job. IsUnhindered job shelf after old new → IsDone job answer ⊎ (answer ≡ exit.Memory))
