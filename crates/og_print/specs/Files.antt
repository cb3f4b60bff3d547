-- How a simulation, a replay and any other run of the program in a file end: by what their files hold, and with what becomes of shelf and sink.
use Rattle.std.specs.Prelude.{◌≡◌, ℕ, ◌⊎◌, Bool, Option, None, Some, Result, Ok, Err, List, slice_get}
use Rattle.og_base.specs.declared.NotEnabled.{NotEnabled}
use Rattle.og_base.specs.declared.Settings.{Settings}
use Rattle.og_io.specs.Outside.{ShelfState, SinkState, HasLongFile}
use Rattle.og_words.specs.declared.job.Given.{Given}
use Rattle.og_headline.specs.Headline.{IsRefused}
use Rattle.og_load.specs.declared.Unused.{Unused}
use Rattle.og_load.specs.declared.Unused.TheVariants as unused
use Rattle.og_load.specs.declared.image.ImageFault.{ImageFault}
use Rattle.og_load.specs.declared.image.ImageFault.TheVariants as images
use Rattle.og_load.specs.declared.choices.Choices.{Choices}
use Rattle.og_load.specs.declared.choices.ChoiceFault.{ChoiceFault}
use Rattle.og_load.specs.declared.choices.ChoiceFault.TheVariants as choice
use Rattle.og_load.specs.Images.{FailedAt, IsImageFile, program_fault, file_image}
use Rattle.og_load.specs.Choices.{ReadFrom, ChoicesLoad}
use Rattle.og_print.specs.declared.fault.RunFault.{RunFault}
use Rattle.og_print.specs.declared.fault.RunFault.TheVariants as fault
use Rattle.og_runs.specs.declared.Choice.{Choice}
use Rattle.og_image.specs.Image.{ImageState}
use Rattle.og_machine.specs.Machine.{setup_of}
use Rattle.og_print.specs.Runs.{Course, file_setup, frames_fault, image_fault, by_draws, by_choices, RunEnds, PlayEnds}

-- ------------------------------------------------------------ a run of the program in a file

-- the file was read and its program placed, and the run ended so
abbrev pub FileRuns : (raw : Bool) → List ℕ → Settings → Course → ShelfState → SinkState → SinkState → Result Bool RunFault → Type 0
FileRuns raw name settings course shelf old new result =
    (bytes : List ℕ) × IsImageFile name shelf bytes × (image_fault raw bytes settings ≡ None) × RunEnds (file_setup raw bytes settings) course old new result

-- how such a run ends, whose choices come from the course
abbrev pub FileEnds : (raw : Bool) → List ℕ → Settings → Course → ShelfState → ShelfState → SinkState → SinkState → Result Bool RunFault → Type 0
FileEnds raw name settings course shelf after old new (Err fault.Unread) = FailedAt name shelf after × (new ≡ old)
FileEnds raw name settings course shelf after old new (Err fault.ChoicesUnread) = ⊥
FileEnds raw name settings course shelf after old new (Err (fault.Image images.TooLong)) = (after ≡ shelf) × (new ≡ old) × HasLongFile shelf.files name 67108864
FileEnds raw name settings course shelf after old new (Err (fault.Image f)) = (after ≡ shelf) × (new ≡ old) × ((bytes : List ℕ) × IsImageFile name shelf bytes × (image_fault raw bytes settings ≡ Some f))
FileEnds raw name settings course shelf after old new (Err (fault.Choices f)) = ⊥
FileEnds raw name settings course shelf after old new (Err fault.Memory) = (after ≡ shelf) × ((new ≡ old) ⊎ FileRuns raw name settings course shelf old new (Err fault.Memory))
FileEnds raw name settings course shelf after old new result = (after ≡ shelf) × FileRuns raw name settings course shelf old new result

-- how a simulation ends
abbrev pub SimulationEnds : (raw : Bool) → List ℕ → Settings → (number most : ℕ) → ShelfState → ShelfState → SinkState → SinkState → Result Bool RunFault → Type 0
SimulationEnds raw name settings number most shelf after old new result = FileEnds raw name settings (by_draws number most) shelf after old new result

-- ------------------------------------------------------------ a replay

-- how a run of given choices ends, which stand in these lines: as any run; or one of them isn't enabled
abbrev pub GivenEnds : ImageState → Settings → List Choice → (lines : List ℕ) → SinkState → SinkState → Result Bool RunFault → Type 0
GivenEnds picture settings choices lines old new (Err (fault.Choices (choice.Refused line cause))) =
    (new ≡ old) × (frames_fault picture settings ≡ None) × ((at : ℕ) × (slice_get lines at ≡ Some line) × IsRefused (setup_of picture settings) choices at cause)
GivenEnds picture settings choices lines old new result = PlayEnds picture settings (by_choices choices) old new result

-- the image file was read, and is a program
abbrev pub HasProgram : (raw : Bool) → List ℕ → ShelfState → List ℕ → Type 0
HasProgram raw name shelf bytes = IsImageFile name shelf bytes × (program_fault raw bytes ≡ None)

-- both files were read: the program, and the choices with their settings
pub record AreRead (raw : Bool) (image choices : List ℕ) (words : Settings) (given : Given) (shelf : ShelfState) : Type 0 where
  pub bytes : List ℕ
  pub program : HasProgram raw image shelf bytes
  pub loaded : Choices
  pub read : ReadFrom words given choices shelf (Ok loaded)

-- why the program isn't placed with these settings, none where it is
abbrev pub unplaced : (raw : Bool) → List ℕ → Settings → Option ImageFault
unplaced raw bytes settings = frames_fault (file_image raw bytes settings.nodes) settings

-- they were read and the program was placed, and the run of the choices ended so
pub record Replays (raw : Bool) (image choices : List ℕ) (words : Settings) (given : Given) (shelf : ShelfState) (old new : SinkState) (result : Result Bool RunFault) : Type 0 where
  pub files : AreRead raw image choices words given shelf
  pub placed : unplaced raw files.bytes files.loaded.settings ≡ None
  pub ended : RunEnds (file_setup raw files.bytes files.loaded.settings) (by_choices files.loaded.choices) old new result

-- they were read, and there are too few frames for the program
pub record LacksFrames (raw : Bool) (image choices : List ℕ) (words : Settings) (given : Given) (shelf : ShelfState) (f : ImageFault) : Type 0 where
  pub files : AreRead raw image choices words given shelf
  pub lacking : unplaced raw files.bytes files.loaded.settings ≡ Some f

-- they were read and the program was placed, and the choice in this line isn't enabled
pub record HasRefused (raw : Bool) (image choices : List ℕ) (words : Settings) (given : Given) (shelf : ShelfState) (line : ℕ) (cause : NotEnabled) : Type 0 where
  pub files : AreRead raw image choices words given shelf
  pub placed : unplaced raw files.bytes files.loaded.settings ≡ None
  pub at : ℕ
  pub in_line : slice_get files.loaded.lines at ≡ Some line
  pub refused : IsRefused (file_setup raw files.bytes files.loaded.settings) files.loaded.choices at cause

-- the image file was read, and is a program; but this came of the choices file
abbrev pub ChoicesFail : (raw : Bool) → (image choices : List ℕ) → Settings → Given → ShelfState → ShelfState → Unused ChoiceFault → Type 0
ChoicesFail raw image choices words given shelf after unused = ((bytes : List ℕ) × HasProgram raw image shelf bytes) × ChoicesLoad words given choices shelf after (Err unused)

-- how a replay ends. The image file is read first, then the choices file, then the program is placed, then the choices are made
abbrev pub ReplayEnds : (raw : Bool) → (image choices : List ℕ) → Settings → Given → ShelfState → ShelfState → SinkState → SinkState → Result Bool RunFault → Type 0
ReplayEnds raw image choices words given shelf after old new (Err fault.Unread) = FailedAt image shelf after × (new ≡ old)
ReplayEnds raw image choices words given shelf after old new (Err fault.ChoicesUnread) = (new ≡ old) × ChoicesFail raw image choices words given shelf after unused.Unread
ReplayEnds raw image choices words given shelf after old new (Err (fault.Image images.TooLong)) = (after ≡ shelf) × (new ≡ old) × HasLongFile shelf.files image 67108864
ReplayEnds raw image choices words given shelf after old new (Err (fault.Image (images.NoFrames need have))) = (after ≡ shelf) × (new ≡ old) × LacksFrames raw image choices words given shelf (images.NoFrames need have)
ReplayEnds raw image choices words given shelf after old new (Err (fault.Image f)) = (after ≡ shelf) × (new ≡ old) × ((bytes : List ℕ) × IsImageFile image shelf bytes × (program_fault raw bytes ≡ Some f))
ReplayEnds raw image choices words given shelf after old new (Err (fault.Choices (choice.Refused line cause))) = (after ≡ shelf) × (new ≡ old) × HasRefused raw image choices words given shelf line cause
ReplayEnds raw image choices words given shelf after old new (Err (fault.Choices f)) = (new ≡ old) × ChoicesFail raw image choices words given shelf after (unused.Fault f)
ReplayEnds raw image choices words given shelf after old new (Err fault.Memory) = (after ≡ shelf) × ((new ≡ old) ⊎ Replays raw image choices words given shelf old new (Err fault.Memory))
ReplayEnds raw image choices words given shelf after old new result = (after ≡ shelf) × Replays raw image choices words given shelf old new result
