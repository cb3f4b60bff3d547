-- Which run is printed, and how its printing ends.
use Rattle.std.specs.Prelude.{◌≡◌, ℕ, ◌*◌, ◌⊎◌, nat_lt, Bool, Option, None, Some, Result, Ok, Err, List, length, if◌then◌else◌}
use Rattle.std.specs.Option.{option_or}
use Rattle.og_base.specs.declared.Settings.{Settings}
use Rattle.og_base.specs.Settings.{settings_seen}
use Rattle.og_runs.specs.declared.Choice.{Choice}
use Rattle.og_runs.specs.declared.Event.{Event}
use Rattle.og_msg.specs.declared.Note.{Note}
use Rattle.og_image.specs.Image.{ImageState}
use Rattle.og_image.specs.Layout.{pages_of}
use Rattle.og_io.specs.Outside.{SinkState}
use Rattle.og_io.specs.Sinks.{with_appended, CutByFault, CutByWant}
use Rattle.og_trace.specs.Text.{text_with, head_seen}
use Rattle.og_machine.specs.Machine.{Setup, setup_of}
use Rattle.og_headline.specs.Headline.{IsSimulation, IsReplay}
use Rattle.og_load.specs.declared.Unused.{Unused}
use Rattle.og_load.specs.declared.Unused.TheVariants as unused
use Rattle.og_load.specs.declared.image.ImageFault.{ImageFault}
use Rattle.og_load.specs.declared.image.ImageFault.TheVariants.{NoFrames}
use Rattle.og_load.specs.declared.choices.ChoiceFault.{ChoiceFault}
use Rattle.og_load.specs.Images.{program_fault, file_image}
use Rattle.og_print.specs.declared.fault.RunFault.{RunFault}
use Rattle.og_print.specs.declared.fault.RunFault.TheVariants as fault

abbrev pub image_unused : Unused ImageFault → RunFault
image_unused unused.Unread = fault.Unread
image_unused (unused.Fault f) = fault.Image f
image_unused unused.Memory = fault.Memory

abbrev pub choices_unused : Unused ChoiceFault → RunFault
choices_unused unused.Unread = fault.ChoicesUnread
choices_unused (unused.Fault f) = fault.Choices f
choices_unused unused.Memory = fault.Memory

-- ------------------------------------------------------------ the machine of a file

-- the setup of the program in these bytes
abbrev pub file_setup : (raw : Bool) → List ℕ → Settings → Setup
file_setup raw bytes settings = setup_of (file_image raw bytes settings.nodes) settings

-- there are too few frames for the pages of an image
abbrev pub frames_fault : ImageState → Settings → Option ImageFault
frames_fault image settings =
    if nat_lt (settings.nodes * settings.frames) (length (pages_of image)) then Some (NoFrames (length (pages_of image)) (settings.nodes * settings.frames)) else None

-- why an image isn't run, of which the bytes are read: the first in order, none where it is
abbrev pub image_fault : (raw : Bool) → List ℕ → Settings → Option ImageFault
image_fault raw bytes settings = option_or (program_fault raw bytes) (frames_fault (file_image raw bytes settings.nodes) settings)

-- ------------------------------------------------------------ which run

-- where the choices of a run come from: which runs, with which events and whether they end quiet, are such
abbrev pub Course : Type 1
Course = Setup → List (Event Note) → Bool → Type 0

-- they are drawn from a number, for so many events at most
abbrev pub by_draws : (number most : ℕ) → Course
by_draws number most setup events quiet = IsSimulation setup number most events quiet

-- they are given
abbrev pub by_choices : List Choice → Course
by_choices choices setup events quiet = IsReplay setup choices events quiet

-- the text of a run of this course
pub record IsRunText (setup : Setup) (course : Course) (text : List ℕ) (quiet : Bool) : Type 0 where
  pub events : List (Event Note)
  pub run : course setup events quiet
  pub text_is : text ≡ text_with (head_seen (settings_seen setup.settings)) events quiet

-- ------------------------------------------------------------ printing

-- how the writing of a text ends: it was appended; a part of it, and the sink's count of faults rose; or want of memory, of which the
-- sink's count tells where a part was appended
abbrev pub TextEnds : List ℕ → Bool → SinkState → SinkState → Result Bool RunFault → Type 0
TextEnds text quiet old new (Ok answer) = (answer ≡ quiet) × (new ≡ with_appended old text)
TextEnds text quiet old new (Err fault.Unwritten) = CutByFault text old new
TextEnds text quiet old new (Err fault.Memory) = (new ≡ old) ⊎ CutByWant text old new
TextEnds text quiet old new other = ⊥

-- how a run ends whose machine was placed: as the writing of its text, or for want of memory before it
abbrev pub RunEnds : Setup → Course → SinkState → SinkState → Result Bool RunFault → Type 0
RunEnds setup course old new (Err fault.Memory) = (new ≡ old) ⊎ ((text : List ℕ) × (quiet : Bool) × IsRunText setup course text quiet × CutByWant text old new)
RunEnds setup course old new result = (text : List ℕ) × (quiet : Bool) × IsRunText setup course text quiet × TextEnds text quiet old new result

-- how a run of an image ends: with too few frames for its program; or, where there are enough, as the run; or for want of memory
abbrev pub PlayEnds : ImageState → Settings → Course → SinkState → SinkState → Result Bool RunFault → Type 0
PlayEnds image settings course old new (Err fault.Unread) = ⊥
PlayEnds image settings course old new (Err fault.ChoicesUnread) = ⊥
PlayEnds image settings course old new (Err (fault.Choices f)) = ⊥
PlayEnds image settings course old new (Err (fault.Image f)) = (new ≡ old) × (frames_fault image settings ≡ Some f)
PlayEnds image settings course old new (Err fault.Memory) = (new ≡ old) ⊎ ((frames_fault image settings ≡ None) × RunEnds (setup_of image settings) course old new (Err fault.Memory))
PlayEnds image settings course old new result = (frames_fault image settings ≡ None) × RunEnds (setup_of image settings) course old new result
