-- A printed text can be given to a replay: with the same image it prints the same text, with the same end.
use Rattle.std.specs.Prelude.{◌≡◌, ℕ, ◌<◌, ◌≤◌, ◌⊎◌, IsSomeAnd, Bool, None, Some, Result, Err, List, length}
use Rattle.og_base.specs.declared.Settings.{Settings}
use Rattle.og_io.specs.Outside.{ShelfState, SinkState, file_of}
use Rattle.og_load.specs.declared.choices.ChoiceFault.TheVariants as choice
use Rattle.og_load.specs.Choices.{feeds_of}
use Rattle.og_load.specs.Images.{FailedAt}
use Rattle.og_ranges.specs.Bytes.{AreBytes}
use Rattle.og_print.specs.declared.fault.RunFault.{RunFault}
use Rattle.og_print.specs.declared.fault.RunFault.TheVariants as fault
use Rattle.og_headline.specs.Headline.{IsPrinted}
use Rattle.og_print.specs.Runs.{Course, IsRunText, TextEnds, file_setup, image_fault}

-- any run of which the headline holds, wherever its choices come from
abbrev pub any_run : Course
any_run setup events quiet = IsPrinted setup events quiet

-- the text of a run of the program in these bytes, which ended quiet or not: the bytes are those of an image file, and the program was placed
pub record IsPrintedText (raw : Bool) (bytes : List ℕ) (settings : Settings) (text : List ℕ) (quiet : Bool) : Type 0 where
  pub are_bytes : AreBytes bytes
  pub short : length bytes ≤ 67108864
  pub placed : image_fault raw bytes settings ≡ None
  pub run : IsRunText (file_setup raw bytes settings) any_run text quiet

-- the files are told, and the one with this name has these bytes
abbrev pub TellsFile : ShelfState → List ℕ → List ℕ → Type 0
TellsFile shelf name bytes = IsSomeAnd shelf.files (λ files. file_of files name ≡ Some bytes)

-- a text with more bytes, or more line feeds, than a choices file may have
abbrev pub IsTooLong : List ℕ → Type 0
IsTooLong text = (536870912 < length text) ⊎ (16777216 < feeds_of text)

-- how the replay of a printed text ends: as the writing of just that text, with the same answer; or one of the files couldn't be read; or
-- the text is too long for a choices file
abbrev pub EndsAgain : (image choices text : List ℕ) → Bool → ShelfState → ShelfState → SinkState → SinkState → Result Bool RunFault → Type 0
EndsAgain image choices text quiet shelf after old new (Err fault.Unread) = FailedAt image shelf after × (new ≡ old)
EndsAgain image choices text quiet shelf after old new (Err fault.ChoicesUnread) = FailedAt choices shelf after × (new ≡ old)
EndsAgain image choices text quiet shelf after old new (Err (fault.Choices choice.TooLong)) = (after ≡ shelf) × (new ≡ old) × IsTooLong text
EndsAgain image choices text quiet shelf after old new result = (after ≡ shelf) × TextEnds text quiet old new result
