-- The choices of a choices file and the settings that they are made with, or the file's first fault.
use Rattle.std.specs.Prelude.{◌≡◌, ℕ, ◌≤◌, ◌⊎◌, nat_eq, nat_lt, not, ◌||◌, Bool, true, false, Option, None, Some, Result, Ok, Err, List, length, count_by}
use Rattle.og_base.specs.declared.Settings.{Settings}
use Rattle.og_runs.specs.declared.Choice.{Choice}
use Rattle.og_runs.specs.declared.Stamp.{Stamp}
use Rattle.og_msg.specs.declared.Note.{Note}
use Rattle.og_io.specs.Outside.{ShelfState, HasFile, HasLongFile}
use Rattle.og_trace.specs.Grammar.{IsRead, IsFirstOutside}
use Rattle.og_words.specs.declared.job.Given.{Given}
use Rattle.og_load.specs.declared.Unused.{Unused}
use Rattle.og_load.specs.declared.Unused.TheVariants.{Unread, Fault, Memory}
use Rattle.og_load.specs.declared.choices.ChoiceFault.{ChoiceFault}
use Rattle.og_load.specs.declared.choices.ChoiceFault.TheVariants as fault
use Rattle.og_load.specs.declared.choices.Choices.{Choices}
use Rattle.og_load.specs.Images.{FailedAt}

-- the line feeds of a text
abbrev pub feeds_of : List ℕ → ℕ
feeds_of bytes = count_by (λ b. nat_eq b 10) bytes

-- an option that the words give has another value than the head
abbrev pub gives_other : Option ℕ → ℕ → Bool
gives_other None value = false
gives_other (Some given) value = not (nat_eq given value)

abbrev pub gives_others : Given → Settings → Bool
gives_others g s =
    gives_other g.nodes s.nodes || gives_other g.frames s.frames || gives_other g.sets s.sets || gives_other g.ways s.ways || gives_other g.tlb s.tlb
    || gives_other g.instructions s.instructions || gives_other g.trigger s.trigger || gives_other g.sharing s.sharing || gives_other g.moves s.moves || gives_other g.reset s.reset

-- there is a head, and the words give another value
abbrev pub differs : Given → Option Settings → Bool
differs g None = false
differs g (Some head) = gives_others g head

-- the settings are those of the head; where there is none, those of the words
abbrev pub used : Settings → Option Settings → Settings
used words None = words
used words (Some head) = head

-- a text that is read: with this head, and these choices, which stand in these lines
pub record IsText (bytes : List ℕ) (head : Option Settings) (choices : List Choice) (lines : List ℕ) : Type 0 where
  pub notes : List (Stamp × Note)
  pub read : IsRead bytes head choices lines notes

-- the choices of a text, and the settings that they are made with
pub record IsChoices (words : Settings) (given : Given) (bytes : List ℕ) (loaded : Choices) : Type 0 where
  pub head : Option Settings
  pub text : IsText bytes head loaded.choices loaded.lines
  pub same : differs given head ≡ false
  pub settings : loaded.settings ≡ used words head

-- the text's head differs from what the words give
pub record HasOtherHead (given : Given) (bytes : List ℕ) : Type 0 where
  pub head : Option Settings
  pub choices : List Choice
  pub lines : List ℕ
  pub text : IsText bytes head choices lines
  pub other : differs given head ≡ true

-- what comes of reading the choices of these bytes: those of the text; that it has too many lines; its first line outside the grammar;
-- that its head differs from what the words give; or want of memory
abbrev pub ChoicesRead : Settings → Given → List ℕ → Result Choices (Unused ChoiceFault) → Type 0
ChoicesRead words given bytes (Ok loaded) = (feeds_of bytes ≤ 16777216) × IsChoices words given bytes loaded
ChoicesRead words given bytes (Err Unread) = ⊥
ChoicesRead words given bytes (Err (Fault fault.TooLong)) = nat_lt 16777216 (feeds_of bytes) ≡ true
ChoicesRead words given bytes (Err (Fault (fault.Grammar line))) = (feeds_of bytes ≤ 16777216) × IsFirstOutside bytes line
ChoicesRead words given bytes (Err (Fault fault.Settings)) = (feeds_of bytes ≤ 16777216) × HasOtherHead given bytes
ChoicesRead words given bytes (Err (Fault (fault.Refused line cause))) = ⊥
ChoicesRead words given bytes (Err Memory) = Unit {0}

-- the file was read, and this came of its bytes
abbrev pub ReadFrom : Settings → Given → List ℕ → ShelfState → Result Choices (Unused ChoiceFault) → Type 0
ReadFrom words given name shelf result = (bytes : List ℕ) × HasFile shelf.files name bytes × (length bytes ≤ 536870912) × ChoicesRead words given bytes result

-- what comes of loading the choices of a file: what comes of reading its bytes; that it has too many bytes; that it couldn't be read; or
-- want of memory
abbrev pub ChoicesLoad : Settings → Given → List ℕ → ShelfState → ShelfState → Result Choices (Unused ChoiceFault) → Type 0
ChoicesLoad words given name shelf after (Err Unread) = FailedAt name shelf after
ChoicesLoad words given name shelf after (Err (Fault fault.TooLong)) = (after ≡ shelf) × (HasLongFile shelf.files name 536870912 ⊎ ReadFrom words given name shelf (Err (Fault fault.TooLong)))
ChoicesLoad words given name shelf after (Err Memory) = after ≡ shelf
ChoicesLoad words given name shelf after result = (after ≡ shelf) × ReadFrom words given name shelf result
