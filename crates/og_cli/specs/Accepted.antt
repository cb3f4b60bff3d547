-- What the command accepts: words, image and choices with which nothing is wrong.
use Rattle.std.specs.Prelude.{◌≡◌, ℕ, ◌≤◌, Bool, List, length, Option, None, IsSomeAnd}
use Rattle.og_base.specs.declared.NotEnabled.{NotEnabled}
use Rattle.og_base.specs.declared.Settings.{Settings}
use Rattle.og_io.specs.Outside.{Files, file_of}
use Rattle.og_image.specs.Storm.{storm_of}
use Rattle.og_trace.specs.Grammar.{IsFirstOutside}
use Rattle.og_words.specs.declared.job.Given.{Given}
use Rattle.og_headline.specs.Headline.{IsRefused}
use Rattle.og_load.specs.declared.choices.Choices.{Choices}
use Rattle.og_load.specs.Images.{program_fault}
use Rattle.og_load.specs.Choices.{feeds_of, IsChoices, HasOtherHead}
use Rattle.og_print.specs.Runs.{file_setup, frames_fault, image_fault}
use Rattle.og_print.specs.Files.{unplaced}

-- the shelf tells its files, and what the one of this name holds is such
abbrev pub Tells : Option Files → List ℕ → (List ℕ → Type 0) → Type 0
Tells files name P = IsSomeAnd files (λ fs. IsSomeAnd (file_of fs name) P)

-- an image that is run with these settings
abbrev pub IsAcceptedImage : (raw : Bool) → Settings → List ℕ → Type 0
IsAcceptedImage raw settings bytes = (length bytes ≤ 67108864) × (image_fault raw bytes settings ≡ None)

-- an image that is a program
abbrev pub IsAcceptedProgram : (raw : Bool) → List ℕ → Type 0
IsAcceptedProgram raw bytes = (length bytes ≤ 67108864) × (program_fault raw bytes ≡ None)

-- a text of choices that are made on the program in these bytes: it isn't too long, each of its lines is in the grammar, its head is none
-- that differs from the words, there are frames for the program, and each choice is enabled
pub record AreAcceptedChoices (raw : Bool) (bytes : List ℕ) (words : Settings) (given : Given) (text : List ℕ) : Type 0 where
  pub short : length text ≤ 536870912
  pub few : feeds_of text ≤ 16777216
  pub inside : (line : ℕ) → IsFirstOutside text line → ⊥
  pub same : HasOtherHead given text → ⊥
  pub placed : (loaded : Choices) → IsChoices words given text loaded → unplaced raw bytes loaded.settings ≡ None
  pub enabled : (loaded : Choices) (at : ℕ) (why : NotEnabled) → IsChoices words given text loaded → IsRefused (file_setup raw bytes loaded.settings) loaded.choices at why → ⊥

-- both files are told: a program, and choices that are made on it
abbrev pub AreAccepted : (raw : Bool) → (image choices : List ℕ) → Settings → Given → Option Files → Type 0
AreAccepted raw image choices words given files =
    Tells files image (λ bytes. IsAcceptedProgram raw bytes × Tells files choices (λ text. AreAcceptedChoices raw bytes words given text))

-- there are frames for the storm's program
abbrev pub IsAcceptedStorm : (number loops : ℕ) → Settings → Type 0
IsAcceptedStorm number loops settings = frames_fault (storm_of number loops settings.nodes) settings ≡ None
