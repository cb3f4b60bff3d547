-- What a replay makes of the choices of a printed run, and of its text.
use Rattle.std.specs.Prelude.{◌≡◌, ◌<◌, ◌^◌, ℕ, Bool, false, Option, Some, Result, Ok, List, length}
use Rattle.og_base.specs.declared.Settings.{Settings}
use Rattle.og_runs.specs.declared.Choice.{Choice}
use Rattle.og_runs.specs.declared.Event.{Event}
use Rattle.og_runs.specs.declared.Stamp.{Stamp}
use Rattle.og_runs.specs.Runs.{choices}
use Rattle.og_msg.specs.declared.Note.{Note}
use Rattle.og_io.specs.Outside.{ShelfState, SinkState}
use Rattle.og_io.specs.Sinks.{with_appended}
use Rattle.og_trace.specs.Grammar.{IsRead, IsFirstOutside, stamped_notes}
use Rattle.og_words.specs.declared.job.Given.{Given}
use Rattle.og_machine.specs.Machine.{Setup}
use Rattle.og_headline.specs.Headline.{IsPrinted, IsReplay}
use Rattle.og_load.specs.Choices.{differs}
use Rattle.og_print.specs.declared.fault.RunFault.{RunFault}
use Rattle.og_print.specs.Files.{SimulationEnds, ReplayEnds}
use Rattle.og_ranges.specs.Bytes.{AreBytes}
use Rattle.og_again.specs.Again.{IsPrintedText, TellsFile, EndsAgain}

-- a printed run is the replay of its own choices
abbrev pub RunsReplay : Type 0
RunsReplay = (setup : Setup) (events : List (Event Note)) (quiet : Bool) → IsPrinted setup events quiet → IsReplay setup (choices events) events quiet

-- and no other run is
abbrev pub ReplaysAreUnique : Type 0
ReplaysAreUnique =
    (setup : Setup) (given : List Choice) (events others : List (Event Note)) (quiet end : Bool)
    → IsReplay setup given events quiet → IsReplay setup given others end
    → (others ≡ events) × (end ≡ quiet)

-- what is read of a printed text is its run: the settings, the choices, and the notes with their stamps; and no line of it is outside the grammar
pub record IsReadSo (text : List ℕ) (settings : Settings) (events : List (Event Note)) : Type 0 where
  pub read : (head : Option Settings) (cs : List Choice) (lines : List ℕ) (notes : List (Stamp × Note)) → IsRead text head cs lines notes
      → (head ≡ Some settings) × (cs ≡ choices events) × (notes ≡ stamped_notes events)
  pub inside : (line : ℕ) → IsFirstOutside text line → ⊥

abbrev pub TextsAreRead : Type 0
TextsAreRead =
    (raw : Bool) (bytes : List ℕ) (settings : Settings) (text : List ℕ) (quiet : Bool)
    (printed : IsPrintedText raw bytes settings text quiet) → length text < 2 ^ 63
    → IsReadSo text settings printed.run.events

-- what a simulation writes is a printed text
abbrev pub SimulationsPrintTexts : Type 0
SimulationsPrintTexts =
    (raw : Bool) (name bytes : List ℕ) (settings : Settings) (number most : ℕ) (shelf after : ShelfState) (old new : SinkState) (quiet : Bool)
    → TellsFile shelf name bytes → AreBytes bytes
    → SimulationEnds raw name settings number most shelf after old new (Ok quiet)
    → (text : List ℕ) × (new ≡ with_appended old text) × IsPrintedText raw bytes settings text quiet

-- a replay of a printed text, with the image that it was printed of and with words that give no other settings, ends as the writing of this
-- text: it is never answered that a line is outside the grammar, that settings differ, or that a choice is refused
abbrev pub TextsReplay : Type 0
TextsReplay =
    (raw : Bool) (bytes : List ℕ) (settings : Settings) (text : List ℕ) (quiet : Bool)
    (image choices : List ℕ) (words : Settings) (given : Given) (shelf after : ShelfState) (old new : SinkState) (result : Result Bool RunFault)
    → IsPrintedText raw bytes settings text quiet
    → TellsFile shelf image bytes → TellsFile shelf choices text → differs given (Some settings) ≡ false
    → ReplayEnds raw image choices words given shelf after old new result
    → EndsAgain image choices text quiet shelf after old new result
