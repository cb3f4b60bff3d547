-- How the command ends, and what is told of it: the status of the process, and one line on the standard error.
use Rattle.std.specs.Prelude.{◌≡◌, ◌⊎◌, ℕ, List, [], ◌∷◌, ◌++◌, codes, decimal}
use Rattle.og_base.specs.declared.NotEnabled.{NotEnabled}
use Rattle.og_base.specs.declared.NotEnabled.TheVariants as refused
use Rattle.og_elf.specs.declared.fault.ElfCause.{ElfCause}
use Rattle.og_elf.specs.declared.fault.ElfCause.TheVariants as cause
use Rattle.og_io.specs.Outside.{SinkState}
use Rattle.og_io.specs.Sinks.{with_appended, CutByFault, CutByWant}
use Rattle.og_load.specs.declared.image.ImageFault.{ImageFault}
use Rattle.og_load.specs.declared.image.ImageFault.TheVariants as fault
use Rattle.og_load.specs.declared.choices.ChoiceFault.{ChoiceFault}
use Rattle.og_load.specs.declared.choices.ChoiceFault.TheVariants as choice
use Rattle.og_words.specs.declared.WordsFault.{WordsFault}
use Rattle.og_words.specs.declared.WordsFault.TheVariants as words
use Rattle.rv_asm.specs.declared.source.SourceCause.{SourceCause}
use Rattle.rv_asm.specs.declared.source.SourceCause.TheVariants as line
use Rattle.og_cli.specs.declared.exit.Exit.{Exit}
use Rattle.og_cli.specs.declared.exit.Exit.TheVariants as exit
use Rattle.og_cli.specs.declared.exit.WordsFile.{WordsFile}
use Rattle.og_cli.specs.declared.exit.WordsFile.TheVariants as file
use Rattle.og_cli.specs.declared.exit.SourceFault.{SourceFault}
use Rattle.og_cli.specs.declared.exit.SourceFault.TheVariants as source

-- the status of the process
abbrev pub status_of : Exit → ℕ
status_of exit.Words = 2
status_of (exit.ShelfFault which) = 1
status_of (exit.Image f) = 4
status_of (exit.Choices f) = 6
status_of (exit.Source f) = 12
status_of exit.Memory = 5
status_of exit.SinkFault = 14
status_of exit.Limit = 3
status_of exit.Done = 0
status_of exit.Quiet = 0

-- the name of a cause
abbrev pub cause_text : ElfCause → List ℕ
cause_text cause.NotElf = codes "NotElf"
cause_text cause.NotClass64 = codes "NotClass64"
cause_text cause.NotLittle = codes "NotLittle"
cause_text cause.NotExec = codes "NotExec"
cause_text cause.NotRiscv = codes "NotRiscv"
cause_text cause.HeaderOut = codes "HeaderOut"
cause_text cause.SegmentOut = codes "SegmentOut"
cause_text cause.Overlap = codes "Overlap"
cause_text cause.WritableText = codes "WritableText"
cause_text cause.NoEntry = codes "NoEntry"
cause_text cause.TooLarge = codes "TooLarge"

-- what is told of an image
abbrev pub fault_text : ImageFault → List ℕ
fault_text (fault.Elf cause at) = codes "origin: image " ++ (cause_text cause ++ (codes " at " ++ (decimal at ++ 10 ∷ [])))
fault_text fault.Raw = codes "origin: image RawOut" ++ 10 ∷ []
fault_text (fault.NoFrames need have) = codes "origin: image NoFrames need " ++ (decimal need ++ (codes " have " ++ (decimal have ++ 10 ∷ [])))
fault_text fault.TooLong = codes "origin: image TooLong" ++ 10 ∷ []

-- the name of why a choice isn't enabled
abbrev pub refused_text : NotEnabled → List ℕ
refused_text refused.NoActor = codes "NoActor"
refused_text refused.Stopped = codes "Stopped"
refused_text refused.Outstanding = codes "Outstanding"
refused_text refused.VictimBusy = codes "VictimBusy"
refused_text refused.NothingToDo = codes "NothingToDo"
refused_text refused.NoMessage = codes "NoMessage"

-- a line of a choices file, and what is told of it
abbrev pub choice_line : ℕ → List ℕ → List ℕ
choice_line number why = codes "origin: choices line " ++ (decimal number ++ (codes " " ++ (why ++ 10 ∷ [])))

-- what is told of choices
abbrev pub choices_text : ChoiceFault → List ℕ
choices_text (choice.Grammar number) = choice_line number (codes "Grammar")
choices_text choice.Settings = choice_line 1 (codes "Settings")
choices_text (choice.Refused number why) = choice_line number (refused_text why)
choices_text choice.TooLong = codes "origin: choices TooLong" ++ 10 ∷ []

-- the name of why a line of a source isn't taken
abbrev pub line_cause_text : SourceCause → List ℕ
line_cause_text line.Syntax = codes "Syntax"
line_cause_text line.Name = codes "Name"
line_cause_text line.Operands = codes "Operands"
line_cause_text line.Register = codes "Register"
line_cause_text line.Twice = codes "Twice"
line_cause_text line.Label = codes "Label"
line_cause_text line.Range = codes "Range"
line_cause_text line.Size = codes "Size"

-- what is told of a source
abbrev pub source_text : SourceFault → List ℕ
source_text (source.Line number cause) = codes "origin: source line " ++ (decimal number ++ (codes " " ++ (line_cause_text cause ++ 10 ∷ [])))
source_text source.TooLong = codes "origin: source TooLong" ++ 10 ∷ []

-- the names of the files that the words give: the first one, and that of the choices; empty where there is none
pub record FileNames : Type 0 where
  pub first : List ℕ
  pub choices : List ℕ

-- the name of one of them
abbrev pub name_of : FileNames → WordsFile → List ℕ
name_of names file.First = names.first
name_of names file.Choices = names.choices

-- the one line on the standard error, nothing where what was asked for was printed
abbrev pub error_line : FileNames → Exit → List ℕ
error_line names exit.Words = codes "origin: words" ++ 10 ∷ []
error_line names (exit.ShelfFault which) = codes "origin: cannot read " ++ (name_of names which ++ 10 ∷ [])
error_line names (exit.Image f) = fault_text f
error_line names (exit.Choices f) = choices_text f
error_line names (exit.Source f) = source_text f
error_line names exit.Memory = codes "origin: memory" ++ 10 ∷ []
error_line names exit.SinkFault = codes "origin: cannot write" ++ 10 ∷ []
error_line names exit.Limit = []
error_line names exit.Done = []
error_line names exit.Quiet = []

-- the answer's line was appended to the standard error, or some first bytes of it where a count of the sink rose
abbrev pub IsReported : List ℕ → SinkState → SinkState → Type 0
IsReported text old new = (new ≡ with_appended old text) ⊎ CutByFault text old new ⊎ CutByWant text old new

-- the answer to words that aren't understood, or for want of memory
abbrev pub refused_of : WordsFault → Exit
refused_of words.Words = exit.Words
refused_of words.Memory = exit.Memory
