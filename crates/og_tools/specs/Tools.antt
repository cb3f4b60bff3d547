-- How the tools end: what is read, what is written, and why a file is refused.
use Rattle.std.specs.Prelude.{◌≡◌, ℕ, ◌<◌, ◌≤◌, ◌⊎◌, true, false, List, [], ◌∷◌, ◌++◌, length, Result, Ok, Err, ⊤}
use Rattle.std.specs.List.{AllByRecursion}
use Rattle.og_elf.specs.Raw.{is_raw_out}
use Rattle.og_io.specs.Outside.{ShelfState, SinkState, HasFile, HasLongFile}
use Rattle.rv_asm.specs.declared.source.SourceFault.TheVariants.{Line as AtLine}
use Rattle.rv_asm.specs.Source.{assembled}
use Rattle.rv_asm.specs.Printed.{printed}
use Rattle.og_tools.specs.declared.source.AssembleFault.{AssembleFault}
use Rattle.og_tools.specs.declared.source.AssembleFault.TheVariants as assemble
use Rattle.og_tools.specs.declared.image.DisassembleFault.{DisassembleFault}
use Rattle.og_tools.specs.declared.image.DisassembleFault.TheVariants as disassemble
use Rattle.og_tools.specs.Images.{raw_file, raw_words}
use Rattle.og_io.specs.Sinks.{with_appended, CutByFault, CutByWant}

-- a name was added to the failed ones, and nothing else became of the shelf
abbrev pub with_failed : ShelfState → List ℕ → ShelfState
with_failed s name = record s { failed = s.failed ++ name ∷ [] }

-- ------------------------------------------------------------------------------ from a source to an image

-- the source assembles to these words
abbrev pub IsSource : List ℕ → List ℕ → Type 0
IsSource text words = assembled text ≡ Ok words

-- how the assembling of this text ends, and what becomes of the sink: the image of its words was written; its first line at
-- fault is named, and the sink as before; the sink failed, or wanted memory, amid the image; or memory wanted before
abbrev pub SourceEnds : List ℕ → SinkState → SinkState → Result ⊤ AssembleFault → Type 0
SourceEnds text old new (Ok done) = (words : List ℕ) × IsSource text words × (new ≡ with_appended old (raw_file words))
SourceEnds text old new (Err (assemble.Line number cause)) = (assembled text ≡ Err (AtLine number cause)) × (new ≡ old)
SourceEnds text old new (Err assemble.Unwritten) = (words : List ℕ) × IsSource text words × CutByFault (raw_file words) old new
SourceEnds text old new (Err assemble.Memory) = (new ≡ old) ⊎ ((words : List ℕ) × IsSource text words × CutByWant (raw_file words) old new)
SourceEnds text old new (Err other) = ⊥

-- the file has this text, of at most 16,777,216 bytes, and its assembling ended so
abbrev pub SourceReadAndEnds : List ℕ → ShelfState → SinkState → SinkState → Result ⊤ AssembleFault → Type 0
SourceReadAndEnds name shelf old new result = (text : List ℕ) × HasFile shelf.files name text × (length text ≤ 16777216) × SourceEnds text old new result

-- how the assembling of the file with this name ends, and what becomes of the shelf and the sink: a file that couldn't be read
-- has its name added to the failed ones; one that is too long leaves all; else it was read
abbrev pub AssembleEnds : List ℕ → ShelfState → ShelfState → SinkState → SinkState → Result ⊤ AssembleFault → Type 0
AssembleEnds name shelf after old new (Err assemble.Unread) = (after ≡ with_failed shelf name) × (new ≡ old)
AssembleEnds name shelf after old new (Err assemble.TooLong) = (after ≡ shelf) × HasLongFile shelf.files name 16777216 × (new ≡ old)
AssembleEnds name shelf after old new (Err assemble.Memory) = (after ≡ shelf) × ((new ≡ old) ⊎ SourceReadAndEnds name shelf old new (Err assemble.Memory))
AssembleEnds name shelf after old new other = (after ≡ shelf) × SourceReadAndEnds name shelf old new other

-- ------------------------------------------------------------------------------ from an image to a source

-- the text of the program in this raw image
abbrev pub program_text : List ℕ → List ℕ
program_text file = printed (raw_words file)

-- how the printing of this file ends, and what becomes of the sink: the text of its program was written; it is no raw image,
-- and the sink as before; the sink failed, or wanted memory, amid the text; or memory wanted before
abbrev pub ImageEnds : List ℕ → SinkState → SinkState → Result ⊤ DisassembleFault → Type 0
ImageEnds file old new (Ok done) = (is_raw_out file ≡ false) × (new ≡ with_appended old (program_text file))
ImageEnds file old new (Err disassemble.RawOut) = (is_raw_out file ≡ true) × (new ≡ old)
ImageEnds file old new (Err disassemble.Unwritten) = (is_raw_out file ≡ false) × CutByFault (program_text file) old new
ImageEnds file old new (Err disassemble.Memory) = (new ≡ old) ⊎ ((is_raw_out file ≡ false) × CutByWant (program_text file) old new)
ImageEnds file old new (Err other) = ⊥

-- the file has these bytes, at most 67,108,864, and its printing ended so
abbrev pub ImageReadAndEnds : List ℕ → ShelfState → SinkState → SinkState → Result ⊤ DisassembleFault → Type 0
ImageReadAndEnds name shelf old new result = (file : List ℕ) × HasFile shelf.files name file × (length file ≤ 67108864) × ImageEnds file old new result

-- how the printing of the file with this name ends, and what becomes of the shelf and the sink
abbrev pub DisassembleEnds : List ℕ → ShelfState → ShelfState → SinkState → SinkState → Result ⊤ DisassembleFault → Type 0
DisassembleEnds name shelf after old new (Err disassemble.Unread) = (after ≡ with_failed shelf name) × (new ≡ old)
DisassembleEnds name shelf after old new (Err disassemble.TooLong) = (after ≡ shelf) × HasLongFile shelf.files name 67108864 × (new ≡ old)
DisassembleEnds name shelf after old new (Err disassemble.Memory) = (after ≡ shelf) × ((new ≡ old) ⊎ ImageReadAndEnds name shelf old new (Err disassemble.Memory))
DisassembleEnds name shelf after old new other = (after ≡ shelf) × ImageReadAndEnds name shelf old new other

-- ------------------------------------------------------------------------------ from an image to a source and back

-- the text of the program in a raw image, a list of bytes, assembles to the words of that program
abbrev pub TextsAssemble : Type 0
TextsAssemble = (file : List ℕ) → AllByRecursion (λ b. b < 256) file → is_raw_out file ≡ false → IsSource (program_text file) (raw_words file)
