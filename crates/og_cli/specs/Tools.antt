-- How the command answers for the assembler and the printer. How each of them ends, what it reads and what it writes, is said in
-- `og_tools`; here is the answer to each of these ends.
use Rattle.std.specs.Prelude.{◌≡◌, ℕ, ◌≤◌, false, List, length, Option, IsSomeAnd, Result, Ok, Err, ⊤}
use Rattle.og_elf.specs.Raw.{is_raw_out}
use Rattle.og_io.specs.Outside.{ShelfState, SinkState, Files, file_of}
use Rattle.og_tools.specs.declared.source.AssembleFault.{AssembleFault}
use Rattle.og_tools.specs.declared.source.AssembleFault.TheVariants as assemble
use Rattle.og_tools.specs.declared.image.DisassembleFault.{DisassembleFault}
use Rattle.og_tools.specs.declared.image.DisassembleFault.TheVariants as disassemble
use Rattle.og_tools.specs.Tools.{IsSource, AssembleEnds, DisassembleEnds}
use Rattle.og_cli.specs.declared.exit.Exit.{Exit}
use Rattle.og_cli.specs.declared.exit.Exit.TheVariants as exit
use Rattle.og_load.specs.declared.image.ImageFault.TheVariants as fault
use Rattle.og_cli.specs.declared.exit.WordsFile.TheVariants as file
use Rattle.og_cli.specs.declared.exit.SourceFault.TheVariants as source

-- ------------------------------------------------------------ from a source to an image

abbrev pub assembled_exit : Result ⊤ AssembleFault → Exit
assembled_exit (Ok done) = exit.Done
assembled_exit (Err assemble.Unread) = exit.ShelfFault file.First
assembled_exit (Err assemble.TooLong) = exit.Source source.TooLong
assembled_exit (Err (assemble.Line number cause)) = exit.Source (source.Line number cause)
assembled_exit (Err assemble.Memory) = exit.Memory
assembled_exit (Err assemble.Unwritten) = exit.SinkFault

-- the assembling of the file with this name ended in some way, and this is the answer to it
abbrev pub Assembles : List ℕ → ShelfState → ShelfState → SinkState → SinkState → Exit → Type 0
Assembles name shelf after old new answer = (ended : Result ⊤ AssembleFault) × AssembleEnds name shelf after old new ended × (answer ≡ assembled_exit ended)

-- the shelf tells its files, and the one of this name is a source of at most 16,777,216 bytes that assembles
abbrev pub HasSource : List ℕ → Option Files → Type 0
HasSource name files = IsSomeAnd files (λ fs. IsSomeAnd (file_of fs name) (λ text. (length text ≤ 16777216) × ((words : List ℕ) × IsSource text words)))

-- ------------------------------------------------------------ from an image to a source

abbrev pub printed_exit : Result ⊤ DisassembleFault → Exit
printed_exit (Ok done) = exit.Done
printed_exit (Err disassemble.Unread) = exit.ShelfFault file.First
printed_exit (Err disassemble.TooLong) = exit.Image fault.TooLong
printed_exit (Err disassemble.RawOut) = exit.Image fault.Raw
printed_exit (Err disassemble.Memory) = exit.Memory
printed_exit (Err disassemble.Unwritten) = exit.SinkFault

-- the printing of the file with this name ended in some way, and this is the answer to it
abbrev pub Disassembles : List ℕ → ShelfState → ShelfState → SinkState → SinkState → Exit → Type 0
Disassembles name shelf after old new answer = (ended : Result ⊤ DisassembleFault) × DisassembleEnds name shelf after old new ended × (answer ≡ printed_exit ended)

-- the shelf tells its files, and the one of this name is a raw image of at most 67,108,864 bytes
abbrev pub HasRawImage : List ℕ → Option Files → Type 0
HasRawImage name files = IsSomeAnd files (λ fs. IsSomeAnd (file_of fs name) (λ file. (length file ≤ 67108864) × (is_raw_out file ≡ false)))
