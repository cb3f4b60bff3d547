-- The program of an image file, or its first fault.
use Rattle.std.specs.Prelude.{◌≡◌, ℕ, ◌≤◌, Bool, true, false, Option, None, Some, Result, Ok, Err, List, [], ◌∷◌, ◌++◌, length, cond}
use Rattle.og_elf.specs.declared.segment.Elf.{Elf}
use Rattle.og_elf.specs.declared.fault.ElfFault.{ElfFault}
use Rattle.og_elf.specs.declared.fault.ElfFault.TheVariants.{Bad}
use Rattle.og_elf.specs.Elf.{elf_of, fault_of}
use Rattle.og_elf.specs.Raw.{is_raw_out, raw_elf}
use Rattle.og_image.specs.Image.{ImageState, image_of}
use Rattle.og_io.specs.Outside.{ShelfState, HasFile, HasLongFile}
use Rattle.og_load.specs.declared.Unused.{Unused}
use Rattle.og_load.specs.declared.Unused.TheVariants.{Unread, Fault, Memory}
use Rattle.og_load.specs.declared.image.ImageFault.{ImageFault}
use Rattle.og_load.specs.declared.image.ImageFault.TheVariants as fault

-- the program of a file: a raw one where `raw` says so, else one in ELF
abbrev pub program_of : (raw : Bool) → List ℕ → Elf
program_of true bytes = raw_elf bytes
program_of false bytes = elf_of bytes

abbrev pub elf_fault : Option ElfFault → Option ImageFault
elf_fault (Some (Bad cause at)) = Some (fault.Elf cause at)
elf_fault other = None

-- why a file is no program: none where it is
abbrev pub program_fault : (raw : Bool) → List ℕ → Option ImageFault
program_fault true bytes = cond (is_raw_out bytes) (Some fault.Raw) None
program_fault false bytes = elf_fault (fault_of bytes)

-- the image of a file, for so many nodes
abbrev pub file_image : (raw : Bool) → List ℕ → ℕ → ImageState
file_image raw bytes nodes = image_of (program_of raw bytes).entry (program_of raw bytes).segments nodes

-- the name stands at the end of the failed ones; nothing else of the shelf changed
abbrev pub FailedAt : List ℕ → ShelfState → ShelfState → Type 0
FailedAt name shelf after = after ≡ record shelf { failed = shelf.failed ++ name ∷ [] }

-- where the files are told, these are the bytes of the file with this name; they are few enough
abbrev pub IsImageFile : List ℕ → ShelfState → List ℕ → Type 0
IsImageFile name shelf bytes = HasFile shelf.files name bytes × (length bytes ≤ 67108864)

-- what comes of loading the program of a file: the program of its bytes, which have no fault; the fault of its bytes; that it is too
-- long; that it couldn't be read; or want of memory
abbrev pub ProgramLoads : (raw : Bool) → List ℕ → ShelfState → ShelfState → Result Elf (Unused ImageFault) → Type 0
ProgramLoads raw name shelf after (Ok elf) = (after ≡ shelf) × ((bytes : List ℕ) × IsImageFile name shelf bytes × (program_fault raw bytes ≡ None) × (elf ≡ program_of raw bytes))
ProgramLoads raw name shelf after (Err Unread) = FailedAt name shelf after
ProgramLoads raw name shelf after (Err (Fault fault.TooLong)) = (after ≡ shelf) × HasLongFile shelf.files name 67108864
ProgramLoads raw name shelf after (Err (Fault f)) = (after ≡ shelf) × ((bytes : List ℕ) × IsImageFile name shelf bytes × (program_fault raw bytes ≡ Some f))
ProgramLoads raw name shelf after (Err Memory) = after ≡ shelf
