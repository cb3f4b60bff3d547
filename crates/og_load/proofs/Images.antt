-- What comes of the bytes of an image file.
use Rattle.std.proofs.Common.{◌≡◌, ℕ, Bool, true, false, Option, None, Some, Result, Ok, Err, IfOk, OnOk, List, refl}
use Rattle.std.specs.Prelude.{cond}
use Rattle.og_elf.specs.declared.segment.Elf.{Elf}
use Rattle.og_elf.specs.declared.fault.ElfFault.{ElfFault}
use Rattle.og_elf.specs.declared.fault.ElfFault.TheVariants as elf
use Rattle.og_elf.specs.Elf.{fault_of}
use Rattle.og_elf.specs.Raw.{is_raw_out}
use Rattle.og_io.specs.Outside.{ShelfState}
use Rattle.og_load.specs.declared.Unused.{Unused}
use Rattle.og_load.specs.declared.Unused.TheVariants.{Unread, Fault, Memory}
use Rattle.og_load.specs.declared.image.ImageFault.{ImageFault}
use Rattle.og_load.specs.declared.image.ImageFault.TheVariants as fault
use Rattle.og_load.specs.Images.{program_of, elf_fault, program_fault, IsImageFile, ProgramLoads}

-- bytes have no fault that they are too many
raw_fits : (out : Bool) → ◌≡◌ {A = Option ImageFault} (cond out (Some fault.Raw) None) (Some fault.TooLong) → ⊥
raw_fits true e = absurd (cc)
raw_fits false e = absurd (cc)

elf_fits : (o : Option ElfFault) → elf_fault o ≡ Some fault.TooLong → ⊥
elf_fits None e = absurd (cc)
elf_fits (Some (elf.Bad cause at)) e = absurd (cc)
elf_fits (Some elf.Memory) e = absurd (cc)

pub program_fits : (raw : Bool) (bytes : List ℕ) → program_fault raw bytes ≡ Some fault.TooLong → ⊥
program_fits true bytes e = raw_fits (is_raw_out bytes) e
program_fits false bytes e = elf_fits (fault_of bytes) e

pub read_loads : (raw : Bool) (name : List ℕ) (shelf after : ShelfState) (bytes : List ℕ) (result : Result Elf (Unused ImageFault)) → after ≡ shelf → IsImageFile name shelf bytes
    → ((f : ImageFault) → result ≡ Err (Fault f) → program_fault raw bytes ≡ Some f) → (result ≡ Err Unread → ⊥) → OnOk result (program_fault raw bytes ≡ None) → IfOk result (λ e. e ≡ program_of raw bytes)
    → ProgramLoads raw name shelf after result
read_loads raw name shelf after bytes (Ok e) same file wrong known sound read = (same, (bytes, file, sound, read))
read_loads raw name shelf after bytes (Err Unread) same file wrong known sound read = absurd (known refl)
read_loads raw name shelf after bytes (Err (Fault fault.TooLong)) same file wrong known sound read = absurd (program_fits raw bytes (wrong fault.TooLong refl))
read_loads raw name shelf after bytes (Err (Fault fault.Raw)) same file wrong known sound read = (same, (bytes, file, wrong fault.Raw refl))
read_loads raw name shelf after bytes (Err (Fault (fault.Elf cause at))) same file wrong known sound read = (same, (bytes, file, wrong (fault.Elf cause at) refl))
read_loads raw name shelf after bytes (Err (Fault (fault.NoFrames need have))) same file wrong known sound read = (same, (bytes, file, wrong (fault.NoFrames need have) refl))
read_loads raw name shelf after bytes (Err Memory) same file wrong known sound read = same
