-- How a run of the program in a file ends.
use Rattle.std.proofs.Common.{◌≡◌, ℕ, ◌*◌, inl, inr, Bool, Option, None, Some, Result, Ok, Err, List, length, refl, sym, subst}
use Rattle.std.specs.Prelude.{IsErrAnd}
use Rattle.og_base.specs.declared.Settings.{Settings}
use Rattle.og_image.specs.Layout.{pages_of}
use Rattle.og_io.specs.Outside.{ShelfState, SinkState}
use Rattle.og_load.specs.declared.Unused.{Unused}
use Rattle.og_load.specs.declared.Unused.TheVariants as unused
use Rattle.og_load.specs.declared.image.ImageFault.{ImageFault}
use Rattle.og_load.specs.declared.image.ImageFault.TheVariants as images
use Rattle.og_load.specs.Images.{program_fault, file_image, IsImageFile, ProgramLoads}
use Rattle.og_print.specs.declared.fault.RunFault.{RunFault}
use Rattle.og_print.specs.declared.fault.RunFault.TheVariants as fault
use Rattle.og_print.specs.Runs.{image_unused, frames_fault, image_fault, Course, PlayEnds}
use Rattle.og_print.specs.Files.{FileEnds}
use Rattle.og_print.proofs.Played.{frames_are}

-- the first fault of an image is that of its program
pub bad_program : (raw : Bool) (bytes : List ℕ) (settings : Settings) (f : ImageFault) → program_fault raw bytes ≡ Some f → image_fault raw bytes settings ≡ Some f
bad_program raw bytes settings f e = rw e refl

-- and that of a program that it has no room
pub no_room : (raw : Bool) (bytes : List ℕ) (settings : Settings) (o : Option ImageFault) → program_fault raw bytes ≡ None → frames_fault (file_image raw bytes settings.nodes) settings ≡ o → image_fault raw bytes settings ≡ o
no_room raw bytes settings o sound e = rw sound e

pub unloaded : (raw : Bool) (name : List ℕ) (settings : Settings) (course : Course) (shelf after : ShelfState) (sink : SinkState) (u : Unused ImageFault) → ProgramLoads raw name shelf after (Err u)
    → FileEnds raw name settings course shelf after sink sink (Err (image_unused u))
unloaded raw name settings course shelf after sink unused.Unread h = (h, refl)
unloaded raw name settings course shelf after sink (unused.Fault images.TooLong) h = (h.0, refl, h.1)
unloaded raw name settings course shelf after sink (unused.Fault images.Raw) h = (h.0, refl, (h.1.0, h.1.1, bad_program raw h.1.0 settings images.Raw h.1.2))
unloaded raw name settings course shelf after sink (unused.Fault (images.Elf cause at)) h = (h.0, refl, (h.1.0, h.1.1, bad_program raw h.1.0 settings (images.Elf cause at) h.1.2))
unloaded raw name settings course shelf after sink (unused.Fault (images.NoFrames need have)) h = (h.0, refl, (h.1.0, h.1.1, bad_program raw h.1.0 settings (images.NoFrames need have) h.1.2))
unloaded raw name settings course shelf after sink unused.Memory h = (h, inl refl)

-- and so of what the call answers for it
pub unloaded_result : (raw : Bool) (name : List ℕ) (settings : Settings) (course : Course) (shelf after : ShelfState) (sink : SinkState) (u : Unused ImageFault) (result : Result Bool RunFault) → ProgramLoads raw name shelf after (Err u)
    → IsErrAnd result (λ f. f ≡ image_unused u) → FileEnds raw name settings course shelf after sink sink result
unloaded_result raw name settings course shelf after sink u (Ok answer) h is = elim is [ ]
unloaded_result raw name settings course shelf after sink u (Err f) h is = subst (λ (x : RunFault). FileEnds raw name settings course shelf after sink sink (Err x)) (sym is) (unloaded raw name settings course shelf after sink u h)

not_long : (need have : ℕ) → images.TooLong ≡ images.NoFrames need have → ⊥
not_long need have e = absurd (cc)

pub played : (raw : Bool) (name : List ℕ) (settings : Settings) (course : Course) (shelf after : ShelfState) (bytes : List ℕ) (old new : SinkState) (result : Result Bool RunFault) → after ≡ shelf → IsImageFile name shelf bytes
    → program_fault raw bytes ≡ None → PlayEnds (file_image raw bytes settings.nodes) settings course old new result → FileEnds raw name settings course shelf after old new result
played raw name settings course shelf after bytes old new (Ok answer) same file sound ends = (same, (bytes, file, no_room raw bytes settings None sound ends.0, ends.1))
played raw name settings course shelf after bytes old new (Err fault.Unread) same file sound ends = absurd ends
played raw name settings course shelf after bytes old new (Err fault.ChoicesUnread) same file sound ends = absurd ends
played raw name settings course shelf after bytes old new (Err (fault.Choices f)) same file sound ends = absurd ends
played raw name settings course shelf after bytes old new (Err (fault.Image images.TooLong)) same file sound ends =
    absurd (not_long (length (pages_of (file_image raw bytes settings.nodes))) (settings.nodes * settings.frames) (frames_are (file_image raw bytes settings.nodes) settings images.TooLong ends.1))
played raw name settings course shelf after bytes old new (Err (fault.Image images.Raw)) same file sound ends = (same, ends.0, (bytes, file, no_room raw bytes settings (Some images.Raw) sound ends.1))
played raw name settings course shelf after bytes old new (Err (fault.Image (images.Elf cause at))) same file sound ends = (same, ends.0, (bytes, file, no_room raw bytes settings (Some (images.Elf cause at)) sound ends.1))
played raw name settings course shelf after bytes old new (Err (fault.Image (images.NoFrames need have))) same file sound ends = (same, ends.0, (bytes, file, no_room raw bytes settings (Some (images.NoFrames need have)) sound ends.1))
played raw name settings course shelf after bytes old new (Err fault.Memory) same file sound (inl kept) = (same, inl kept)
played raw name settings course shelf after bytes old new (Err fault.Memory) same file sound (inr ends) = (same, inr (bytes, file, no_room raw bytes settings None sound ends.0, ends.1))
played raw name settings course shelf after bytes old new (Err fault.Unwritten) same file sound ends = (same, (bytes, file, no_room raw bytes settings None sound ends.0, ends.1))
