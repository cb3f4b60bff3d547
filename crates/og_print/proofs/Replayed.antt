-- How a replay of the choices in a file ends.
use Rattle.std.proofs.Common.{◌≡◌, ℕ, ◌*◌, inl, inr, Bool, Result, Ok, Err, List, length, refl}
use Rattle.og_base.specs.declared.Settings.{Settings}
use Rattle.og_image.specs.Layout.{pages_of}
use Rattle.og_io.specs.Outside.{ShelfState, SinkState}
use Rattle.og_words.specs.declared.job.Given.{Given}
use Rattle.og_load.specs.declared.Unused.{Unused}
use Rattle.og_load.specs.declared.Unused.TheVariants as unused
use Rattle.og_load.specs.declared.image.ImageFault.{ImageFault}
use Rattle.og_load.specs.declared.image.ImageFault.TheVariants as images
use Rattle.og_load.specs.declared.choices.ChoiceFault.{ChoiceFault}
use Rattle.og_load.specs.declared.choices.ChoiceFault.TheVariants as choice
use Rattle.og_load.specs.Images.{file_image, ProgramLoads}
use Rattle.og_load.specs.Choices.{ChoicesLoad}
use Rattle.og_print.specs.declared.fault.RunFault.{RunFault}
use Rattle.og_print.specs.declared.fault.RunFault.TheVariants as fault
use Rattle.og_print.specs.Runs.{image_unused, choices_unused}
use Rattle.og_print.specs.Files.{HasProgram, AreRead, GivenEnds, ReplayEnds}
use Rattle.og_print.proofs.Played.{frames_are}

module _ (raw : Bool) (image choices : List ℕ) (words : Settings) (given : Given) (shelf : ShelfState) where
  -- a fault that the program of a file may have is none of its placing
  pub no_program : (after : ShelfState) (sink : SinkState) (u : Unused ImageFault) → ((need have : ℕ) → u ≡ unused.Fault (images.NoFrames need have) → ⊥) → ProgramLoads raw image shelf after (Err u)
      → ReplayEnds raw image choices words given shelf after sink sink (Err (image_unused u))
  no_program after sink unused.Unread placed h = (h, refl)
  no_program after sink (unused.Fault images.TooLong) placed h = (h.0, refl, h.1)
  no_program after sink (unused.Fault images.Raw) placed h = (h.0, refl, (h.1.0, h.1.1, h.1.2))
  no_program after sink (unused.Fault (images.Elf cause at)) placed h = (h.0, refl, (h.1.0, h.1.1, h.1.2))
  no_program after sink (unused.Fault (images.NoFrames need have)) placed h = absurd (placed need have refl)
  no_program after sink unused.Memory placed h = (h, inl refl)

  pub no_choices : (after : ShelfState) (bytes : List ℕ) (sink : SinkState) (u : Unused ChoiceFault) → HasProgram raw image shelf bytes → ChoicesLoad words given choices shelf after (Err u)
      → ReplayEnds raw image choices words given shelf after sink sink (Err (choices_unused u))
  no_choices after bytes sink unused.Unread program h = (refl, ((bytes, program), h))
  no_choices after bytes sink (unused.Fault choice.TooLong) program h = (refl, ((bytes, program), h))
  no_choices after bytes sink (unused.Fault (choice.Grammar line)) program h = (refl, ((bytes, program), h))
  no_choices after bytes sink (unused.Fault choice.Settings) program h = (refl, ((bytes, program), h))
  no_choices after bytes sink (unused.Fault (choice.Refused line cause)) program (same, (text, file, short, none)) = absurd none
  no_choices after bytes sink unused.Memory program h = (h, inl refl)

  not_frames : (need have : ℕ) → images.TooLong ≡ images.NoFrames need have → ⊥
  not_frames need have e = absurd (cc)

  not_raw : (need have : ℕ) → images.Raw ≡ images.NoFrames need have → ⊥
  not_raw need have e = absurd (cc)

  pub played : (after : ShelfState) (old new : SinkState) (result : Result Bool RunFault) → after ≡ shelf → (files : AreRead raw image choices words given shelf)
      → GivenEnds (file_image raw files.bytes files.loaded.settings.nodes) files.loaded.settings files.loaded.choices files.loaded.lines old new result
      → ReplayEnds raw image choices words given shelf after old new result
  played after old new (Ok answer) same files ends = (same, record { files = files; placed = ends.0; ended = ends.1 })
  played after old new (Err fault.Unread) same files ends = absurd ends
  played after old new (Err fault.ChoicesUnread) same files ends = absurd ends
  played after old new (Err (fault.Image images.TooLong)) same files ends = absurd (not_frames _ _ (frames_are (file_image raw files.bytes files.loaded.settings.nodes) files.loaded.settings images.TooLong ends.1))
  played after old new (Err (fault.Image images.Raw)) same files ends = absurd (not_raw _ _ (frames_are (file_image raw files.bytes files.loaded.settings.nodes) files.loaded.settings images.Raw ends.1))
  played after old new (Err (fault.Image (images.Elf cause at))) same files ends =
      absurd (let e : images.Elf cause at ≡ images.NoFrames (length (pages_of (file_image raw files.bytes files.loaded.settings.nodes))) (files.loaded.settings.nodes * files.loaded.settings.frames) = frames_are (file_image raw files.bytes files.loaded.settings.nodes) files.loaded.settings (images.Elf cause at) ends.1 in cc)
  played after old new (Err (fault.Image (images.NoFrames need have))) same files ends = (same, ends.0, record { files = files; lacking = ends.1 })
  played after old new (Err (fault.Choices (choice.Refused line cause))) same files ends = (same, ends.0, record { files = files; placed = ends.1; at = ends.2.0; in_line = ends.2.1; refused = ends.2.2 })
  played after old new (Err (fault.Choices (choice.Grammar line))) same files ends = absurd ends
  played after old new (Err (fault.Choices choice.Settings)) same files ends = absurd ends
  played after old new (Err (fault.Choices choice.TooLong)) same files ends = absurd ends
  played after old new (Err fault.Memory) same files (inl kept) = (same, inl kept)
  played after old new (Err fault.Memory) same files (inr ends) = (same, inr (record { files = files; placed = ends.0; ended = ends.1 }))
  played after old new (Err fault.Unwritten) same files ends = (same, record { files = files; placed = ends.0; ended = ends.1 })
