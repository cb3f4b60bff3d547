-- What nothing hinders is done, or memory wants.
use Rattle.std.proofs.Common.{◌≡◌, ℕ, ◌≤◌, nat_lt, arith, Bool, true, false, List, Option, None, Some, Result, Ok, Err, ◌⊎◌, inl, inr, refl, ap, subst, sym}
use Rattle.std.proofs.lemmas.Bool.Decides.{nat_tests}
use Rattle.og_base.specs.declared.NotEnabled.{NotEnabled}
use Rattle.og_base.specs.declared.Settings.{Settings}
use Rattle.og_io.specs.Outside.{ShelfState, SinkState, HasFile, HasLongFile, IsAsBefore}
use Rattle.og_words.specs.declared.job.Given.{Given}
use Rattle.og_words.specs.Words.{JobState, simulate, run, replay, storm, assemble, disassemble}
use Rattle.og_load.specs.declared.image.ImageFault.{ImageFault}
use Rattle.og_load.specs.declared.image.ImageFault.TheVariants as images
use Rattle.og_load.specs.declared.choices.ChoiceFault.TheVariants as choice
use Rattle.og_load.specs.Images.{IsImageFile, program_fault}
use Rattle.og_load.specs.Choices.{feeds_of}
use Rattle.og_print.specs.declared.fault.RunFault.{RunFault}
use Rattle.og_print.specs.declared.fault.RunFault.TheVariants as fault
use Rattle.og_headline.specs.Headline.{IsRefused}
use Rattle.og_print.specs.Runs.{Course, by_draws, image_fault, frames_fault, file_setup}
use Rattle.og_print.specs.Files.{AreRead, FileEnds, ReplayEnds, unplaced}
use Rattle.og_print.specs.Storm.{StormEnds}
use Rattle.og_image.specs.Storm.{storm_of}
use Rattle.og_cli.specs.declared.exit.Exit.{Exit}
use Rattle.og_cli.specs.declared.exit.Exit.TheVariants as exit
use Rattle.og_cli.specs.Accepted.{Tells, IsAcceptedImage, IsAcceptedProgram, AreAcceptedChoices, IsAcceptedStorm}
use Rattle.og_cli.specs.Runs.{run_exit}
use Rattle.og_cli.specs.Command.{CommandEnds, HasRun, EndsUnhindered}
use Rattle.og_cli.proofs.Files.{no_rise, no_name, told, no_long, source_done, image_done}

-- a run ended, or memory wants
abbrev pub HasEnded : Exit → Type 0
HasEnded answer = HasRun answer ⊎ (answer ≡ exit.Memory)

-- ------------------------------------------------------------ a run of the program in a file

-- an image that is accepted has no fault
no_fault : {A : Type 0} → (raw : Bool) (name : List ℕ) (settings : Settings) (shelf : ShelfState) (bytes : List ℕ) (f : ImageFault) → Tells shelf.files name (IsAcceptedImage raw settings) → IsImageFile name shelf bytes → image_fault raw bytes settings ≡ Some f → A
no_fault raw name settings shelf bytes f fine file wrong =
    let good : IsAcceptedImage raw settings bytes = told (IsAcceptedImage raw settings) shelf.files name bytes fine file.0 in
    let none : image_fault raw bytes settings ≡ None = good.1 in
    absurd (cc (none, wrong))

pub file_ended : (raw : Bool) (name : List ℕ) (settings : Settings) (course : Course) (shelf after : ShelfState) (old new : SinkState) (ended : Result Bool RunFault) → FileEnds raw name settings course shelf after old new ended
    → Tells shelf.files name (IsAcceptedImage raw settings) → after.failed ≡ shelf.failed → IsAsBefore old.faults new.faults → HasEnded (run_exit ended)
file_ended raw name settings course shelf after old new (Ok true) ends fine read written = inl (inl refl)
file_ended raw name settings course shelf after old new (Ok false) ends fine read written = inl (inr refl)
file_ended raw name settings course shelf after old new (Err fault.Unread) ends fine read written = no_name name shelf.failed after.failed read (ap (λ (s : ShelfState). s.failed) ends.0)
file_ended raw name settings course shelf after old new (Err fault.ChoicesUnread) ends fine read written = absurd ends
file_ended raw name settings course shelf after old new (Err (fault.Image images.TooLong)) ends fine read written = no_long (IsAcceptedImage raw settings) 67108864 shelf.files name (λ b good. good.0) fine ends.2
file_ended raw name settings course shelf after old new (Err (fault.Image images.Raw)) (same, kept, (bytes, file, wrong)) fine read written = no_fault raw name settings shelf bytes images.Raw fine file wrong
file_ended raw name settings course shelf after old new (Err (fault.Image (images.Elf cause at))) (same, kept, (bytes, file, wrong)) fine read written = no_fault raw name settings shelf bytes (images.Elf cause at) fine file wrong
file_ended raw name settings course shelf after old new (Err (fault.Image (images.NoFrames need have))) (same, kept, (bytes, file, wrong)) fine read written = no_fault raw name settings shelf bytes (images.NoFrames need have) fine file wrong
file_ended raw name settings course shelf after old new (Err (fault.Choices f)) ends fine read written = absurd ends
file_ended raw name settings course shelf after old new (Err fault.Memory) ends fine read written = inr refl
file_ended raw name settings course shelf after old new (Err fault.Unwritten) (same, (bytes, file, sound, (text, quiet, ran, cut))) fine read written = no_rise old.faults new.faults written cut.1

-- ------------------------------------------------------------ a replay

module _ (raw : Bool) (image choices : List ℕ) (words : Settings) (given : Given) (shelf : ShelfState) where
  -- what is accepted of the image file
  abbrev IsGood : List ℕ → Type 0
  IsGood bytes = IsAcceptedProgram raw bytes × Tells shelf.files choices (AreAcceptedChoices raw bytes words given)

  -- the text that was read is accepted, for the program that was
  accepted_text : (bytes text : List ℕ) → Tells shelf.files image IsGood → IsImageFile image shelf bytes → HasFile shelf.files choices text → AreAcceptedChoices raw bytes words given text
  accepted_text bytes text fine program file =
      let good : IsGood bytes = told IsGood shelf.files image bytes fine program.0 in
      told (AreAcceptedChoices raw bytes words given) shelf.files choices text good.1 file

  bad_program : {A : Type 0} → (bytes : List ℕ) (f : ImageFault) → Tells shelf.files image IsGood → IsImageFile image shelf bytes → program_fault raw bytes ≡ Some f → A
  bad_program bytes f fine program wrong =
      let good : IsGood bytes = told IsGood shelf.files image bytes fine program.0 in
      let none : program_fault raw bytes ≡ None = good.0.1 in
      absurd (cc (none, wrong))

  -- a choices file that is accepted isn't too long
  no_long_text : {A : Type 0} → (bytes : List ℕ) → Tells shelf.files image IsGood → IsImageFile image shelf bytes → HasLongFile shelf.files choices 536870912 → A
  no_long_text bytes fine program long =
      let good : IsGood bytes = told IsGood shelf.files image bytes fine program.0 in
      no_long (AreAcceptedChoices raw bytes words given) 536870912 shelf.files choices (λ b accepted. accepted.short) good.1 long

  no_many_lines : {A : Type 0} → (bytes text : List ℕ) → Tells shelf.files image IsGood → IsImageFile image shelf bytes → HasFile shelf.files choices text → nat_lt 16777216 (feeds_of text) ≡ true → A
  no_many_lines bytes text fine program file many =
      let accepted : AreAcceptedChoices raw bytes words given text = accepted_text bytes text fine program file in
      let few : feeds_of text ≤ 16777216 = accepted.few in
      let short : nat_lt 16777216 (feeds_of text) ≡ false = grind (arith, nat_tests) in
      absurd (cc (many, short))

  -- both files were read
  no_refusal : {A : Type 0} → (files : AreRead raw image choices words given shelf) (at : ℕ) (why : NotEnabled) → Tells shelf.files image IsGood → IsRefused (file_setup raw files.bytes files.loaded.settings) files.loaded.choices at why → A
  no_refusal files at why fine refused =
      let accepted : AreAcceptedChoices raw files.bytes words given files.read.0 = accepted_text files.bytes files.read.0 fine files.program.0 files.read.1 in
      absurd (accepted.enabled files.loaded at why files.read.3.1 refused)

  no_lack : {A : Type 0} → (files : AreRead raw image choices words given shelf) (f : ImageFault) → Tells shelf.files image IsGood → unplaced raw files.bytes files.loaded.settings ≡ Some f → A
  no_lack files f fine lacking =
      let accepted : AreAcceptedChoices raw files.bytes words given files.read.0 = accepted_text files.bytes files.read.0 fine files.program.0 files.read.1 in
      let placed : unplaced raw files.bytes files.loaded.settings ≡ None = accepted.placed files.loaded files.read.3.1 in
      absurd (cc (placed, lacking))

  replayed : (after : ShelfState) (old new : SinkState) (ended : Result Bool RunFault) → ReplayEnds raw image choices words given shelf after old new ended
      → Tells shelf.files image IsGood → after.failed ≡ shelf.failed → IsAsBefore old.faults new.faults → HasEnded (run_exit ended)
  replayed after old new (Ok true) ends fine read written = inl (inl refl)
  replayed after old new (Ok false) ends fine read written = inl (inr refl)
  replayed after old new (Err fault.Unread) ends fine read written = no_name image shelf.failed after.failed read (ap (λ (s : ShelfState). s.failed) ends.0)
  replayed after old new (Err fault.ChoicesUnread) ends fine read written = no_name choices shelf.failed after.failed read (ap (λ (s : ShelfState). s.failed) ends.1.1)
  replayed after old new (Err (fault.Image images.TooLong)) ends fine read written = no_long IsGood 67108864 shelf.files image (λ b good. good.0.0) fine ends.2
  replayed after old new (Err (fault.Image images.Raw)) (same, kept, (bytes, file, wrong)) fine read written = bad_program bytes images.Raw fine file wrong
  replayed after old new (Err (fault.Image (images.Elf cause at))) (same, kept, (bytes, file, wrong)) fine read written = bad_program bytes (images.Elf cause at) fine file wrong
  replayed after old new (Err (fault.Image (images.NoFrames need have))) (same, kept, lacks) fine read written = no_lack lacks.files (images.NoFrames need have) fine lacks.lacking
  replayed after old new (Err (fault.Choices (choice.Refused line why))) (same, kept, refused) fine read written = no_refusal refused.files refused.at why fine refused.refused
  replayed after old new (Err (fault.Choices choice.TooLong)) (kept, ((bytes, program), (same, inl long))) fine read written = no_long_text bytes fine program.0 long
  replayed after old new (Err (fault.Choices choice.TooLong)) (kept, ((bytes, program), (same, inr (text, file, short, many)))) fine read written = no_many_lines bytes text fine program.0 file many
  replayed after old new (Err (fault.Choices (choice.Grammar line))) (kept, ((bytes, program), (same, (text, file, short, (few, outside))))) fine read written = absurd ((accepted_text bytes text fine program.0 file).inside line outside)
  replayed after old new (Err (fault.Choices choice.Settings)) (kept, ((bytes, program), (same, (text, file, short, (few, other))))) fine read written = absurd ((accepted_text bytes text fine program.0 file).same other)
  replayed after old new (Err fault.Memory) ends fine read written = inr refl
  replayed after old new (Err fault.Unwritten) (same, done) fine read written = no_rise old.faults new.faults written done.ended.3.1

-- ------------------------------------------------------------ a storm

stormed : (number loops : ℕ) (settings : Settings) (most : ℕ) (old new : SinkState) (ended : Result Bool RunFault) → StormEnds number loops settings most old new ended → IsAcceptedStorm number loops settings → IsAsBefore old.faults new.faults → HasEnded (run_exit ended)
stormed number loops settings most old new (Ok true) ends fine written = inl (inl refl)
stormed number loops settings most old new (Ok false) ends fine written = inl (inr refl)
stormed number loops settings most old new (Err fault.Unread) ends fine written = absurd ends
stormed number loops settings most old new (Err fault.ChoicesUnread) ends fine written = absurd ends
stormed number loops settings most old new (Err (fault.Image f)) ends fine written = let wrong : frames_fault (storm_of number loops settings.nodes) settings ≡ Some f = ends.1 in let none : frames_fault (storm_of number loops settings.nodes) settings ≡ None = fine in absurd (cc (none, wrong))
stormed number loops settings most old new (Err (fault.Choices f)) ends fine written = absurd ends
stormed number loops settings most old new (Err fault.Memory) ends fine written = inr refl
stormed number loops settings most old new (Err fault.Unwritten) ends fine written = no_rise old.faults new.faults written ends.2.1

-- ------------------------------------------------------------ the command

pub ends_unhindered : (asked : Option JobState) (shelf after : ShelfState) (old new : SinkState) (answer : Exit) → CommandEnds asked shelf after old new answer → EndsUnhindered asked shelf after old new answer
ends_unhindered None shelf after old new answer ends = tt
ends_unhindered (Some job) shelf after old new answer (inl left) = λ u. inr left.0
ends_unhindered (Some (simulate image raw settings draw events)) shelf after old new answer (inr (s, numbers, (ended, ends, is))) =
    λ u. subst (λ (x : Exit). HasEnded x) (sym is) (file_ended raw image s (by_draws draw events) shelf after old new ended ends (u.accepted s numbers) u.read u.written)
ends_unhindered (Some (run image raw settings rounds turns)) shelf after old new answer (inr ends) = λ u. absurd u.accepted
ends_unhindered (Some (replay image choices raw settings given)) shelf after old new answer (inr (s, g, numbers, options, (ended, ends, is))) =
    λ u. subst (λ (x : Exit). HasEnded x) (sym is) (replayed raw image choices s g shelf after old new ended ends (u.accepted s g numbers options) u.read u.written)
ends_unhindered (Some (storm number settings loops events)) shelf after old new answer (inr (same, (s, numbers, (ended, ends, is)))) =
    λ u. subst (λ (x : Exit). HasEnded x) (sym is) (stormed number loops s events old new ended ends (u.accepted s numbers) u.written)
ends_unhindered (Some (assemble name)) shelf after old new answer (inr ends) = λ u. source_done name shelf after old new answer ends u.accepted u.read u.written
ends_unhindered (Some (disassemble name)) shelf after old new answer (inr ends) = λ u. image_done name shelf after old new answer ends u.accepted u.read u.written
