-- Words that aren't read leave all as it was.
use Rattle.std.proofs.Common.{◌≡◌, Option, Some, None, inl, refl}
use Rattle.og_words.specs.declared.WordsFault.{WordsFault}
use Rattle.og_words.specs.declared.WordsFault.TheVariants as words
use Rattle.og_words.specs.Words.{JobState}
use Rattle.og_io.specs.Outside.{ShelfState, SinkState}
use Rattle.og_cli.specs.Exit.{FileNames, error_line, refused_of}
use Rattle.og_cli.specs.Command.{CommandEnds}

pub refused_ends : (asked : Option JobState) (fault : WordsFault) (shelf : ShelfState) (old : SinkState) → (fault ≡ words.Words → asked ≡ None) → (asked ≡ None → fault ≡ words.Words) → CommandEnds asked shelf shelf old old (refused_of fault)
refused_ends None words.Words shelf old only all = (refl, refl, refl)
refused_ends (Some job) words.Words shelf old only all = let none : Some job ≡ None = only refl in absurd (cc)
refused_ends None words.Memory shelf old only all = let e : words.Memory ≡ words.Words = all refl in absurd (cc)
refused_ends (Some job) words.Memory shelf old only all = inl (refl, refl, refl)

-- the line that tells it names no file
pub refused_line : (names other : FileNames) (fault : WordsFault) → error_line names (refused_of fault) ≡ error_line other (refused_of fault)
refused_line names other words.Words = refl
refused_line names other words.Memory = refl
