-- The words that are left, after the reading so far, make up the whole.
use Rattle.std.proofs.Common.{◌≡◌, drop}
use Rattle.og_io.specs.Outside.{texts}
use Rattle.og_words.specs.Words.{read_from, nothing_read}
use Rattle.og_words.specs.Reading.{reading_seen}
use Rattle.og_words.proofs.reading.read.Given as goal

abbrev pub invariant-loop-word : goal.invariant-loop-word
invariant-loop-word l = read_from l.command (texts (drop l.word-index l.words)) (reading_seen l.reading) ≡ read_from l.command (texts l.words) nothing_read
