-- What a source assembles to: the words of its instructions in their order, or its first line at fault.
use Rattle.std.specs.Prelude.{ℕ, ◌+◌, ◌-◌, ◌==◌, nat_lt, max, Bool, false, cond, List, [], ◌∷◌, Option, None, Some, Result, Ok, Err}
use Rattle.std.specs.Map.{lookup}
use Rattle.std.specs.Str.{bytes_eq}
use Rattle.rv_asm.specs.declared.source.SourceCause.{SourceCause}
use Rattle.rv_asm.specs.declared.source.SourceCause.TheVariants as cause
use Rattle.rv_asm.specs.declared.source.SourceFault.{SourceFault}
use Rattle.rv_asm.specs.declared.source.SourceFault.TheVariants.{Line as AtLine}
use Rattle.rv_asm.specs.declared.labels.Place.{Place}
use Rattle.rv_asm.specs.Syntax.{Line, Parts, line_of}
use Rattle.rv_asm.specs.Meaning.{Draft, draft_of, word_in}

-- ------------------------------------------------------------------------------ lines

-- a byte at the beginning of the first line
abbrev pub before_lines : ℕ → List (List ℕ) → List (List ℕ)
before_lines c [] = (c ∷ []) ∷ []
before_lines c (l ∷ ls) = (c ∷ l) ∷ ls

-- the lines of a text. Each ends with a line feed, but the last one may lack it
abbrev pub lines_of : List ℕ → List (List ℕ)
lines_of [] = []
lines_of (c ∷ cs) = cond (c == 10) ([] ∷ lines_of cs) (before_lines c (lines_of cs))

-- the first line
abbrev pub line_at : List ℕ → List ℕ
line_at [] = []
line_at (c ∷ cs) = cond (c == 10) [] (c ∷ line_at cs)

-- what stands from the first line feed on
abbrev pub from_feed : List ℕ → List ℕ
from_feed [] = []
from_feed (c ∷ cs) = cond (c == 10) (c ∷ cs) (from_feed cs)

-- ------------------------------------------------------------------------------ labels

-- how many instructions a line has
abbrev pub statement_size : Option Parts → ℕ
statement_size None = 0
statement_size (Some p) = 1

abbrev pub size_of : Option Line → ℕ
size_of None = 0
size_of (Some l) = statement_size l.statement

-- the place of a label: its line, and how many instructions stand before it
abbrev pub place : ℕ → ℕ → Place
place number index = record { line = number; index = index }

abbrev pub labelled : Option (List ℕ) → ℕ → ℕ → List (List ℕ × Place) → List (List ℕ × Place)
labelled None number index ps = ps
labelled (Some name) number index ps = (name, place number index) ∷ ps

-- a line outside the syntax has no label
abbrev pub with_label : Option Line → ℕ → ℕ → List (List ℕ × Place) → List (List ℕ × Place)
with_label None number index ps = ps
with_label (Some l) number index ps = labelled l.label number index ps

-- the labels of lines, of which the first has this number and this many instructions before it
abbrev pub labels_from : ℕ → ℕ → List (List ℕ) → List (List ℕ × Place)
labels_from number index [] = []
labels_from number index (l ∷ ls) = with_label (line_of l) number index (labels_from (number + 1) (index + size_of (line_of l)) ls)

-- the first place of a label in a source
unfoldable pub places_of : List ℕ → List ℕ → Option Place
places_of text name = lookup (bytes_eq name) (labels_from 1 0 (lines_of text))

-- ------------------------------------------------------------------------------ one line

-- the draft of a line's instruction, if it has one
abbrev pub some_draft : Result Draft SourceCause → Result (Option Draft) SourceCause
some_draft (Err c) = Err c
some_draft (Ok d) = Ok (Some d)

abbrev pub drafted : Option Parts → Result (Option Draft) SourceCause
drafted None = Ok None
drafted (Some p) = some_draft (draft_of p)

abbrev pub stands_before : ℕ → Option Place → Bool
stands_before number None = false
stands_before number (Some p) = nat_lt p.line number

-- a label that stands on an earlier line
abbrev pub is_twice : (List ℕ → Option Place) → ℕ → Option (List ℕ) → Bool
is_twice places number None = false
is_twice places number (Some name) = stands_before number (places name)

-- there is room for 245,760 instructions
abbrev pub sized : ℕ → Result ℕ SourceCause → Result (Option ℕ) SourceCause
sized index (Err c) = Err c
sized index (Ok w) = cond (nat_lt index 245760) (Ok (Some w)) (Err cause.Size)

abbrev pub word_for : (List ℕ → Option Place) → ℕ → Option Draft → Result (Option ℕ) SourceCause
word_for places index None = Ok None
word_for places index (Some d) = sized index (word_in places index d)

abbrev pub by_draft : (List ℕ → Option Place) → ℕ → ℕ → Option (List ℕ) → Result (Option Draft) SourceCause → Result (Option ℕ) SourceCause
by_draft places number index label (Err c) = Err c
by_draft places number index label (Ok d) = cond (is_twice places number label) (Err cause.Twice) (word_for places index d)

abbrev pub by_line : (List ℕ → Option Place) → ℕ → ℕ → Option Line → Result (Option ℕ) SourceCause
by_line places number index None = Err cause.Syntax
by_line places number index (Some l) = by_draft places number index l.label (drafted l.statement)

-- the word of the line with this number, with this many instructions before it, if it has an instruction; or, of the
-- causes in their order, the first that applies
unfoldable pub line_word : (List ℕ → Option Place) → ℕ → ℕ → List ℕ → Result (Option ℕ) SourceCause
line_word places number index line = by_line places number index (line_of line)

-- ------------------------------------------------------------------------------ the source

abbrev pub word_before : ℕ → Result (List ℕ) SourceFault → Result (List ℕ) SourceFault
word_before w (Err f) = Err f
word_before w (Ok ws) = Ok (w ∷ ws)

-- a line, before what follows it without an instruction more and with one
abbrev pub then : ℕ → Result (Option ℕ) SourceCause → Result (List ℕ) SourceFault → Result (List ℕ) SourceFault → Result (List ℕ) SourceFault
then number (Err c) same next = Err (AtLine number c)
then number (Ok None) same next = same
then number (Ok (Some w)) same next = word_before w next

-- the words of lines, of which the first has this number and this many instructions before it. A source without
-- instructions is at fault at its last line
abbrev pub assembled_from : (List ℕ → Option Place) → ℕ → ℕ → List (List ℕ) → Result (List ℕ) SourceFault
assembled_from places number index [] = cond (index == 0) (Err (AtLine (max (number - 1) 1) cause.Size)) (Ok [])
assembled_from places number index (l ∷ ls) =
    then number (line_word places number index l) (assembled_from places (number + 1) index ls) (assembled_from places (number + 1) (index + 1) ls)

-- what a source assembles to
unfoldable pub assembled : List ℕ → Result (List ℕ) SourceFault
assembled text = assembled_from (places_of text) 1 0 (lines_of text)
