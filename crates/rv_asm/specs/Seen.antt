-- What the reader's own values are, as lists of bytes.
use Rattle.std.specs.Prelude.{ℕ, List, Option, Result, Ok, Err}
use Rattle.std.specs.Option.{option_map}
use denote.Ref.{Bor}
use Rattle.rv_asm.specs.declared.line.Parts.{Parts}
use Rattle.rv_asm.specs.declared.line.Line.{Line}
use Rattle.rv_asm.specs.declared.meaning.Value.{Value}
use Rattle.rv_asm.specs.declared.meaning.Value.TheVariants.{NoNumber, Written, Target}
use Rattle.rv_asm.specs.declared.meaning.Draft.{Draft}
use Rattle.rv_asm.specs.declared.source.SourceCause.{SourceCause}
use Rattle.rv_asm.specs.Syntax as syntax
use Rattle.rv_asm.specs.Meaning as meaning

abbrev pub word_seen : Option (Bor (List ℕ)) → Option (List ℕ)
word_seen word = option_map (λ w. w.now) word

abbrev pub parts_seen : Parts → syntax.Parts
parts_seen p = syntax.parts p.mnemonic.now p.shape p.first.now p.second.now p.third.now

abbrev pub some_parts_seen : Option Parts → Option syntax.Parts
some_parts_seen p = option_map parts_seen p

abbrev pub line_seen : Line → syntax.Line
line_seen l = syntax.line (word_seen l.label) (some_parts_seen l.statement)

abbrev pub some_line_seen : Option Line → Option syntax.Line
some_line_seen l = option_map line_seen l

abbrev pub value_seen : Value → meaning.Value
value_seen NoNumber = meaning.NoNumber
value_seen (Written w) = meaning.Written w.now
value_seen (Target w) = meaning.Target w.now

abbrev pub draft_seen : Draft → meaning.Draft
draft_seen d = meaning.draft d.mnemonic (value_seen d.value) d.registers

abbrev pub result_draft_seen : Result Draft SourceCause → Result meaning.Draft SourceCause
result_draft_seen (Err c) = Err c
result_draft_seen (Ok d) = Ok (draft_seen d)

abbrev pub some_draft_seen : Option Draft → Option meaning.Draft
some_draft_seen d = option_map draft_seen d

abbrev pub option_draft_seen : Result (Option Draft) SourceCause → Result (Option meaning.Draft) SourceCause
option_draft_seen (Err c) = Err c
option_draft_seen (Ok d) = Ok (some_draft_seen d)
