use Rattle.std.proofs.Common.{◌≡◌, ◌⊎◌, List, ℕ, Err, inl, inr}
use Rattle.rv_asm.specs.declared.source.SourceFault.TheVariants.{TooLong, Memory}
use Rattle.rv_asm.specs.Source.{assembled}
use Rattle.og_tools.proofs.Sources.{source_room, never_long}
use Rattle.og_tools.proofs.source.words_of_source.Goals as goal

pub returns-in-Ok-clause-room : goal.returns-in-Ok-clause-room
returns-in-Ok-clause-room c = source_room c.args.text.now c.in-Ok.words c.in-Ok.ensures.words

-- the assembler never answers that a source is too long
not_long : (text : List ℕ) → (TooLong ≡ Memory) ⊎ (assembled text ≡ Err TooLong) → ⊥
not_long text (inl want) = absurd (cc want)
not_long text (inr long) = never_long text long

pub returns-in-Err-TooLong-clause-short : goal.returns-in-Err-TooLong-clause-short
returns-in-Err-TooLong-clause-short c = λ same.
    let is : c.in-Err-TooLong.field-0 ≡ TooLong = c.in-Err-TooLong.field-0-is in
    not_long c.args.text.now (c.in-Err-TooLong.ensures.refused TooLong (cc is))
