use Rattle.std.proofs.Common.{◌-◌, false, arith, sym}
use Rattle.std.proofs.Math.Path.{◌∙◌}
use Rattle.std.proofs.lemmas.Grind.{common_steps}
use Rattle.og_elf.specs.declared.segment.Span.{Span}
use Rattle.og_elf.proofs.Apart.{neighbours, not_apart}
use Rattle.og_elf.proofs.overlap.neighbours_are_apart.Goals as goal

abbrev none : Span
none = record { addr = 0; size = 0; writable = false }

pub returns-then-overlaps : goal.returns-then-overlaps
returns-then-overlaps c = sym (not_apart c.args.spans.now (c.loop-i.i - 1) c.loop-i.i none (omega arith) c.loop-i-test.true (sym c.overlaps.ensures ∙ c.if-overlaps.true))

pub loop-i-preserved : goal.loop-i-preserved
loop-i-preserved c = (omega arith, λ k d lt. grind (arith, common_steps, c.loop-i.invariant.1 k d))

pub returns : goal.returns
returns c = sym (neighbours c.args.spans.now c.requires.within c.requires.rising (λ k d lt. c.loop-i.invariant.1 k d (omega arith)))
