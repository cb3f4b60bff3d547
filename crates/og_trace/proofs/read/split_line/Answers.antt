use Rattle.std.proofs.Common.{ℕ, List, ◌∷◌, ◌<◌, length, drop, subst, sym, ap, ap₂}
use Rattle.std.proofs.Math.Path.{◌∙◌}
use Rattle.og_trace.specs.Grammar.{lines_of}
use Rattle.og_trace.proofs.Readings.{first_line, shorter}
use Rattle.og_trace.proofs.read.split_line.Goals as goal

pub returns-clause-lines : goal.returns-clause-lines
returns-clause-lines c = first_line c.args.text.now c.requires ∙ ap₂ (λ (l r : List ℕ). l ∷ lines_of r) (sym c.split.ensures.before) (sym (c.skip.ensures ∙ ap (λ (r : List ℕ). drop 1 r) c.split.ensures.from))

pub returns-clause-shorter : goal.returns-clause-shorter
returns-clause-shorter c = subst (λ (r : List ℕ). length r < length c.args.text.now) (sym (c.skip.ensures ∙ ap (λ (r : List ℕ). drop 1 r) c.split.ensures.from)) (shorter c.args.text.now c.requires)
