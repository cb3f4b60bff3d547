use Rattle.std.proofs.Common.{ℕ, List, ◌∷◌, ◌<◌, length, drop, subst, sym, ap, ap₂}
use Rattle.std.proofs.Math.Path.{◌∙◌}
use Rattle.rv_asm.specs.Source.{lines_of}
use Rattle.rv_asm.proofs.Texts.{first_line, shorter}
use Rattle.rv_asm.proofs.text.split_line.Goals as goal

pub returns-clause-lines : goal.returns-clause-lines
returns-clause-lines c = first_line c.args.text.now c.requires ∙ ap₂ (λ (l r : List ℕ). l ∷ lines_of r) (sym c.split_feed.ensures.line) (sym (c.skip_first.ensures ∙ ap (λ (r : List ℕ). drop 1 r) c.split_feed.ensures.from))

pub returns-clause-shorter : goal.returns-clause-shorter
returns-clause-shorter c = subst (λ (r : List ℕ). length r < length c.args.text.now) (sym (c.skip_first.ensures ∙ ap (λ (r : List ℕ). drop 1 r) c.split_feed.ensures.from)) (shorter c.args.text.now c.requires)
