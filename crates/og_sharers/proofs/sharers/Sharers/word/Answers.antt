use Rattle.std.proofs.Common.{◌∙◌, ap, sym}
use Rattle.std.specs.FinSet as set
use Rattle.og_sharers.proofs.Words.{member_low}
use Rattle.og_sharers.specs.Sets.{word_of}
use Rattle.og_sharers.specs.SetLaws.{word_of-members_of}
use Rattle.og_sharers.proofs.sharers.Sharers.word.Goals as goal

pub returns-clause-value : goal.returns-clause-value
returns-clause-value c = sym (word_of-members_of 64 c.self.inside.bits c.self.invariant) ∙ ap (λ s. word_of 64 s) c.self.view_is

pub returns-clause-few : goal.returns-clause-few
returns-clause-few c = λ k member. member_low 64 c.self.inside.bits k (ap (λ s. set.contains s k) c.self.view_is ∙ member)
