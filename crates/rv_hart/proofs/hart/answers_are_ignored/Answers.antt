use Rattle.rv_hart.proofs.Answers.{answer_ignored}
use Rattle.rv_hart.proofs.hart.answers_are_ignored.Goals as goal

pub returns : goal.returns
returns c = answer_ignored
