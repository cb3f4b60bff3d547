use Rattle.og_headline.proofs.Sorted.{printed, names_choices}
use Rattle.og_headline.proofs.runs_are_printed.Goals as goal

pub returns-clause-printed : goal.returns-clause-printed
returns-clause-printed c = printed

pub returns-clause-choices : goal.returns-clause-choices
returns-clause-choices c = names_choices
