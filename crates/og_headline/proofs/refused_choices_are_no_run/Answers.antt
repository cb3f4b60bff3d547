use Rattle.og_headline.proofs.Refused.{refused_is_no_run}
use Rattle.og_headline.proofs.refused_choices_are_no_run.Goals as goal

pub returns : goal.returns
returns c = refused_is_no_run
