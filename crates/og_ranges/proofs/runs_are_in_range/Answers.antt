use Rattle.og_ranges.proofs.Texts.{runs_are_in_range}
use Rattle.og_ranges.proofs.runs_are_in_range.Goals as goal

pub returns : goal.returns
returns c = runs_are_in_range
