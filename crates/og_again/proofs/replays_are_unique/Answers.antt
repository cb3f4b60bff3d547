use Rattle.og_again.proofs.Unique.{runs_replay, replays_are_unique}
use Rattle.og_again.proofs.replays_are_unique.Goals as goal

pub returns-clause-replay : goal.returns-clause-replay
returns-clause-replay c = runs_replay

pub returns-clause-unique : goal.returns-clause-unique
returns-clause-unique c = replays_are_unique
