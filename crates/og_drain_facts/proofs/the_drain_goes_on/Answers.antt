use Rattle.og_drain_facts.proofs.Stopped.{drain_goes_on, drain_ends_quiet}
use Rattle.og_drain_facts.proofs.the_drain_goes_on.Goals as goal

pub returns-clause-goes_on : goal.returns-clause-goes_on
returns-clause-goes_on c = drain_goes_on

pub returns-clause-quiet : goal.returns-clause-quiet
returns-clause-quiet c = drain_ends_quiet
