use Rattle.og_drain_facts.proofs.Running.{nothing_is_asked}
use Rattle.og_drain_facts.proofs.Lawful.{no_request_flies}
use Rattle.og_drain_facts.proofs.nothing_is_asked.Goals as goal

pub returns-clause-nodes : goal.returns-clause-nodes
returns-clause-nodes c = nothing_is_asked

pub returns-clause-flight : goal.returns-clause-flight
returns-clause-flight c = no_request_flies
