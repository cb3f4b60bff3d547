use Rattle.og_drain_facts.proofs.Refusals.{no_nak_in_the_drain}
use Rattle.og_drain_facts.proofs.the_drain_refuses_nothing.Goals as goal

pub returns : goal.returns
returns c = no_nak_in_the_drain
