use Rattle.og_drain_facts.proofs.Lawful.{busy_blocks_have_revisions, drain_meets_no_busy_block}
use Rattle.og_drain_facts.proofs.busy_blocks_have_revisions.Goals as goal

pub returns-clause-revisions : goal.returns-clause-revisions
returns-clause-revisions c = busy_blocks_have_revisions

pub returns-clause-drain : goal.returns-clause-drain
returns-clause-drain c = drain_meets_no_busy_block
