use Rattle.og_refine.proofs.Lawful.{messages_rows, exact_refusals}
use Rattle.og_refine.proofs.messages_have_rows.Goals as goal

pub returns-clause-rows : goal.returns-clause-rows
returns-clause-rows c = messages_rows

pub returns-clause-refusals : goal.returns-clause-refusals
returns-clause-refusals c = exact_refusals
