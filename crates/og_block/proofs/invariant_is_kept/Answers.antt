use Rattle.og_block.proofs.All.{kept}
use Rattle.og_block.proofs.Run.{starts, reached}
use Rattle.og_block.proofs.invariant_is_kept.Goals as goal

pub returns-clause-starts : goal.returns-clause-starts
returns-clause-starts g c = λ n sharing memory. starts n sharing memory

pub returns-clause-kept : goal.returns-clause-kept
returns-clause-kept g c = λ n cell b row may inside inv. kept n cell b row may inv inside

pub returns-clause-holds : goal.returns-clause-holds
returns-clause-holds g c = λ n sharing memory rows b run. reached n sharing memory rows b run
