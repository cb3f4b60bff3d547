use Rattle.og_whole.proofs.Kept.{kept}
use Rattle.og_whole.proofs.Runs.{starts, reached, goes_on}
use Rattle.og_whole.proofs.invariant_is_kept.Goals as goal

pub returns-clause-starts : goal.returns-clause-starts
returns-clause-starts g c = λ actors mover pages blocks sharing blank page_table role memory inside apart laid. starts actors mover pages blocks sharing blank page_table role memory inside apart laid

pub returns-clause-kept : goal.returns-clause-kept
returns-clause-kept g c = λ actors mover pages blocks w event inside may inv. kept actors mover pages blocks w event inside may inv

pub returns-clause-holds : goal.returns-clause-holds
returns-clause-holds g c = λ actors mover pages blocks w r. reached actors mover pages blocks w r

pub returns-clause-goes_on : goal.returns-clause-goes_on
returns-clause-goes_on g c = λ actors mover pages blocks w end events r on. goes_on actors mover pages blocks w end events r on
