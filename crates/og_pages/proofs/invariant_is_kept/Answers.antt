use Rattle.og_pages.proofs.Kept.{kept}
use Rattle.og_pages.proofs.Runs.{starts, goes_on}
use Rattle.og_pages.proofs.invariant_is_kept.Goals as goal

pub returns-clause-starts : goal.returns-clause-starts
returns-clause-starts g c = λ pages blocks blank page_table role memory laid. starts pages blocks blank page_table role memory laid

pub returns-clause-kept : goal.returns-clause-kept
returns-clause-kept g c = λ pages blocks s row may inv. kept pages blocks s row may inv

pub returns-clause-goes_on : goal.returns-clause-goes_on
returns-clause-goes_on g c = λ pages blocks s end rows r on. goes_on pages blocks s end rows r on
