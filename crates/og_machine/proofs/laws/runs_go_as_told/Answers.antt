use Rattle.og_machine.proofs.Computed.{call_traps, store_is_loaded, store_is_forced, store_is_flat, both_load}
use Rattle.og_machine.proofs.Placed.{pages_are_placed}
use Rattle.og_machine.proofs.laws.runs_go_as_told.Goals as goal

pub returns-clause-placed : goal.returns-clause-placed
returns-clause-placed c = pages_are_placed

pub returns-clause-call : goal.returns-clause-call
returns-clause-call c = call_traps

pub returns-clause-store : goal.returns-clause-store
returns-clause-store c = store_is_loaded

pub returns-clause-forced : goal.returns-clause-forced
returns-clause-forced c = store_is_forced

pub returns-clause-flat : goal.returns-clause-flat
returns-clause-flat c = store_is_flat

pub returns-clause-load : goal.returns-clause-load
returns-clause-load c = both_load
