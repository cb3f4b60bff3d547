use Rattle.og_whole.specs.Events.{start}
use Rattle.og_whole.proofs.Runs.{starts, reached, flat_run}
use Rattle.og_whole.proofs.Safe.{lines_held}
use Rattle.og_whole.proofs.Served.{stores_land}
use Rattle.og_whole.proofs.Worlds.{events_answered}
use Rattle.og_whole.proofs.memory_is_flat.Goals as goal

pub returns-clause-accesses : goal.returns-clause-accesses
returns-clause-accesses g c = λ actors mover pages blocks sharing blank page_table role memory events end inside apart laid run. (flat_run actors mover pages blocks events (start sharing mover blank page_table role memory) end inside (starts actors mover pages blocks sharing blank page_table role memory inside apart laid) run).0

pub returns-clause-follows : goal.returns-clause-follows
returns-clause-follows g c = λ actors mover pages blocks sharing blank page_table role memory events end inside apart laid run. (flat_run actors mover pages blocks events (start sharing mover blank page_table role memory) end inside (starts actors mover pages blocks sharing blank page_table role memory inside apart laid) run).1

pub returns-clause-answered : goal.returns-clause-answered
returns-clause-answered g c = λ actors mover pages blocks w r. events_answered actors mover pages blocks w r

pub returns-clause-held : goal.returns-clause-held
returns-clause-held g c = λ actors mover pages blocks w r. lines_held actors mover pages blocks w r.inside (reached actors mover pages blocks w r)

pub returns-clause-stores : goal.returns-clause-stores
returns-clause-stores g c = λ actors mover pages blocks w r. stores_land actors mover pages blocks w r.inside (reached actors mover pages blocks w r)
