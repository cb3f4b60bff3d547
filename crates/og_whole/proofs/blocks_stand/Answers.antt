use Rattle.og_whole.proofs.Worlds.{blocks_ready, blocks_race, replies_bounded, pages_send, sharing_stays}
use Rattle.og_whole.proofs.blocks_stand.Goals as goal

pub returns-clause-ready : goal.returns-clause-ready
returns-clause-ready g c = λ actors mover pages blocks w r. blocks_ready actors mover pages blocks w r

pub returns-clause-races : goal.returns-clause-races
returns-clause-races g c = λ actors mover pages blocks w r. blocks_race actors mover pages blocks w r

pub returns-clause-bounded : goal.returns-clause-bounded
returns-clause-bounded g c = λ actors mover pages blocks w r. replies_bounded actors mover pages blocks w r

pub returns-clause-sent : goal.returns-clause-sent
returns-clause-sent g c = λ actors mover pages blocks w r. pages_send actors mover pages blocks w r

pub returns-clause-sharing : goal.returns-clause-sharing
returns-clause-sharing g c = λ actors mover event w frame number. sharing_stays actors mover event w frame number
