use Rattle.og_shown.proofs.Waits.{request_waits, slot_waits, walk_waits, collect_waits}
use Rattle.og_shown.proofs.waiters_have_messages.Goals as goal

pub returns-clause-requests : goal.returns-clause-requests
returns-clause-requests g c = λ s harts m w p request sim patient range lp rq. request_waits s harts m w p request sim patient range lp rq

pub returns-clause-slots : goal.returns-clause-slots
returns-clause-slots g c = λ s harts m w p slot sim patient range lp sl. slot_waits s harts m w p slot sim patient range lp sl

pub returns-clause-walks : goal.returns-clause-walks
returns-clause-walks g c = λ s harts m w p page sim lp wk. walk_waits s harts m w p page sim lp wk

pub returns-clause-collects : goal.returns-clause-collects
returns-clause-collects g c = λ s harts m w page old new number acks reply sim patient job. collect_waits s harts m w page old new number acks reply sim patient job
