use Rattle.og_refine_flight.proofs.Order.{found_comes_first, sent_are_appended}
use Rattle.og_refine_flight.proofs.order_is_free.Goals as goal

pub returns-clause-found : goal.returns-clause-found
returns-clause-found g c = λ s harts m w seen id message messages distinct found sim. found_comes_first s harts m w seen id message messages distinct found sim

pub returns-clause-sent : goal.returns-clause-sent
returns-clause-sent g c = λ s harts m w seen messages sent sim. sent_are_appended s harts m w seen messages sent sim
