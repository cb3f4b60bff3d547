use Rattle.og_relate_node.proofs.Parts.{reply_taken, response_taken}
use Rattle.og_relate_node.proofs.requests_end.Goals as goal

pub returns-clause-replies : goal.returns-clause-replies
returns-clause-replies g c = λ s harts cpu home mover w p frame number got message rest setup lp sim gm. reply_taken s harts cpu home mover w p frame number got message rest setup lp sim gm

pub returns-clause-responses : goal.returns-clause-responses
returns-clause-responses g c = λ s harts cpu home mover w p frame number response message rest setup lp sim gm. response_taken s harts cpu home mover w p frame number response message rest setup lp sim gm
