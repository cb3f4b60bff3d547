use Rattle.og_relate.proofs.Settle.{settle_any}
use Rattle.og_relate.proofs.TakeAck.{ack_taken}
use Rattle.og_relate.proofs.Act.{act_misses}
use Rattle.og_relate.proofs.nodes_go_on.Goals as goal

pub returns-clause-settles : goal.returns-clause-settles
returns-clause-settles g c = λ s harts cpu home mover w p frame number c request rest setup lp sim rq at lk. settle_any s harts cpu home mover p frame number c request rest w setup lp sim rq at lk

pub returns-clause-acknowledged : goal.returns-clause-acknowledged
returns-clause-acknowledged g c = λ s harts cpu home mover w q p frame number rest setup lp sim. ack_taken s harts cpu home mover w q p frame number rest setup lp sim

pub returns-clause-misses : goal.returns-clause-misses
returns-clause-misses g c = λ s harts cpu home mover w p frame number out rest sim lp rq wk tl lk copy cp vf reads rd nd ncl may. act_misses s harts cpu home mover w p frame number out rest sim lp rq wk tl lk copy cp vf reads rd nd ncl may
