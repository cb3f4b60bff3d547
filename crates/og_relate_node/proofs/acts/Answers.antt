use Rattle.og_relate_node.proofs.Hits.{hart_goes, read_hits, write_hits, walk_goes}
use Rattle.og_relate_node.proofs.acts.Goals as goal

pub returns-clause-goes_on : goal.returns-clause-goes_on
returns-clause-goes_on g c = λ s harts cpu home mover w p hart rest sim lp rq. hart_goes s harts cpu home mover w p hart rest sim lp rq

pub returns-clause-reads : goal.returns-clause-reads
returns-clause-reads g c = λ s harts cpu home mover w p frame number line copy rest sim lp rq tl lk cx li. read_hits s harts cpu home mover w p frame number line copy rest sim lp rq tl lk cx li

pub returns-clause-writes : goal.returns-clause-writes
returns-clause-writes g c = λ s harts cpu home mover w p frame number line rest sim lp rq tl lk hw. write_hits s harts cpu home mover w p frame number line rest sim lp rq tl lk hw

pub returns-clause-walks : goal.returns-clause-walks
returns-clause-walks g c = λ s harts cpu home mover w p page rest sim lp rq wk tl ly. walk_goes s harts cpu home mover w p page rest sim lp rq wk tl ly
