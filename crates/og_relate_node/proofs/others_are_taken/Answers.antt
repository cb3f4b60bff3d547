use Rattle.og_relate_node.proofs.Invalidations.{invalidation_taken}
use Rattle.og_relate_node.proofs.Walks.{walk_taken, retry_taken, drop_taken}
use Rattle.og_relate_node.proofs.others_are_taken.Goals as goal

pub returns-clause-invalidated : goal.returns-clause-invalidated
returns-clause-invalidated g c = λ s harts cpu home mover w p requester frame number rest sim lp. invalidation_taken s harts cpu home mover w p requester frame number rest sim lp

pub returns-clause-walked : goal.returns-clause-walked
returns-clause-walked g c = λ s harts cpu home mover w p page frame out rest sim lp. walk_taken s harts cpu home mover w p page frame out rest sim lp

pub returns-clause-over : goal.returns-clause-over
returns-clause-over g c = λ s harts cpu home mover w p page rest sim lp. retry_taken s harts cpu home mover w p page rest sim lp

pub returns-clause-dropped : goal.returns-clause-dropped
returns-clause-dropped g c = λ s harts cpu home mover w p frame rest sim lp. drop_taken s harts cpu home mover w p frame rest sim lp
