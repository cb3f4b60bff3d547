use Rattle.og_relate_mover.proofs.Holders.{walk_taken}
use Rattle.og_relate_mover.proofs.walks_are_served.Goals as goal

pub returns : goal.returns
returns g c = λ s harts cpu home mover w p page rest sim. walk_taken s harts cpu home mover w p page rest sim
