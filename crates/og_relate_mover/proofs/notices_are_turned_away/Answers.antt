use Rattle.og_relate_mover.proofs.Notices.{turned_away}
use Rattle.og_relate_mover.proofs.notices_are_turned_away.Goals as goal

pub returns : goal.returns
returns g c = λ s harts cpu home mover w a frame node count most rest sim. turned_away s harts cpu home mover w a frame node count most rest sim
