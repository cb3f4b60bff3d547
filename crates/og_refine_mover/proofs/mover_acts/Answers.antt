use Rattle.og_refine_mover.proofs.Acts.{acts}
use Rattle.og_refine_mover.proofs.mover_acts.Goals as goal

pub returns : goal.returns
returns c = λ image s cpu home w m rest sizes is can sim. acts image s cpu home w m rest is can sim
