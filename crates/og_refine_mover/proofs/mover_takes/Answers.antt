use Rattle.og_refine_mover.proofs.Takes.{takes}
use Rattle.og_refine_mover.proofs.mover_takes.Goals as goal

pub returns : goal.returns
returns c = λ image s cpu home w m message rest sizes is ours sim. takes image s cpu home w m message rest sizes is ours sim
