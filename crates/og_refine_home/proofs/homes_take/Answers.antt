use Rattle.og_refine_home.proofs.Taken.{homes_take}
use Rattle.og_refine_home.proofs.homes_take.Goals as goal

pub returns : goal.returns
returns c image s cpu home mover w p x message rest sizes is low home_is to_is for sim = homes_take image s cpu home mover w p x message rest is home_is to_is for sim
