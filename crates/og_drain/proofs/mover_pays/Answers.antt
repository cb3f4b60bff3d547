use Rattle.og_drain.proofs.Movers.{act_pays, take_pays}
use Rattle.og_drain.proofs.mover_pays.Goals as goal

pub returns : goal.returns
returns c = record {
  act = λ nodes m same is can. act_pays nodes m same is can;
  take = λ nodes m message same is has. take_pays nodes m message is has;
}
