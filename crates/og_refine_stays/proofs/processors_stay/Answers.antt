use Rattle.og_refine_stays.proofs.Stays.{start_stays, act_stays, take_stays_of}
use Rattle.og_refine_stays.proofs.processors_stay.Goals as goal

pub returns : goal.returns
returns c = record {
  start = λ image settings s p loadable nodes pages sets ways entries. start_stays image settings s p loadable nodes pages sets ways entries;
  act = λ image s x is may. act_stays image s x is may;
  take = λ image s p x message home is row. take_stays_of image s p x message home is row;
}
