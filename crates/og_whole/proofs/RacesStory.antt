-- The guards of the run with races hold, by computation.
use Rattle.std.proofs.Common.{arith, refl}
use Rattle.og_whole.specs.Races.{RacesHappen}

pub races_happen : RacesHappen
races_happen = record {
  walk = (((refl, refl, refl, omega arith), refl), (((refl, refl, refl), refl), ((refl, refl), (((refl, refl, refl, omega arith), refl), (((refl, refl, refl), refl), ((refl, refl), refl))))));
  intervention = (((refl, refl, refl), omega arith, omega arith, (refl, refl, refl, omega arith)), (((refl, refl), omega arith, omega arith, tt), (((refl, refl, refl), omega arith, omega arith, refl), (((refl, refl, refl), omega arith, omega arith, (refl, refl, refl, omega arith)), (((refl, refl, omega arith), omega arith, omega arith, tt), (((refl, refl, refl, refl), omega arith, omega arith, tt), (((refl, refl, refl), omega arith, omega arith, refl), (((refl, refl), omega arith, omega arith, tt), refl))))))));
  upgrade = (((refl, refl), omega arith, omega arith, (refl, refl, refl, omega arith)), (((refl, refl, refl, refl), omega arith, omega arith, tt), (((refl, refl), omega arith, omega arith, tt), ((refl, omega arith, omega arith, tt), (((refl, refl, refl), omega arith, omega arith, refl), refl)))));
  crossing = (((refl, refl, refl), omega arith, omega arith, (refl, refl, refl, omega arith)), (((refl, refl, omega arith), omega arith, omega arith, tt), (((refl, refl, refl), omega arith, omega arith, refl), (((refl, refl), omega arith, omega arith, tt), (((refl, refl), omega arith, omega arith, tt), (((refl, refl), omega arith, omega arith, tt), (((refl, refl, refl), omega arith, omega arith, refl), refl)))))));
  is_shared = refl;
  is_upgraded = refl;
  is_answered = refl;
  is_settled = refl;
}
