-- The guards of the example run hold, by computation.
use Rattle.std.proofs.Common.{arith, refl}
use Rattle.std.proofs.lemmas.Bool.Decides.{nat_tests}
use Rattle.og_whole.specs.Example.{Happens}

pub happens : Happens
happens = record {
  first_store = (((refl, refl, refl, omega arith), refl), (((refl, refl, refl), refl), ((refl, refl), (((refl, refl, refl), omega arith, omega arith, (refl, refl, refl, omega arith)), (((refl, refl), omega arith, omega arith, tt), (((refl, refl, refl), refl), (((refl, refl, refl), omega arith, omega arith, refl), refl)))))));
  move = (((refl, refl, refl, refl, omega arith), refl), (((refl, refl, refl), omega arith, omega arith, (refl, refl)), (((refl, refl, omega arith), omega arith, omega arith, tt), (((refl, refl, refl, refl), omega arith, omega arith, tt), (((refl, refl), omega arith, omega arith, tt), (((refl, refl, refl), omega arith, omega arith, refl), ((refl, refl), (((refl, refl, refl, refl), omega arith, omega arith, (refl, refl, refl)), (((refl, refl, refl), refl), ((refl, refl), refl))))))))));
  drop_and_free = (((refl, refl, refl), omega arith, omega arith, (refl, refl, refl, omega arith)), (((refl, refl), omega arith, omega arith, tt), (((refl, refl), refl), ((refl, refl), ((refl, omega arith, omega arith, ((λ e. absurd (omega arith)), (λ e. refl))), ((tt, refl), (((refl, refl, refl, refl), refl), (((refl, refl, refl, omega arith), refl), (((refl, refl, refl), refl), (((refl, refl), refl), (((refl, λ node. grind (arith, nat_tests)), refl), ((refl, refl), (((refl, refl), refl), (((refl, refl), refl), refl))))))))))))));
  load_and_move_back = ((refl, refl), (((refl, refl, refl), omega arith, omega arith, (refl, refl, refl, omega arith)), (((refl, refl), omega arith, omega arith, tt), (((refl, refl, refl), refl), (((refl, refl), omega arith, omega arith, refl), (((refl, refl, refl, refl, omega arith), refl), refl))))));
  is_stored = refl;
  is_moved = refl;
  is_free = refl;
  is_loaded = refl;
  moves_back = refl;
}
