use Rattle.og_slots.proofs.Count.{none_counted, count_none, count_most, count_less}
use Rattle.og_slots.proofs.counts_are_right.Goals as goal

pub returns : goal.returns
returns c = record {
  none = λ n test. (λ is k lt. none_counted n test k is lt, λ h. count_none n test h);
  most = λ n test. count_most n test;
  one_less = λ n p before after lt yes_ no_ same. count_less n before after p lt yes_ no_ same;
}
