use Rattle.og_seen.proofs.Numbers.{number_below, there_below, at_number, number_at}
use Rattle.og_seen.proofs.numbers_are_frames.Goals as goal

pub returns : goal.returns
returns c = record {
  number = λ s frame. (λ t. number_below s frame t, λ lt. there_below s frame lt);
  frame = λ s frame t. at_number s frame t;
  back = λ s f lt. number_at s f lt;
}
