use Rattle.og_block.specs.State.{start}
use Rattle.og_block.proofs.Bounded.{bounded_run, bounded_start}
use Rattle.og_block.proofs.replies_are_bounded.Goals as goal

pub returns : goal.returns
returns g c = λ n sharing memory rows b run q lt. bounded_run n rows (start sharing memory) b (λ p lp. bounded_start n sharing memory p lp) run q lt
