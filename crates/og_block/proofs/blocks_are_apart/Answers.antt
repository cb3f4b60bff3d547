use Rattle.og_block.proofs.Run.{starts, one_writer}
use Rattle.og_block.proofs.Held.{held_line}
use Rattle.og_block.proofs.Blocks.{kept_run_all, flat_run_all}
use Rattle.og_block.specs.Run.{flat_end_all}
use Rattle.og_block.specs.State.{start}
use Rattle.og_block.proofs.blocks_are_apart.Goals as goal

pub returns : goal.returns
returns g c = record {
  flat = λ n k memory steps b run. flat_run_all n memory steps (λ j. start k (memory j)) b (λ j. starts n k (memory j)) run;
  held = λ n k memory steps b run j. (one_writer n (flat_end_all memory steps j) (b j) (kept_run_all n memory steps (λ i. start k (memory i)) b (λ i. starts n k (memory i)) run j), held_line n (flat_end_all memory steps j) (b j) (kept_run_all n memory steps (λ i. start k (memory i)) b (λ i. starts n k (memory i)) run j));
}
