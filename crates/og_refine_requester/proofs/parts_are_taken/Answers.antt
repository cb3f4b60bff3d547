use Rattle.og_refine_requester.proofs.Parts.{part_taken}
use Rattle.og_refine_requester.proofs.parts_are_taken.Goals as goal

pub returns : goal.returns
returns c = λ image s cpu home mover w p x message rest sizes is of_home lp cp to part sim. part_taken image s cpu home mover w p x message rest sizes is of_home lp cp to part sim
