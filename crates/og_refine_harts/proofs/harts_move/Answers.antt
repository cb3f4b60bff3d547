use Rattle.og_refine_harts.proofs.Moves.{act_moves, take_moves}
use Rattle.og_refine_harts.proofs.harts_move.Goals as goal

pub returns : goal.returns
returns c = record {
  act = λ image x may. act_moves image x may;
  take = λ image x kind sound. take_moves image x kind sound;
}
