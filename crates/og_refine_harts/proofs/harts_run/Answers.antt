use Rattle.og_refine_harts.proofs.Flats.{hart_runs_are_flat}
use Rattle.og_refine_harts.proofs.harts_run.Goals as goal

pub returns : goal.returns
returns c = λ image settings events run answered. hart_runs_are_flat image settings events run answered
