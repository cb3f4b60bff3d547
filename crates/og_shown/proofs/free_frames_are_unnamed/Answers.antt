use Rattle.og_shown.proofs.Copies.{free_frames_are_unnamed}
use Rattle.og_shown.proofs.free_frames_are_unnamed.Goals as goal

pub returns : goal.returns
returns g c = λ s harts m w frame sim free. free_frames_are_unnamed s harts m w frame sim free
