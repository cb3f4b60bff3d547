use Rattle.og_shown.proofs.Lines.{lines_are_held}
use Rattle.og_shown.proofs.lines_are_held.Goals as goal

pub returns : goal.returns
returns g c = λ s harts m w page number sim lp lk lf. lines_are_held s harts m w page number sim lp lk lf
