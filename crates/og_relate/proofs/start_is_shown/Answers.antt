use Rattle.og_relate.proofs.Begins.{begins}
use Rattle.og_relate.proofs.start_is_shown.Goals as goal

pub returns : goal.returns
returns g c = λ s harts hart blank page_table role memory lines uses bit laid roles inside ln. begins s harts hart blank page_table role memory lines uses bit laid roles inside ln
