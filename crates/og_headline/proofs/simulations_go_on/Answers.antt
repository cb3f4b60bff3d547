use Rattle.og_headline.proofs.Drawn.{simulation_goes_on}
use Rattle.og_headline.proofs.simulations_go_on.Goals as goal

pub returns : goal.returns
returns c = simulation_goes_on
