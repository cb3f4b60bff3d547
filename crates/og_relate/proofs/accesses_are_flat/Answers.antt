use Rattle.og_relate.proofs.Flat.{made_flat}
use Rattle.og_relate.proofs.accesses_are_flat.Goals as goal

pub returns : goal.returns
returns g c = λ s harts m w made re goes. made_flat s harts m w made re goes
