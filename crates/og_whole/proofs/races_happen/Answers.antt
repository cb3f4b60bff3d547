use Rattle.og_whole.proofs.RacesStory.{races_happen}
use Rattle.og_whole.proofs.races_happen.Goals as goal

pub returns : goal.returns
returns c = record { happens = races_happen }
