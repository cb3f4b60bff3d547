use Rattle.og_tools.proofs.Images.{holds}
use Rattle.og_tools.proofs.laws.images_hold_their_words.Goals as goal

pub returns : goal.returns
returns c = holds
