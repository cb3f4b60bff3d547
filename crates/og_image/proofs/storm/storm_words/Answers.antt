use Rattle.std.proofs.Common.{ap}
use Rattle.og_image.specs.Storm.{storm_words}
use Rattle.og_image.proofs.storm.storm_words.Goals as goal

pub returns : goal.returns
returns c = ap storm_words c.from.ensures
