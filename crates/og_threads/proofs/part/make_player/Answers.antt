use Rattle.og_threads.proofs.Whole.{suits_here}
use Rattle.og_threads.proofs.part.make_player.Goals as goal

pub make-requires-2 : goal.make-requires-2
make-requires-2 c = suits_here c.args.image.now c.args.layout.now c.args.settings.now c.layout_suits.ensures c.requires
