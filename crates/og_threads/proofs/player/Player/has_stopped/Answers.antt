use Rattle.og_threads.proofs.Moves.{player_stopped}
use Rattle.og_threads.proofs.player.Player.has_stopped.Goals as goal

pub returns-in-Node : goal.returns-in-Node
returns-in-Node c = player_stopped c.args.image.now c.args.self.now c.in-Node.node c.can_act.result c.is_done.result c.in-Node.is c.is_done.ensures c.can_act.ensures
