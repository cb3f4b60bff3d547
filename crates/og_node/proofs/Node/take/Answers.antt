use Rattle.std.proofs.Common.{sym, subst}
use Rattle.og_processor.specs.Sound.{IsSound}
use Rattle.og_node.proofs.Node.take.Goals as goal

pub take-requires-clause-sound : goal.take-requires-clause-sound
take-requires-clause-sound c = subst (λ n. IsSound c.args.image.now n.processor) (sym c.self.view_is) c.requires.sound
