use Rattle.std.proofs.Common.{ap, ◌∙◌}
use Rattle.og_fabric.proofs.Here.{puts_back_here}
use Rattle.og_fabric.proofs.Fabric.push_back.Goals as goal

pub push_as-requires-clause-rule : goal.push_as-requires-clause-rule
push_as-requires-clause-rule g c = let i = c.seat.invariant in let s = c.self.invariant in
    puts_back_here _ _ _ _ _ _ _ _ _ c.args.seat.now.side c.args.message i.1 (ap (λ k. k.side) c.seat.view_is) c.requires.actor (ap (λ k. k.side.hand) c.seat.view_is ∙ c.requires.carried) s.1
