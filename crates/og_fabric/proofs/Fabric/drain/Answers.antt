use Rattle.std.proofs.Common.{rules}
use Rattle.og_fabric.proofs.Draining.{begins, drains_here, drained_more, drained}
use Rattle.og_fabric.proofs.Fabric.drain.Goals as goal

pub loop-init : goal.loop-init
loop-init g c = (search rules, begins c.new-left.result.items _ (search rules) c.requires.alone c.requires.order)

pub pop_as-requires-clause-rule : goal.pop_as-requires-clause-rule
pop_as-requires-clause-rule g c = drains_here _ _ _ _ _ c.loop.left.items _ _ c.loop.invariant.1 c.requires.some c.requires.all c.requires.order

pub loop-preserved : goal.loop-preserved
loop-preserved g c = (
  search rules,
  drained_more c.loop.left.items c.push.new.self.items _ _ _ c.in-Some-pop_as.message c.loop.invariant.1 (search rules) c.in-Some-pop_as.ensures.rule,
)

pub returns-in-None-pop_as : goal.returns-in-None-pop_as
returns-in-None-pop_as g c = record { left = drained _ _ _ _ c.loop.left.items _ _ c.loop.invariant.1 c.in-None-pop_as.ensures.rule.1 }
