use Rattle.std.proofs.Common.{[], ◌∷◌, ◌++◌, cond, sym, ◌∙◌, ap, arith}
use Rattle.std.specs.FinSet as set
use Rattle.og_base.specs.Numbers.{below}
use Rattle.og_msg.specs.declared.Kind.TheVariants.{DropFrame}
use Rattle.og_mover.specs.Table.{to}
use Rattle.og_mover.proofs.Kept.{told_more}
use Rattle.og_mover.proofs.Mover.tell_holders.Goals as goal

pub loop-node-init : goal.loop-node-init
unfolding below
loop-node-init c = (c.requires.empty, rw c.requires.empty (omega arith))

pub loop-node-preserved : goal.loop-node-preserved
loop-node-preserved c =
    (c.tell_holder.ensures.told ∙ (ap (λ xs. xs ++ cond (set.contains c.holders.result.now c.loop-node.node) (to c.loop-node.node (DropFrame c.args.frame) ∷ []) []) c.loop-node.invariant.0 ∙ sym (told_more (λ q. to q (DropFrame c.args.frame)) (set.contains c.holders.result.now) c.loop-node.node)), omega (arith, c.tell_holder.ensures.few, c.loop-node.invariant.1))
