use Rattle.std.proofs.Common.{◌≡◌, ◌≤◌, length, map}
use Rattle.std.specs.List.{filter}
use Rattle.std.specs.FinSet as set
use Rattle.og_base.specs.Numbers.{below}
use Rattle.og_msg.specs.declared.Kind.TheVariants.{DropFrame}
use Rattle.og_mover.specs.Table.{to}
use Rattle.og_mover.proofs.Mover.tell_holders.Given as goal

abbrev pub invariant-loop-node : goal.invariant-loop-node
invariant-loop-node l = (l.out ≡ map (λ q. to q (DropFrame l.frame)) (filter (set.contains l.holders) (below l.node))) × (length l.out ≤ l.node)
