use Rattle.std.proofs.Common.{◌≤◌, ◌-◌}
use Rattle.og_msg.specs.declared.Kind.TheVariants.{Invalidate}
use Rattle.og_sharers.specs.Sets.{is_other}
use Rattle.og_directory.specs.Table.{to}
use Rattle.og_directory.proofs.Rising.{Sent}
use Rattle.og_directory.proofs.home.invalidate_others.Given as goal

abbrev pub invariant-loop-node : goal.invariant-loop-node
invariant-loop-node l = record {
  within : l.from ≤ l.case.nodes;
  sent : Sent (λ q. to q (Invalidate l.case.block l.case.sender)) (is_other l.sharers l.case.sender l.case.nodes) l.initial.out l.out l.from l.count;
}

abbrev pub decreases-loop-node : goal.decreases-loop-node
decreases-loop-node l = 128 - l.from
