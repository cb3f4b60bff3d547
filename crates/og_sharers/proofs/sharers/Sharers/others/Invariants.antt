use Rattle.std.proofs.Common.{◌≡◌, ℕ, ◌≤◌, ◌-◌, ◌&&◌, nat_lt}
use Rattle.std.specs.FinSet as set
use Rattle.og_base.specs.Groups.{group_of}
use Rattle.og_sharers.specs.Sets.{is_other}
use Rattle.og_sharers.proofs.sharers.Sharers.others.Given as goal

abbrev pub invariant-loop-group : goal.invariant-loop-group
invariant-loop-group l = record {
  within : l.from ≤ 64;
  found : (k : ℕ) → set.contains l.others k ≡ (nat_lt (group_of l.nodes k) l.from && is_other l.self l.node l.nodes k);
}

abbrev pub decreases-loop-group : goal.decreases-loop-group
decreases-loop-group l = 64 - l.from
