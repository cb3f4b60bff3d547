-- The count and the accesses that are left make up the whole number.
use Rattle.std.proofs.Common.{◌≡◌, ◌+◌, ◌≤◌, drop}
use Rattle.og_trace.specs.Text.{access_count}
use Rattle.og_trace.proofs.write.count_accesses.Given as goal

abbrev pub invariant-loop-event : goal.invariant-loop-event
invariant-loop-event l = record {
  within : l.count ≤ l.event-index;
  split : l.count + access_count (drop l.event-index l.events) ≡ access_count l.events;
}
