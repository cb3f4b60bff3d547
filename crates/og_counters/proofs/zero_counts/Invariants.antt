use Rattle.std.proofs.Common.{◌≡◌, ℕ, ◌&&◌, length, cond}
use Rattle.std.specs.Prelude.{nat_le, nat_lt, slice_index}
use Rattle.og_counters.proofs.zero_counts.Given as goal

abbrev pub invariant-loop-k : goal.invariant-loop-k
invariant-loop-k l = record {
  zero : (j : ℕ) → slice_index l.counts j ≡ cond (nat_le l.first j && nat_lt j l.k) 0 (slice_index l.initial.counts j);
  same : length l.counts ≡ length l.initial.counts;
}
