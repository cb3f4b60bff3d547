use Rattle.std.proofs.Common.{◌≡◌, ℕ, ◌&&◌, length, cond}
use Rattle.std.specs.Prelude.{nat_le, nat_lt, slice_index_or}
use Rattle.og_directory.specs.declared.entry.State.TheVariants.{Unowned}
use Rattle.og_home.proofs.disown.Given as goal

abbrev pub invariant-loop-k : goal.invariant-loop-k
invariant-loop-k l = record {
  unowned : (j : ℕ) → slice_index_or l.entries j Unowned ≡ cond (nat_le l.first j && nat_lt j l.k) Unowned (slice_index_or l.initial.entries j Unowned);
  same : length l.entries ≡ length l.initial.entries;
}
