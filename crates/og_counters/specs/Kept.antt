-- How the counters are kept: the counts of all frames in one row, frame after frame, and beside them the sum of each
-- frame's counts and whether a notice of it is open.
use Rattle.std.specs.Prelude.{◌≡◌, ℕ, ◌+◌, ◌*◌, ◌<◌, ◌≤◌, nat_lt, Bool, false, List, length, slice_index, slice_index_or, if◌then◌else◌}
use Rattle.og_counters.specs.declared.CountRules.{CountRules}
use Rattle.og_counters.specs.Counts.{FrameCounts, CountersState, sum_of}

pub record KeptCounts : Type 0 where
  pub rules : CountRules
  pub counts : List ℕ
  pub sums : List ℕ
  pub noticed : List Bool

-- the counts of a frame in the row
unfoldable pub count_in : (nodes : ℕ) → List ℕ → (index node : ℕ) → ℕ
count_in nodes counts index node = if nat_lt node nodes then slice_index counts (index * nodes + node) else 0

-- what is kept of a frame
unfoldable pub frame_in : KeptCounts → ℕ → FrameCounts
frame_in kept index = record {
  count = count_in kept.rules.nodes kept.counts index;
  noticed = slice_index_or kept.noticed index false;
}

-- the counters that are kept
abbrev pub counters_of : KeptCounts → CountersState
counters_of kept = record { rules = kept.rules; frame = frame_in kept }

-- what all counters are: of the size that their numbers say, with the sum of each frame's counts, which is below the reset
pub record AreCounters (kept : KeptCounts) : Type 0 where
  pub home_is_node : kept.rules.home < kept.rules.nodes
  pub trigger_is_some : 1 ≤ kept.rules.trigger
  pub trigger_in_range : kept.rules.trigger ≤ 1000000
  pub reset_is_some : 1 ≤ kept.rules.reset
  pub reset_in_range : kept.rules.reset ≤ 1000000
  pub all_counts : length kept.counts ≡ kept.rules.frames * kept.rules.nodes
  pub all_sums : length kept.sums ≡ kept.rules.frames
  pub all_noticed : length kept.noticed ≡ kept.rules.frames
  pub sums_are : (index : ℕ) → slice_index kept.sums index ≡ sum_of kept.rules.nodes (count_in kept.rules.nodes kept.counts index)
  pub sums_are_low : (index : ℕ) → slice_index kept.sums index < kept.rules.reset
