-- How a home is kept: the entries of all blocks in one row, and their lines in another, 32 blocks a frame.
use Rattle.std.specs.Prelude.{◌≡◌, ℕ, ◌+◌, ◌*◌, ◌≤◌, nat_lt, List, length, slice_index_or, if◌then◌else◌}
use Rattle.og_line.specs.declared.Line.{Line}
use Rattle.og_line.specs.Line.{zero_line}
use Rattle.og_directory.specs.declared.entry.State.{State}
use Rattle.og_directory.specs.declared.entry.State.TheVariants.{Unowned}
use Rattle.og_directory.specs.Table.{NamesNodes}
use Rattle.og_counters.specs.Kept.{KeptCounts, counters_of}
use Rattle.og_home.specs.Home.{HomeState}

pub record KeptHome : Type 0 where
  pub counters : KeptCounts
  pub entries : List State
  pub lines : List Line

-- what stands in a row for a block, or else what stands for no block
unfoldable pub block_in : {X : Type 0} → List X → X → (index number : ℕ) → X
block_in row none index number = if nat_lt number 32 then slice_index_or row (index * 32 + number) none else none

-- the home that is kept
abbrev pub home_of : KeptHome → HomeState
home_of kept = record {
  rules = (counters_of kept.counters).rules;
  entry = block_in kept.entries Unowned;
  line = block_in kept.lines zero_line;
  counts = (counters_of kept.counters).frame;
}

-- what every home is: of the size that its numbers say, of a machine of at most 128 nodes, and its entries name no others
pub record IsHome (kept : KeptHome) : Type 0 where
  pub few_nodes : kept.counters.rules.nodes ≤ 128
  pub all_entries : length kept.entries ≡ kept.counters.rules.frames * 32
  pub all_lines : length kept.lines ≡ kept.counters.rules.frames * 32
  pub names : (index number : ℕ) → NamesNodes kept.counters.rules.nodes (block_in kept.entries Unowned index number)
