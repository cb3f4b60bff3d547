-- A home seen with numbers for frames.
use Rattle.std.specs.Prelude.{ℕ, ◌/◌, ◌%◌, Bool, false, ◌&&◌, nat_eq, nat_lt, cond, Option, None, Some, option_map}
use Rattle.std.specs.Ordering.{nat_cmp}
use Rattle.std.specs.FinSet as set
use Rattle.og_base.specs.Groups.{group_of}
use Rattle.og_base.specs.declared.Block.{Block}
use Rattle.og_base.specs.declared.Hot.{Hot}
use Rattle.og_line.specs.Line.{zero_line}
use Rattle.og_line.specs.declared.Line.{Line}
use Rattle.og_directory.specs.declared.entry.State.{State}
use Rattle.og_directory.specs.declared.entry.State.TheVariants.{Unowned, Shared, Exclusive, BusyShared, BusyExclusive, BusyPoison, Poison}
use Rattle.og_counters.specs.Counts.{notice_of}
use Rattle.og_home.specs.Home.{HomeState, counters_in}
use Rattle.og_relate.specs.Data.{HomeEntry, HUnowned, HShared, HExclusive, HBusyShared, HBusyExclusive, HBusyPoison, HPoison, HomeSide}
use Rattle.og_seen.specs.Numbers.{Sizes}

-- the nodes whose groups these are
abbrev pub nodes_of : (nodes : ℕ) → set.FinSet nat_cmp → ℕ → Bool
nodes_of nodes groups node = nat_lt node nodes && set.contains groups (group_of nodes node)

abbrev pub entry_seen : (nodes : ℕ) → State → HomeEntry
entry_seen nodes Unowned = HUnowned
entry_seen nodes (Shared groups) = HShared (nodes_of nodes groups)
entry_seen nodes (Exclusive owner) = HExclusive owner
entry_seen nodes (BusyShared owner requester) = HBusyShared owner requester
entry_seen nodes (BusyExclusive owner requester returned) = HBusyExclusive owner requester returned
entry_seen nodes (BusyPoison owner) = HBusyPoison owner
entry_seen nodes Poison = HPoison

-- the frame is one of the home's
abbrev pub is_at : Sizes → HomeState → ℕ → Bool
is_at s home f = nat_eq (f / s.frames) home.rules.home

-- of frames of other homes a home has nothing
abbrev pub home_seen : Sizes → HomeState → HomeSide Line
home_seen s home = record {
  entry = λ f k. cond (is_at s home f) (entry_seen s.nodes (home.entry (f % s.frames) k)) HUnowned;
  line = λ f k. cond (is_at s home f) (home.line (f % s.frames) k) zero_line;
  noticed = λ f. cond (is_at s home f) (home.counts (f % s.frames)).noticed false;
}

-- what the counters say to a counted request of a node for a block: a notice, with its count and the greatest of the others
abbrev pub notice_seen : Option Hot → Option (ℕ × ℕ)
notice_seen notice = option_map (λ hot. (hot.count, hot.most)) notice

abbrev pub hot_seen : HomeState → Option Block → (node : ℕ) → Option (ℕ × ℕ)
hot_seen home None node = None
hot_seen home (Some b) node = notice_seen (notice_of (counters_in home) b.frame.index node)
