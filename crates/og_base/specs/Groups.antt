-- Groups of nodes, as a directory's bits name them: a node of its own up to 64 nodes, pairs of neighbours above.
use Rattle.std.specs.Prelude.{ℕ, ◌/◌, nat_le, cond}

-- how many nodes a group has, in a machine of so many nodes
abbrev pub group_size : ℕ → ℕ
group_size nodes = cond (nat_le nodes 64) 1 2

-- the group of a node
abbrev pub group_of : ℕ → ℕ → ℕ
group_of nodes node = node / group_size nodes
