-- What holds of every node.
use Rattle.std.specs.Prelude.{◌≡◌, ◌↔◌, true}
use Rattle.og_runs.specs.declared.Msg.{Msg}
use Rattle.og_msg.specs.declared.Kind.{Kind}
use Rattle.og_node.specs.Node.{NodeState, HasRow}
use Rattle.og_node.specs.Rows.{has_row}

-- the test says whether a message has a row
abbrev pub RowsAreTested : Type 0
RowsAreTested = (x : NodeState) (msg : Msg Kind) → (has_row x msg ≡ true) ↔ HasRow x msg
