use Rattle.og_node.proofs.Rows.{row_told}
use Rattle.og_node.proofs.laws.rows_are_tested.Goals as goal

pub returns : goal.returns
returns c = row_told
