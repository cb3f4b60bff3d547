use Rattle.og_relate_home.proofs.Table.{taken}
use Rattle.og_relate_home.proofs.table_is_kept.Goals as goal

pub returns : goal.returns
returns g c = λ s harts m w x hot setup sim homes quiet. taken s harts m w x hot setup sim homes quiet
