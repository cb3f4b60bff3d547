use Rattle.og_shown.proofs.Movers.{copy_waits, cleaning_waits, gather_waits}
use Rattle.og_shown.proofs.mover_has_messages.Goals as goal

pub returns-clause-copies : goal.returns-clause-copies
returns-clause-copies g c = λ s harts m w page old new number sim job. copy_waits s harts m w page old new number sim job

pub returns-clause-cleanings : goal.returns-clause-cleanings
returns-clause-cleanings g c = λ s harts m w frame sim job. cleaning_waits s harts m w frame sim job

pub returns-clause-gathers : goal.returns-clause-gathers
returns-clause-gathers g c = λ s harts m w frame q sim job held. gather_waits s harts m w frame q sim job held
