use Rattle.og_relate.proofs.Notice.{read_taken}
use Rattle.og_relate_home.proofs.Taken.{read_exclusive_taken, upgrade_taken}
use Rattle.og_relate_home.proofs.requests_are_served.Goals as goal

pub returns-clause-read : goal.returns-clause-read
returns-clause-read g c = λ s harts m w f k p hot setup sim quiet. read_taken s harts m.cpu m.home m.mover w f k p hot m.flight setup sim quiet

pub returns-clause-read_exclusive : goal.returns-clause-read_exclusive
returns-clause-read_exclusive g c = λ s harts m w f k p hot setup sim quiet. read_exclusive_taken s harts m w f k p hot setup sim quiet

pub returns-clause-upgrade : goal.returns-clause-upgrade
returns-clause-upgrade g c = λ s harts m w f k p hot setup sim quiet. upgrade_taken s harts m w f k p hot sim quiet
