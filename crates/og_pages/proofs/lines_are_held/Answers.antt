use Rattle.og_pages.proofs.Runs.{reached, all_answered}
use Rattle.og_pages.proofs.Safe.{lines_held, copies_placed, frames_apart}
use Rattle.og_pages.proofs.lines_are_held.Goals as goal

pub returns-clause-held : goal.returns-clause-held
returns-clause-held g c = λ pages blocks s r. lines_held pages blocks s (reached pages blocks s r)

pub returns-clause-answered : goal.returns-clause-answered
returns-clause-answered g c = λ pages blocks s end rows r run. all_answered pages blocks rows s end (reached pages blocks s r) run

pub returns-clause-placed : goal.returns-clause-placed
returns-clause-placed g c = λ pages blocks s r. copies_placed pages blocks s (reached pages blocks s r)

pub returns-clause-apart : goal.returns-clause-apart
returns-clause-apart g c = λ pages blocks s r. frames_apart pages blocks s (reached pages blocks s r)
