use Rattle.og_pages.proofs.Safe.{free_unnamed, target_unnamed, only_holders}
use Rattle.og_whole.proofs.Runs.{reached}
use Rattle.og_whole.proofs.Safe.{free_clear}
use Rattle.og_whole.proofs.free_frames_are_unnamed.Goals as goal

pub returns-clause-free : goal.returns-clause-free
returns-clause-free g c = λ actors mover pages blocks w r. free_unnamed pages blocks w.pages (reached actors mover pages blocks w r).of_pages

pub returns-clause-clear : goal.returns-clause-clear
returns-clause-clear g c = λ actors mover pages blocks w r. free_clear actors mover pages blocks w r.inside (reached actors mover pages blocks w r)

pub returns-clause-target : goal.returns-clause-target
returns-clause-target g c = λ actors mover pages blocks w r. target_unnamed pages blocks w.pages (reached actors mover pages blocks w r).of_pages

pub returns-clause-holders : goal.returns-clause-holders
returns-clause-holders g c = λ actors mover pages blocks w r. only_holders pages blocks w.pages (reached actors mover pages blocks w r).of_pages
