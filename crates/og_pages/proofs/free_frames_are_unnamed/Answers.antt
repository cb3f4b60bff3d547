use Rattle.og_pages.proofs.Runs.{reached}
use Rattle.og_pages.proofs.Safe.{free_unnamed, target_unnamed, only_holders}
use Rattle.og_pages.proofs.free_frames_are_unnamed.Goals as goal

pub returns-clause-free : goal.returns-clause-free
returns-clause-free g c = λ pages blocks s r. free_unnamed pages blocks s (reached pages blocks s r)

pub returns-clause-target : goal.returns-clause-target
returns-clause-target g c = λ pages blocks s r. target_unnamed pages blocks s (reached pages blocks s r)

pub returns-clause-holders : goal.returns-clause-holders
returns-clause-holders g c = λ pages blocks s r. only_holders pages blocks s (reached pages blocks s r)
