use Rattle.og_relate_mover.proofs.Holders.{dropped_taken}
use Rattle.og_relate_mover.proofs.PageEvents.{cleaning_goes, freed_taken}
use Rattle.og_relate_mover.proofs.frames_are_reclaimed.Goals as goal

pub returns-clause-gathers : goal.returns-clause-gathers
returns-clause-gathers g c = λ s harts cpu home mover w p frame rest sim. dropped_taken s harts cpu home mover w p frame rest sim

pub returns-clause-cleans : goal.returns-clause-cleans
returns-clause-cleans g c = λ s harts cpu home mover w frame rest sim jb. cleaning_goes s harts cpu home mover w frame rest sim jb

pub returns-clause-frees : goal.returns-clause-frees
returns-clause-frees g c = λ s harts cpu home mover w frame rest sim. freed_taken s harts cpu home mover w frame rest sim
