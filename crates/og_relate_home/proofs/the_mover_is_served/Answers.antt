use Rattle.og_relate_home.proofs.Poison.{rearmed}
use Rattle.og_relate_home.proofs.Table.{copy_in_taken, clean_frame_taken}
use Rattle.og_relate_home.proofs.Taken.{poison_read_taken}
use Rattle.og_relate_home.proofs.the_mover_is_served.Goals as goal

pub returns-clause-poison_read : goal.returns-clause-poison_read
returns-clause-poison_read g c = λ s harts m w f k sim. poison_read_taken s harts m w f k sim

pub returns-clause-rearm : goal.returns-clause-rearm
returns-clause-rearm g c = λ s harts m w f sim. rearmed s harts m.cpu m.home m.mover w f m.flight sim

pub returns-clause-copy_in : goal.returns-clause-copy_in
returns-clause-copy_in g c = λ s harts m w f k l setup sim. copy_in_taken s harts m w f k l setup sim

pub returns-clause-clean_frame : goal.returns-clause-clean_frame
returns-clause-clean_frame g c = λ s harts m w f sim. clean_frame_taken s harts m w f sim
