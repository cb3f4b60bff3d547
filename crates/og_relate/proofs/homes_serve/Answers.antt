use Rattle.og_relate.proofs.Notice.{read_taken}
use Rattle.og_relate.proofs.BackTaken.{back_taken}
use Rattle.og_relate.proofs.Commands.{copy_served, frame_cleaned}
use Rattle.og_relate.proofs.homes_serve.Goals as goal

pub returns-clause-reads : goal.returns-clause-reads
returns-clause-reads g c = λ s harts cpu home mover w frame number p hot rest setup sim quiet. read_taken s harts cpu home mover w frame number p hot rest setup sim quiet

pub returns-clause-write_backs : goal.returns-clause-write_backs
returns-clause-write_backs g c = λ s harts cpu home mover w frame number p line rest setup sim. back_taken s harts cpu home mover w frame number p line rest setup sim

pub returns-clause-copies : goal.returns-clause-copies
returns-clause-copies g c = λ s harts cpu home mover w frame number line rest setup sim. copy_served s harts cpu home mover w frame number line rest setup sim

pub returns-clause-cleanings : goal.returns-clause-cleanings
returns-clause-cleanings g c = λ s harts cpu home mover w frame rest sim. frame_cleaned s harts cpu home mover w frame rest sim
