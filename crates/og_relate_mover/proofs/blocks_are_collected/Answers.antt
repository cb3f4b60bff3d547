use Rattle.og_relate_mover.proofs.PageEvents.{move_begins}
use Rattle.og_relate_mover.proofs.BlockEvents.{ask_goes, reply_taken, ack_taken, refusal_taken}
use Rattle.og_relate_mover.proofs.blocks_are_collected.Goals as goal

pub returns-clause-begins : goal.returns-clause-begins
returns-clause-begins g c = λ s harts cpu home mover w a frame page new node count most rest sim jb rf rn ly ln lb. move_begins s harts cpu home mover w a frame page new node count most rest sim jb rf rn ly ln lb

pub returns-clause-asks : goal.returns-clause-asks
returns-clause-asks g c = λ s harts cpu home mover w page old new number rest sim jb. ask_goes s harts cpu home mover w page old new number rest sim jb

pub returns-clause-replies : goal.returns-clause-replies
returns-clause-replies g c = λ s harts cpu home mover w old number line due rest sim. reply_taken s harts cpu home mover w old number line due rest sim

pub returns-clause-acknowledged : goal.returns-clause-acknowledged
returns-clause-acknowledged g c = λ s harts cpu home mover w q old number rest sim. ack_taken s harts cpu home mover w q old number rest sim

pub returns-clause-refused : goal.returns-clause-refused
returns-clause-refused g c = λ s harts cpu home mover w old number rest sim. refusal_taken s harts cpu home mover w old number rest sim
