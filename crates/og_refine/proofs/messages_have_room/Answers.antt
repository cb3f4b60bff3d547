use Rattle.og_refine.proofs.Lawful.{distinct_charges, enough_room}
use Rattle.og_refine.proofs.messages_have_room.Goals as goal

pub returns-clause-charges : goal.returns-clause-charges
returns-clause-charges c = distinct_charges

pub returns-clause-room : goal.returns-clause-room
returns-clause-room c = enough_room
