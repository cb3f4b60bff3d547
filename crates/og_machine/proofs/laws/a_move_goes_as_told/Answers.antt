use Rattle.og_machine.proofs.Computed.{page_moves, frame_is_freed}
use Rattle.og_machine.proofs.laws.a_move_goes_as_told.Goals as goal

pub returns-clause-moves : goal.returns-clause-moves
returns-clause-moves c = page_moves

pub returns-clause-freed : goal.returns-clause-freed
returns-clause-freed c = frame_is_freed
