use Rattle.og_purses.proofs.Purses.{has_room, ready}
use Rattle.og_purses.proofs.by_hand.exchange_anew.Goals as goal

pub make-requires-clause-has_room : goal.make-requires-clause-has_room
make-requires-clause-has_room g c = has_room 2 1 2

pub make-requires-clause-ready : goal.make-requires-clause-ready
make-requires-clause-ready g c = ready 2 1 2
