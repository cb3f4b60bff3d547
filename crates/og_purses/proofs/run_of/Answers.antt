use Rattle.og_purses.proofs.Purses.{has_room, ready}
use Rattle.og_purses.proofs.run_of.Goals as goal

pub run-requires-clause-has_room : goal.run-requires-clause-has_room
run-requires-clause-has_room g c κs within = has_room g.M.Rings.size g.M.Rings.budget g.M.Rings.most

pub run-requires-clause-ready : goal.run-requires-clause-ready
run-requires-clause-ready g c κs within = ready g.M.Rings.size g.M.Rings.budget g.M.Rings.most
