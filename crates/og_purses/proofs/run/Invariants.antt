use Rattle.std.proofs.Common.{◌*◌}
use Rattle.og_purses.proofs.run.Given as goal

abbrev pub ghosts-run_of : goal.ghosts-run_of
ghosts-run_of g a = record { size = a.actors; budget = a.budget; most = a.rounds * a.turns }
