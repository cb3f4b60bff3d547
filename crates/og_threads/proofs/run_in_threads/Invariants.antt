use Rattle.std.proofs.Common.{◌*◌}
use Rattle.og_machine.specs.Machine.{setup_of}
use Rattle.og_threads.proofs.run_in_threads.Given as goal

abbrev pub ghosts-run_of : goal.ghosts-run_of
ghosts-run_of g a = record { setup = setup_of a.image.now a.settings.now; most = a.rounds * a.turns }
