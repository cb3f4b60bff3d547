use Rattle.og_machine.specs.Machine.{setup_of}
use Rattle.og_threads.proofs.tests.a_walk_by_hand.Given as goal

abbrev pub ghosts-play : goal.ghosts-play
ghosts-play g a = record { setup = setup_of a.image.now a.settings.now; most = 5 }
