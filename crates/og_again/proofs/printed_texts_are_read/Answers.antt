use Rattle.og_again.proofs.Replayed.{texts_are_read, simulations_print_texts}
use Rattle.og_again.proofs.printed_texts_are_read.Goals as goal

pub returns-clause-read : goal.returns-clause-read
returns-clause-read c = texts_are_read

pub returns-clause-simulated : goal.returns-clause-simulated
returns-clause-simulated c = simulations_print_texts
