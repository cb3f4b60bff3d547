use Rattle.og_whole.proofs.Runs.{reached}
use Rattle.og_whole.proofs.Safe.{writer_alone, copies_placed}
use Rattle.og_whole.proofs.one_writer.Goals as goal

pub returns-clause-alone : goal.returns-clause-alone
returns-clause-alone g c = λ actors mover pages blocks w r. writer_alone actors mover pages blocks w r.inside (reached actors mover pages blocks w r)

pub returns-clause-placed : goal.returns-clause-placed
returns-clause-placed g c = λ actors mover pages blocks w r. copies_placed actors mover pages blocks w r.inside (reached actors mover pages blocks w r)
