use Rattle.std.proofs.Common.{ap}
use Rattle.og_engine.specs.Kept.{KeptMachine}
use Rattle.og_engine.proofs.Counts.{stopped_is}
use Rattle.og_engine.proofs.Machine.stopped.Goals as goal

pub returns : goal.returns
returns c = stopped_is c.requires.made.0 c.args.self.now c.self.inside.running c.requires.made.1 (ap (λ (m : KeptMachine). m.running) c.self.view_is)
