use Rattle.og_counters.specs.Kept.{counters_of}
use Rattle.og_counters.proofs.Steps.{reset_done}
use Rattle.og_counters.proofs.Counters.reset.Goals as goal

pub returns : goal.returns
returns c = reset_done (counters_of c.args.self.now) (counters_of c.clear.new.self) _ c.args.index c.clear.ensures c.set_noticed.ensures
