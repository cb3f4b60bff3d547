use Rattle.og_stores.proofs.Machines as machines
use Rattle.og_stores.proofs.sent_lines_are_low.Goals as goal

pub returns : goal.returns
returns c = machines.sent_lines_are_low
