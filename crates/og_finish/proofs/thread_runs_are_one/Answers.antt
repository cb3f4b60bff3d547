use Rattle.og_finish.proofs.One.{thread_runs_are_one}
use Rattle.og_finish.proofs.thread_runs_are_one.Goals as goal

pub returns : goal.returns
returns c = thread_runs_are_one
