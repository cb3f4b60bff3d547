use Rattle.og_machine.proofs.Refusals.{act_exact, step_allowed, take_step}
use Rattle.og_machine.proofs.laws.refusals_fit_steps.Goals as goal

pub returns-clause-acts : goal.returns-clause-acts
returns-clause-acts c = act_exact

pub returns-clause-steps : goal.returns-clause-steps
returns-clause-steps c = step_allowed

pub returns-clause-takes : goal.returns-clause-takes
returns-clause-takes c = take_step
