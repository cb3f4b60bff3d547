use Rattle.og_refine_waits.proofs.Processors.{start_patient, act_patient, take_patient}
use Rattle.og_refine_waits.proofs.processors_are_patient.Goals as goal

pub returns : goal.returns
returns c = record {
  start = λ image settings p. start_patient image settings p;
  act = λ image x h may. act_patient image x h may;
  take = λ image x kind h. take_patient image x kind h;
}
