use Rattle.og_refine_waits.proofs.Mover.{start_patient, act_patient, take_patient}
use Rattle.og_refine_waits.proofs.mover_is_patient.Goals as goal

pub returns : goal.returns
returns c = record {
  start = λ layout settings. start_patient layout settings;
  act = λ m can. act_patient m can;
  take = λ m message is h row. take_patient m message is h;
}
