use Rattle.og_slots.proofs.Flight.{fits_remove, fits_push, fits_append, fits_frame}
use Rattle.og_slots.proofs.Named.{fits_named}
use Rattle.og_slots.proofs.slots_are_kept.Goals as goal

pub returns : goal.returns
returns g c = record {
  taken = λ key ms i x fits e. fits_remove key g.S.Said.holds x ms i fits e;
  taken_named = λ key named ms x fits e. fits_named named key g.S.Said.holds x ms fits e;
  sent = λ key ms x fits a p. fits_push key g.S.Said.holds x ms fits a p;
  sent_many = λ key ms xs f h a. fits_append key g.S.Said.holds ms xs f h a;
  framed = λ key k ms h a fits. fits_frame key k g.S.Said.holds g.T.Said.holds h ms a fits;
}
