use Rattle.og_pages.proofs.TlbFilled.{fill_is_rows}
use Rattle.og_pages.proofs.TlbDropped.{forget_is_row, drop_is_row}
use Rattle.og_pages.proofs.tlb_slots_follow_entries.Goals as goal

pub returns : goal.returns
returns g c = record {
  filled = λ s slots index node page frame d h a shows. fill_is_rows s slots index node page frame d h a shows;
  forgotten = λ s slots node page d shows. forget_is_row s slots node page d shows;
  dropped = λ s slots node frame d shows. drop_is_row s slots node frame d shows;
}
