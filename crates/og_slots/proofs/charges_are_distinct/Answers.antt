use Rattle.og_slots.proofs.Flight.{fits_coarser}
use Rattle.og_slots.proofs.charges_are_distinct.Goals as goal

pub returns : goal.returns
returns g c = λ key charge ms h fits. fits_coarser key charge g.S.Said.holds h ms fits
