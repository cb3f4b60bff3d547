use Rattle.og_slots.proofs.Room.{room_for}
use Rattle.og_slots.proofs.room_suffices.Goals as goal

pub returns : goal.returns
returns g c = λ key room ms within fits. room_for key g.S.Said.holds room within ms fits
