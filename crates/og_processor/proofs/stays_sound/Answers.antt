use Rattle.og_processor.proofs.Sound.{acts_sound, takes_sound}
use Rattle.og_processor.proofs.stays_sound.Goals as goal

pub returns : goal.returns
returns c = record { acts = acts_sound; takes = takes_sound }
