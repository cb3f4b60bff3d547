use Rattle.og_refine.proofs.Lawful.{flat_notes}
use Rattle.og_refine.proofs.notes_are_flat.Goals as goal

pub returns : goal.returns
returns c = flat_notes
