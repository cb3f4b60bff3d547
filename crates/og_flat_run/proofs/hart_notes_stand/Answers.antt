use Rattle.og_flat_run.proofs.Notes.{notes_stand}
use Rattle.og_flat_run.proofs.hart_notes_stand.Goals as goal

pub returns : goal.returns
returns c before after event noted is mine = notes_stand before after event noted is mine
