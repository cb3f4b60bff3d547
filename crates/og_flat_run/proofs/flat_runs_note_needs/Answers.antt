use Rattle.og_machine.specs.FlatRun.{flat_begin}
use Rattle.og_flat_run.proofs.Notes.{entry_needed}
use Rattle.og_flat_run.proofs.flat_runs_note_needs.Goals as goal

pub returns : goal.returns
returns c image settings before after p noted run = entry_needed image (flat_begin image settings) before after p noted run
