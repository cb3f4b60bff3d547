use Rattle.std.proofs.Common.{sym}
use Rattle.std.proofs.Math.Path.{◌∙◌}
use Rattle.og_elf.proofs.Faultless.{all_within}
use Rattle.og_elf.proofs.read.loads_fault.Goals as goal

pub first_overlap-requires : goal.first_overlap-requires
first_overlap-requires c = all_within c.args.bytes.now c.args.loads.now c.requires.loads (sym c.first_out.ensures ∙ c.in_default.is)

pub has_entry-requires : goal.has_entry-requires
has_entry-requires c = all_within c.args.bytes.now c.args.loads.now c.requires.loads (sym c.first_out.ensures ∙ c.in_default.is)
