use Rattle.std.proofs.Common.{arith}
use Rattle.og_elf.proofs.Faultless.{none_passes}
use Rattle.og_elf.proofs.read.elf_of.Goals as goal

pub segment_of-requires : goal.segment_of-requires
segment_of-requires c = none_passes _ c.args.loads.now c.requires.inside c.loop-header.header-index _ (omega arith)
