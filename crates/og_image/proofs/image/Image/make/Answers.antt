use Rattle.og_image.proofs.Places.{loadable_permuted}
use Rattle.og_image.proofs.image.Image.make.Goals as goal

pub invariant_of-result : goal.invariant_of-result
invariant_of-result c = record { some = c.requires.nodes; loadable = loadable_permuted c.args.elf.entry c.args.elf.segments _ c.in_ok-segments.ensures.permutation c.requires.loadable; rising = c.in_ok-segments.ensures.rising }
