use Rattle.og_directory.proofs.Packing.{packed-words, state_of-packed}
use Rattle.og_directory.proofs.entry.Entry.of.Goals as goal

pub invariant_of-result : goal.invariant_of-result
invariant_of-result c = packed-words c.args.state c.head_word.result c.set_part.result c.head_word.ensures.fits c.head_word.ensures.value c.set_part.ensures

pub returns : goal.returns
returns c = state_of-packed c.args.state c.head_word.result c.set_part.result c.head_word.ensures.fits c.head_word.ensures.value c.set_part.ensures
