use Rattle.rv_asm.proofs.WordsDecode as words
use Rattle.rv_asm.proofs.laws.words_decode.Goals as goal

pub returns : goal.returns
returns c = words.decodes
