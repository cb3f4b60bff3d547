use Rattle.rv_decode.proofs.Apart as apart
use Rattle.rv_decode.proofs.no_word_twice.Goals as goal

pub returns : goal.returns
returns c = apart.no_word_twice
