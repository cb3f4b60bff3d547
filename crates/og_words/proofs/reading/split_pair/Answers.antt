use Rattle.std.proofs.Common.{lit<}
use Rattle.og_words.specs.Words.{is_equals}
use Rattle.og_words.proofs.Places.{split_cases}
use Rattle.og_words.proofs.reading.split_pair.Goals as goal

pub returns : goal.returns
returns c = split_cases is_equals c.args.word.now c.split_once.result (c.split_once.ensures.byte (lit< tt) (λ w o h. h))
