use Rattle.og_again.proofs.Replayed.{texts_replay}
use Rattle.og_again.proofs.printed_texts_replay.Goals as goal

pub returns : goal.returns
returns c = texts_replay
