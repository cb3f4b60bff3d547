use Rattle.std.proofs.Common.{◌+◌}
use Rattle.og_whole.proofs.Runs.{reached}
use Rattle.og_whole.proofs.KeysApart.{one_message}
use Rattle.og_whole.proofs.KeyCount.{at_most_keys}
use Rattle.og_whole.proofs.keys_are_distinct.Goals as goal

pub returns-clause-apart : goal.returns-clause-apart
returns-clause-apart g c = λ nodes frames pages blocks w x y r a b e. one_message nodes frames pages blocks w (reached (nodes + 1) nodes pages blocks w r) x y a b e

pub returns-clause-room : goal.returns-clause-room
returns-clause-room g c = λ nodes frames pages blocks w messages r fits. at_most_keys nodes frames pages blocks w (reached (nodes + 1) nodes pages blocks w r) messages fits
