use Rattle.og_refine.proofs.Lawful.{held_lines, held_bytes}
use Rattle.og_refine.proofs.lines_are_held.Goals as goal

pub returns-clause-lines : goal.returns-clause-lines
returns-clause-lines c = held_lines

pub returns-clause-bytes : goal.returns-clause-bytes
returns-clause-bytes c = held_bytes
