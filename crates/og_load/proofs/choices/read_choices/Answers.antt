use Rattle.std.proofs.Common.{◌≤◌, rules}
use Rattle.og_load.specs.Choices.{feeds_of}
use Rattle.og_load.proofs.Texts.{in_lines, few}
use Rattle.og_load.proofs.choices.read_choices.Goals as goal

pub returns-in-Some-clause-in_lines : goal.returns-in-Some-clause-in_lines
returns-in-Some-clause-in_lines c =
    in_lines c.args.bytes.now c.in-Ok.trace.head c.in-Ok.trace.choices c.in-Ok.trace.lines (record { notes = c.in-Ok.trace.notes; read = c.in-Ok.ensures.read })

pub returns-in-Some-clause-few : goal.returns-in-Some-clause-few
returns-in-Some-clause-few c =
    let feeds : feeds_of c.args.bytes.now ≤ 16777216 = search rules in
    few c.args.bytes.now c.in-Ok.trace.head c.in-Ok.trace.choices c.in-Ok.trace.lines (record { notes = c.in-Ok.trace.notes; read = c.in-Ok.ensures.read }) feeds
