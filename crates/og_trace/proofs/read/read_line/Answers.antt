use Rattle.std.proofs.Common.{sym}
use Rattle.std.proofs.Math.Path.{◌∙◌}
use Rattle.og_trace.proofs.Uniqueness.{not_read, not_standing, not_in_range, not_written}
use Rattle.og_trace.proofs.read.read_line.Goals as goal

pub returns-in_default-clause-outside : goal.returns-in_default-clause-outside
returns-in_default-clause-outside c _ = not_read c.args.place c.args.line.now (sym c.in_default.ensures)

pub returns-then-not-may_stand-clause-outside : goal.returns-then-not-may_stand-clause-outside
returns-then-not-may_stand-clause-outside c _ = not_standing c.args.place c.args.line.now c.in-Some.item (sym c.in-Some.ensures) (sym c.may_stand.ensures ∙ c.if-not-may_stand.true)

pub returns-then-not-is_in_range-clause-outside : goal.returns-then-not-is_in_range-clause-outside
returns-then-not-is_in_range-clause-outside c _ = not_in_range c.args.place c.args.line.now c.in-Some.item (sym c.in-Some.ensures) (sym c.is_in_range.ensures ∙ c.if-not-is_in_range.true)

pub returns-else-branch-clause-outside : goal.returns-else-branch-clause-outside
returns-else-branch-clause-outside c _ = not_written c.args.place c.args.line.now c.in-Some.item (sym c.in-Some.ensures) (sym c.in_ok-is_text.ensures ∙ c.if-branch.false)
