use Rattle.og_cli.proofs.report.report_choices.Goals as goal

pub returns-in-Refused : goal.returns-in-Refused
returns-in-Refused g c = rw (c.in-Refused.is, ← c.refusal_name.ensures) c.report_choice-in-Refused.ensures

pub returns-in-TooLong : goal.returns-in-TooLong
returns-in-TooLong g c = rw c.in-TooLong.is c.report_parts.ensures
