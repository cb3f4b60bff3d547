use Rattle.og_cli.proofs.report.report_line.Goals as goal

pub returns : goal.returns
returns g c = rw (← c.format.ensures.text, ← c.as_bytes-line.ensures.value, ← c.line_cause_name.ensures, ← c.as_bytes-name.ensures.value) c.report_parts.ensures
