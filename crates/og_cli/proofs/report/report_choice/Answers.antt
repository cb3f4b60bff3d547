use Rattle.og_cli.proofs.report.report_choice.Goals as goal

pub returns : goal.returns
returns g c = rw (← c.format.ensures.text, ← c.as_bytes-line.ensures.value, ← c.as_bytes-why.ensures.value) c.report_parts.ensures
