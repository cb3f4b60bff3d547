use Rattle.og_cli.proofs.report.report_elf.Goals as goal

pub returns : goal.returns
returns g c = rw (← c.format.ensures.text, ← c.as_bytes-offset.ensures.value, ← c.cause_name.ensures, ← c.as_bytes-name.ensures.value) c.report_parts.ensures
