use Rattle.og_cli.proofs.report.report_fault.Goals as goal

pub returns-in-NoFrames : goal.returns-in-NoFrames
returns-in-NoFrames g c = rw (c.in-NoFrames.is, ← c.format.ensures.text, ← c.as_bytes-need.ensures.value, ← c.format-in-NoFrames.ensures.text, ← c.as_bytes-have.ensures.value) c.report_parts-in-NoFrames.ensures

pub returns-in-Elf : goal.returns-in-Elf
returns-in-Elf g c = rw c.in-Elf.is c.report_elf.ensures

pub returns-in-Raw : goal.returns-in-Raw
returns-in-Raw g c = rw c.in-Raw.is c.report_parts.ensures

pub returns-in-TooLong : goal.returns-in-TooLong
returns-in-TooLong g c = rw c.in-TooLong.is c.report_parts-in-TooLong.ensures
