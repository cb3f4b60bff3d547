use Rattle.og_cli.proofs.report.report.Goals as goal

pub returns-in-ShelfFault : goal.returns-in-ShelfFault
returns-in-ShelfFault g c = rw (c.in-ShelfFault.is, ← c.name_in.ensures, ← c.as_bytes-name.ensures.value) c.report_parts-in-ShelfFault.ensures

pub returns-in-Memory : goal.returns-in-Memory
returns-in-Memory g c = rw c.in-Memory.is c.report_parts-in-Memory.ensures

pub returns-in-SinkFault : goal.returns-in-SinkFault
returns-in-SinkFault g c = rw c.in-SinkFault.is c.report_parts-in-SinkFault.ensures
