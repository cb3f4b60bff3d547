use Rattle.og_whole.specs.Kind.{kind}
use Rattle.og_whole.proofs.Runs.{reached}
use Rattle.og_whole.proofs.PageRows.{page_entry}
use Rattle.og_whole.proofs.HomeEntries.{blank_above, entries_met}
use Rattle.og_whole.proofs.Worlds.{cleaning_keeps}
use Rattle.og_whole.proofs.home_entries_follow.Goals as goal

pub returns-clause-met : goal.returns-clause-met
returns-clause-met g c = λ actors mover pages blocks w r. entries_met actors mover pages blocks w (reached actors mover pages blocks w r)

pub returns-clause-page_rows : goal.returns-clause-page_rows
returns-clause-page_rows g c = λ actors mover pages blocks w row frame number r may not_cleans lt.
    let inv = reached actors mover pages blocks w r in
    let l = inv.link frame number lt in
    page_entry pages blocks mover w.pages frame number (w.block frame number) row may.0 inv.of_pages lt may.1 l.phase_is l.parts.mover.4 not_cleans

pub returns-clause-cleaning : goal.returns-clause-cleaning
returns-clause-cleaning g c = λ actors mover pages blocks w cleaned frame number may other. cleaning_keeps actors mover pages blocks w cleaned frame number may other

pub returns-clause-block_rows : goal.returns-clause-block_rows
returns-clause-block_rows g c = λ actors mover pages blocks w page other frame number row h may. blank_above mover page other frame number (kind row) w.pages h may.3
