-- What nothing hinders is done, or memory wants.
use Rattle.std.proofs.Common.{Option, None, Some, inl, inr, subst, sym}
use Rattle.og_io.specs.Outside.{ShelfState, SinkState}
use Rattle.og_words.specs.Words.{JobState, simulate, run, replay, storm, assemble, disassemble}
use Rattle.og_cli.specs.declared.exit.Exit.{Exit}
use Rattle.og_cli.proofs.Unhindered as alone
use Rattle.og_run.specs.Threaded.{by_threads}
use Rattle.og_run.specs.Command.{CommandEnds, EndsUnhindered}

pub ends_unhindered : (asked : Option JobState) (shelf after : ShelfState) (old new : SinkState) (answer : Exit) → CommandEnds asked shelf after old new answer → EndsUnhindered asked shelf after old new answer
ends_unhindered None shelf after old new answer ends = tt
ends_unhindered (Some (run image raw settings rounds turns)) shelf after old new answer (inl left) = λ u. inr left.0
ends_unhindered (Some (run image raw settings rounds turns)) shelf after old new answer (inr (s, numbers, (ended, ends, is))) =
    λ u. subst (λ (x : Exit). alone.HasEnded x) (sym is) (alone.file_ended raw image s (by_threads rounds turns) shelf after old new ended ends (u.accepted s numbers) u.read u.written)
ends_unhindered (Some (simulate image raw settings draw events)) shelf after old new answer ends = λ u. alone.ends_unhindered (Some (simulate image raw settings draw events)) shelf after old new answer ends (record { accepted = u.accepted; read = u.read; written = u.written })
ends_unhindered (Some (replay image choices raw settings given)) shelf after old new answer ends = λ u. alone.ends_unhindered (Some (replay image choices raw settings given)) shelf after old new answer ends (record { accepted = u.accepted; read = u.read; written = u.written })
ends_unhindered (Some (storm number settings loops events)) shelf after old new answer ends = λ u. alone.ends_unhindered (Some (storm number settings loops events)) shelf after old new answer ends (record { accepted = u.accepted; read = u.read; written = u.written })
ends_unhindered (Some (assemble name)) shelf after old new answer ends = λ u. alone.ends_unhindered (Some (assemble name)) shelf after old new answer ends (record { accepted = u.accepted; read = u.read; written = u.written })
ends_unhindered (Some (disassemble name)) shelf after old new answer ends = λ u. alone.ends_unhindered (Some (disassemble name)) shelf after old new answer ends (record { accepted = u.accepted; read = u.read; written = u.written })
