use Rattle.std.proofs.Common.{None, IfSome, drop, sym, subst}
use Rattle.og_io.specs.Outside.{ShelfState, SinkState, texts}
use Rattle.og_words.specs.Words.{job_of}
use Rattle.og_run.specs.Command.{ProgramEnds, EndsWithStatus}
use Rattle.og_run.proofs.program.run_program.Goals as goal

pub returns-clause-with_words : goal.returns-clause-with_words
returns-clause-with_words g c =
    let shelf : ShelfState = record { files = None; failed = texts c.make-shelf.result.failed.items } in
    let after : ShelfState = record { files = None; failed = texts c.run_words.new.shelf.failed.items } in
    let old : SinkState = record { held = None; faults = c.make-out.result.faults; wants = 0 } in
    let new : SinkState = record { held = None; faults = c.run_words.new.out.faults; wants = 0 } in
    let err_before : SinkState = record { held = None; faults = c.make-err.result.faults; wants = 0 } in
    let err_after : SinkState = record { held = None; faults = c.run_words.new.err.faults; wants = 0 } in
    let ended : EndsWithStatus (job_of (drop 1 (texts c.in-Some.arguments.items))) shelf after old new err_before err_after c.run_words.result =
    subst (λ items. EndsWithStatus (job_of (drop 1 (texts items))) shelf after old new err_before err_after c.run_words.result) c.deref.ensures.value c.run_words.ensures in
    let program : ProgramEnds (texts c.in-Some.arguments.items) c.run_words.result =
    (shelf, after, old, new, err_before, err_after, c.make-shelf.ensures.none_failed, c.make-out.ensures.no_faults, c.make-err.ensures.no_faults, ended) in
    subst (λ a. IfSome a (λ words. ProgramEnds (texts words.items) c.run_words.result)) (sym c.in-Some.is) program
