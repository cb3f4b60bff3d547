use Rattle.std.specs.Prelude.{string_bytes}
use Rattle.std.proofs.Common.{◌≡◌, ℕ, List, [], Option, Some, inr, refl, sym, subst, ap, ◌∙◌}
use Rattle.og_base.specs.Settings.{settings_seen}
use Rattle.og_io.specs.Outside.{texts}
use Rattle.og_words.specs.declared.job.Job.{Job}
use Rattle.og_words.specs.Words.{JobState, run, job_of, job_seen}
use Rattle.og_print.specs.Files.{FileEnds}
use Rattle.og_cli.specs.Exit.{FileNames, IsReported, error_line}
use Rattle.og_cli.specs.Command.{names_of}
use Rattle.og_run.specs.Threaded.{by_threads}
use Rattle.og_run.specs.Command.{CommandEnds}
use Rattle.og_run.proofs.Unhindered.{ends_unhindered}
use Rattle.og_run.proofs.top.origin.Goals as goal

pub returns-in-Ok-Run-clause-ends : goal.returns-in-Ok-Run-clause-ends
returns-in-Ok-Run-clause-ends g c =
    let job : job_of (texts c.args.words.now) ≡ Some (run (string_bytes c.in-Ok-Run.image) c.in-Ok-Run.raw (settings_seen c.in-Ok-Run.settings) c.in-Ok-Run.rounds c.in-Ok-Run.turns) =
    c.in-Ok-Run.ensures.job ∙ ap (λ (j : Job). Some (job_seen j)) c.in-Ok-Run.field-0-is in
    let name : c.as_str.result.now ≡ string_bytes c.in-Ok-Run.image = c.as_str.ensures.value in
    subst (λ (asked : Option JobState). CommandEnds asked (g.F.Shelf.seen c.args.shelf.now) (g.F.Shelf.seen c.run_file-run.new.shelf) (g.K.Sink.seen c.args.out.now) (g.K.Sink.seen c.run_file-run.new.out) c.ended-exit.result) (sym job)
    (inr (
      c.in-Ok-Run.settings,
      refl,
      (
        c.run_file-run.result,
        subst (λ (n : List ℕ). FileEnds c.in-Ok-Run.raw n c.in-Ok-Run.settings (by_threads c.in-Ok-Run.rounds c.in-Ok-Run.turns) (g.F.Shelf.seen c.args.shelf.now) (g.F.Shelf.seen c.run_file-run.new.shelf) (g.K.Sink.seen c.args.out.now) (g.K.Sink.seen c.run_file-run.new.out) c.run_file-run.result) name c.run_file-run.ensures.ends,
        c.ended-exit.ensures,
      ),
    ))

pub returns-in-Ok-Run-clause-unhindered : goal.returns-in-Ok-Run-clause-unhindered
returns-in-Ok-Run-clause-unhindered g c =
    ends_unhindered (job_of (texts c.args.words.now)) (g.F.Shelf.seen c.args.shelf.now) (g.F.Shelf.seen c.run_file-run.new.shelf) (g.K.Sink.seen c.args.out.now) (g.K.Sink.seen c.run_file-run.new.out) c.ended-exit.result (returns-in-Ok-Run-clause-ends g c)

pub returns-in-Ok-Run-clause-reported : goal.returns-in-Ok-Run-clause-reported
returns-in-Ok-Run-clause-reported g c =
    let job : job_of (texts c.args.words.now) ≡ Some (run (string_bytes c.in-Ok-Run.image) c.in-Ok-Run.raw (settings_seen c.in-Ok-Run.settings) c.in-Ok-Run.rounds c.in-Ok-Run.turns) =
    c.in-Ok-Run.ensures.job ∙ ap (λ (j : Job). Some (job_seen j)) c.in-Ok-Run.field-0-is in
    let named : List ℕ → FileNames = λ n. record { first = n; choices = [] } in
    let names : named c.as_str-in-Ok-Run.result.now ≡ names_of (job_of (texts c.args.words.now)) =
    ap named c.as_str-in-Ok-Run.ensures.value ∙ sym (ap (λ (j : Option JobState). names_of j) job) in
    subst (λ (n : FileNames). IsReported (error_line n c.ended-exit.result) (g.E.Sink.seen c.args.err.now) (g.E.Sink.seen c.report.new.err)) names c.report.ensures
