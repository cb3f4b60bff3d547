use Rattle.std.proofs.Common.{◌≡◌, ℕ, List, Option, Result, Err, inr, subst, sym, ap, ◌∙◌}
use Rattle.og_cli.specs.declared.exit.Exit.{Exit}
use Rattle.og_words.specs.declared.WordsFault.{WordsFault}
use Rattle.og_words.specs.declared.WordsFault.TheVariants as words
use Rattle.og_io.specs.Outside.{ShelfState, SinkState, texts}
use Rattle.og_words.specs.Words.{JobState, job_of}
use Rattle.og_cli.specs.Exit.{FileNames, IsReported, error_line}
use Rattle.og_cli.specs.Command.{CommandEnds, no_names, names_of}
use Rattle.og_cli.proofs.Refused.{refused_ends, refused_line}
use Rattle.og_cli.proofs.Unhindered.{ends_unhindered}
use Rattle.og_cli.proofs.top.origin_alone.Goals as goal

same_fault : {X : Type 0} → (e f : WordsFault) → ◌≡◌ {A = Result X WordsFault} (Err e) (Err f) → e ≡ f
same_fault e f same = cc

pub returns-in-Err-clause-ends : goal.returns-in-Err-clause-ends
returns-in-Err-clause-ends g c =
    let shelf : ShelfState = g.F.Shelf.seen c.args.shelf.now in
    let old : SinkState = g.K.Sink.seen c.args.out.now in
    subst (λ (x : Exit). CommandEnds (job_of (texts c.args.words.now)) shelf shelf old old x) (sym c.refuse.ensures.answer)
    (refused_ends (job_of (texts c.args.words.now)) c.in-Err.fault shelf old (λ is. c.in-Err.ensures.words.0 (ap (λ (f : WordsFault). Err f) is)) (λ none. same_fault c.in-Err.fault words.Words (c.in-Err.ensures.words.1 none)))

pub returns-in-Err-clause-unhindered : goal.returns-in-Err-clause-unhindered
returns-in-Err-clause-unhindered g c =
    let shelf : ShelfState = g.F.Shelf.seen c.args.shelf.now in
    let old : SinkState = g.K.Sink.seen c.args.out.now in
    ends_unhindered (job_of (texts c.args.words.now)) shelf shelf old old c.refuse.result (returns-in-Err-clause-ends g c)

pub returns-in-Err-clause-reported : goal.returns-in-Err-clause-reported
returns-in-Err-clause-reported g c =
    let names : FileNames = names_of (job_of (texts c.args.words.now)) in
    let line : error_line no_names c.refuse.result ≡ error_line names c.refuse.result =
    subst (λ (x : Exit). error_line no_names x ≡ error_line names x) (sym c.refuse.ensures.answer) (refused_line no_names names c.in-Err.fault) in
    subst (λ (text : List ℕ). IsReported text (g.E.Sink.seen c.args.err.now) (g.E.Sink.seen c.refuse.new.err)) line c.refuse.ensures.reported

pub returns-clause-ends : goal.returns-clause-ends
returns-clause-ends g c =
    subst (λ (asked : Option JobState). CommandEnds asked (g.F.Shelf.seen c.args.shelf.now) (g.F.Shelf.seen c.perform-exit.new.shelf) (g.K.Sink.seen c.args.out.now) (g.K.Sink.seen c.perform-exit.new.out) c.perform-exit.result) (sym c.in-Ok.ensures.job)
    (inr c.perform-exit.ensures.ends)

pub returns-clause-unhindered : goal.returns-clause-unhindered
returns-clause-unhindered g c =
    ends_unhindered (job_of (texts c.args.words.now)) (g.F.Shelf.seen c.args.shelf.now) (g.F.Shelf.seen c.perform-exit.new.shelf) (g.K.Sink.seen c.args.out.now) (g.K.Sink.seen c.perform-exit.new.out) c.perform-exit.result (returns-clause-ends g c)

pub returns-clause-reported : goal.returns-clause-reported
returns-clause-reported g c =
    let names : _ ≡ names_of (job_of (texts c.args.words.now)) = c.names_of.ensures ∙ sym (ap (λ (j : Option JobState). names_of j) c.in-Ok.ensures.job) in
    subst (λ (n : FileNames). IsReported (error_line n c.perform-exit.result) (g.E.Sink.seen c.args.err.now) (g.E.Sink.seen c.report.new.err)) names c.report.ensures
