use Rattle.std.proofs.Math.Path.{◌∙◌}
use Rattle.og_io.specs.Outside.{AppendsPrefix}
use Rattle.og_io.proofs.Pieces.{on_err, prefix_of_split, split_more}
use Rattle.og_io.proofs.write_all.Goals as goal

pub returns-in_err-written-clause-prefix : goal.returns-in_err-written-clause-prefix
returns-in_err-written-clause-prefix g c =
    on_err c.from_residual.result (AppendsPrefix c.args.text.now (g.K.Sink.seen c.args.sink.now).held (g.K.Sink.seen c.write_piece.new.sink).held)
    (prefix_of_split c.args.text.now c.loop-rest.invariant.split.0 c.loop-rest.rest.now (g.K.Sink.seen c.args.sink.now).held (g.K.Sink.seen c.write_piece.new.sink).held c.loop-rest.invariant.split.1 (c.in_err-written.ensures.nothing ∙ c.loop-rest.invariant.split.2))

pub loop-rest-preserved : goal.loop-rest-preserved
loop-rest-preserved g c = record { split = split_more c.args.text.now c.loop-rest.invariant.split.0 c.loop-rest.rest.now c.in_ok-written.written (g.K.Sink.seen c.args.sink.now).held (g.K.Sink.seen c.loop-rest.sink).held (g.K.Sink.seen c.write_piece.new.sink).held c.loop-rest.invariant.split.1 c.loop-rest.invariant.split.2 c.in_ok-written.ensures.appends; faults_stay = c.in_ok-written.ensures.no_fault (λ e. absurd (cc)) ∙ c.loop-rest.invariant.faults_stay; wants_stay = c.in_ok-written.ensures.no_want (λ e. absurd (cc)) ∙ c.loop-rest.invariant.wants_stay }
