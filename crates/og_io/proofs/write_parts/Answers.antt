use Rattle.std.proofs.Math.Path.{◌∙◌}
use Rattle.og_io.specs.Outside.{AppendsPrefix, parts_text}
use Rattle.og_io.proofs.Pieces.{on_err, prefix_of_part, split_part}
use Rattle.og_io.proofs.write_parts.Goals as goal

pub returns-in_err-write_all-clause-prefix : goal.returns-in_err-write_all-clause-prefix
returns-in_err-write_all-clause-prefix g c =
    on_err c.from_residual.result (AppendsPrefix (parts_text c.args.parts.now) (g.K.Sink.seen c.args.sink.now).held (g.K.Sink.seen c.write_all.new.sink).held)
    (prefix_of_part c.args.parts.now c.loop-part.part-index _ c.loop-part.invariant.split.0 (g.K.Sink.seen c.args.sink.now).held (g.K.Sink.seen c.loop-part.sink).held (g.K.Sink.seen c.write_all.new.sink).held c.loop-part-test.true c.loop-part.invariant.split.1 c.loop-part.invariant.split.2 c.in_err-write_all.ensures.prefix)

pub loop-part-preserved : goal.loop-part-preserved
loop-part-preserved g c = record {
  split = split_part c.args.parts.now c.loop-part.part-index _ c.loop-part.invariant.split.0 (g.K.Sink.seen c.args.sink.now).held (g.K.Sink.seen c.loop-part.sink).held (g.K.Sink.seen c.write_all.new.sink).held c.loop-part-test.true c.loop-part.invariant.split.1 c.loop-part.invariant.split.2 c.in_ok-write_all.ensures.whole;
  faults_stay = c.in_ok-write_all.ensures.no_fault (λ e. absurd (cc)) ∙ c.loop-part.invariant.faults_stay;
  wants_stay = c.in_ok-write_all.ensures.no_want (λ e. absurd (cc)) ∙ c.loop-part.invariant.wants_stay;
}
